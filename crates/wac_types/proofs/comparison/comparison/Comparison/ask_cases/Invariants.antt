use Rattle.std.proofs.Common.{map}
use Rattle.wac_types_collection.specs.collection.Collection.{value_types, case_values}
use Rattle.wac_types.specs.private.comparison.Compare.{case_in}
use Rattle.wac_types.proofs.lemmas.comparison.Agreeing.{AgreeBelow}
use Rattle.wac_types.specs.private.comparison.Settling.{Asks}
use Rattle.wac_types.proofs.comparison.comparison.Comparison.ask_cases.Given as goal

-- those so far are settled
abbrev pub invariant-loop-i : goal.invariant-loop-i
invariant-loop-i l = Asks l.self.turned l.self.first.now l.self.second.now (value_types (case_values l.cs)) (value_types (case_values l.ds)) l.initial.asked l.asked (AgreeBelow l.i (map (case_in l.self.first.now) l.cs) (map (case_in l.self.second.now) l.ds))
