use Rattle.std.proofs.Common.{map}
use Rattle.wac_types_collection.specs.collection.Collection.{value_types, seconds}
use Rattle.wac_types.specs.private.comparison.Compare.{entry_in}
use Rattle.wac_types.proofs.lemmas.comparison.Agreeing.{AgreeBelow}
use Rattle.wac_types.specs.private.comparison.Settling.{Asks}
use Rattle.wac_types.proofs.comparison.comparison.Comparison.ask_named.Given as goal

-- those so far are settled
abbrev pub invariant-loop-i : goal.invariant-loop-i
invariant-loop-i l = Asks l.self.turned l.self.first.now l.self.second.now (value_types (seconds l.vs)) (value_types (seconds l.ws)) l.initial.asked l.asked (AgreeBelow l.i (map (entry_in l.self.first.now) l.vs) (map (entry_in l.self.second.now) l.ws))
