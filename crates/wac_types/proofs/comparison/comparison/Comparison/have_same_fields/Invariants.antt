use Rattle.std.proofs.Common.{map}
use Rattle.wac_types.specs.private.comparison.Compare.{entry_in}
use Rattle.wac_types.proofs.lemmas.comparison.Agreeing.{AgreeBelow}
use Rattle.wac_types.proofs.comparison.comparison.Comparison.have_same_fields.Given as goal

-- those so far are the same
abbrev pub invariant-loop-i : goal.invariant-loop-i
invariant-loop-i l = AgreeBelow l.i (map (entry_in l.self.first.now) l.vs) (map (entry_in l.self.second.now) l.ws)
