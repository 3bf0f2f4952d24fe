use Rattle.std.proofs.Common.{length, ◌+◌}
use Rattle.wac_edges.specs.private.cycles.CycleSearch.{IsWalk}
use Rattle.wac_edges.proofs.lemmas.cycles.CycleSearch.{unreached}
use Rattle.wac_edges.proofs.cycles.cycles.is_on_cycle.Given as goal

abbrev pub invariant-loop-a : goal.invariant-loop-a
invariant-loop-a l = IsWalk l.targets l.n l.reached.items l.pending.items

abbrev pub decreases-loop-a : goal.decreases-loop-a
decreases-loop-a l = unreached l.reached.items + length l.pending.items
