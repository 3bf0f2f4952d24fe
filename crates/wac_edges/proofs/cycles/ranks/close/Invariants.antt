use Rattle.std.proofs.Common.{length}
use Rattle.wac_edges.specs.private.cycles.Numbers.{AreBelow}
use Rattle.wac_edges.proofs.cycles.ranks.close.Given as goal

abbrev pub invariant-loop-members : goal.invariant-loop-members
invariant-loop-members l = AreBelow (length l.ranks) l.members.items

abbrev pub decreases-loop-members : goal.decreases-loop-members
decreases-loop-members l = length l.members.items
