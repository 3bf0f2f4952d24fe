use Rattle.std.proofs.Common.{length}
use Rattle.wac_edges.proofs.cycles.ranks.join.Given as goal

abbrev pub decreases-loop-group : goal.decreases-loop-group
decreases-loop-group l = length l.groups.items
