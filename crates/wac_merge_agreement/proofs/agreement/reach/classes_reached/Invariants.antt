use Rattle.wac_merge_agreement.specs.private.agreement.ReachSteps.{AreReached}
use Rattle.wac_edges.proofs.KeySets.{above}
use Rattle.wac_merge_agreement.proofs.agreement.reach.classes_reached.Given as goal

abbrev pub invariant-loop-next : goal.invariant-loop-next
invariant-loop-next l = AreReached l.nodes l.number l.classes.keys l.pending.keys

abbrev pub decreases-loop-next : goal.decreases-loop-next
decreases-loop-next l = above l.pending.keys
