use Rattle.std.proofs.Common.{◌+◌, ◌-◌, length}
use Rattle.wac_merge_agreement.specs.private.agreement.ReachSteps.{AreFlags}
use Rattle.wac_merge_agreement.proofs.agreement.flags.flag_through.Given as goal

abbrev pub invariant-loop-flags : goal.invariant-loop-flags
invariant-loop-flags l = AreFlags l.nodes l.flags.items

abbrev pub decreases-loop-flags : goal.decreases-loop-flags
decreases-loop-flags l = l.number + 1 - length l.flags.items
