use Rattle.std.proofs.Common.{◌+◌, ◌-◌, length}
use Rattle.wac_merge_agreement.specs.private.agreement.Marks.{AreMarks}
use Rattle.wac_merge_agreement.proofs.agreement.marks.mark_through.Given as goal

abbrev pub invariant-loop-marks : goal.invariant-loop-marks
invariant-loop-marks l = AreMarks l.nodes l.marks.items

abbrev pub decreases-loop-marks : goal.decreases-loop-marks
decreases-loop-marks l = l.number + 1 - length l.marks.items
