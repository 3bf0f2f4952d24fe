use Rattle.std.proofs.Common.{◌≡◌, drop}
use Rattle.wac_edges.specs.private.Arranging.{with_all}
use Rattle.wac_merge_agreement.specs.private.agreement.Resting.{used_classes}
use Rattle.wac_merge_agreement.proofs.agreement.rests.put_used.Given as goal

abbrev pub invariant-loop-i : goal.invariant-loop-i
invariant-loop-i l = with_all l.numbers.keys (used_classes l.types l.classes.names (drop l.i l.used.keys)) ≡ with_all l.initial.numbers.keys (used_classes l.types l.classes.names l.used.keys)
