use Rattle.wac_merge_classes.specs.entries.Bindings.{AreHeld}
use Rattle.wac_merge_tests.proofs.values.asked_entries.Given as goal

abbrev pub invariant-loop-i : goal.invariant-loop-i
invariant-loop-i g l = AreHeld l.types l.entries.items
