use Rattle.wac_merge_classes.specs.entries.Bindings.{AreHeld}
use Rattle.wac_encode_tests.proofs.merged.aggregated.Given as goal

abbrev pub invariant-loop-i : goal.invariant-loop-i
invariant-loop-i g l = AreHeld l.fn.items.types l.aggregator.entries
