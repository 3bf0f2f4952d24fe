use Rattle.wac_encode_tests.specs.private.Merged.{AreClassResources}
use Rattle.wac_encode_tests.proofs.merged.class_resources.Given as goal

abbrev pub invariant-loop-i : goal.invariant-loop-i
invariant-loop-i g l = AreClassResources l.fn.merge l.bound.keys
