use Rattle.wac_encode_tests.specs.private.Opened.{BindsAll}
use Rattle.wac_encode_tests.proofs.opened.bound_resources.Given as goal

abbrev pub invariant-loop-i : goal.invariant-loop-i
invariant-loop-i g l = BindsAll l.fn.merged l.fn.state l.bound.keys
