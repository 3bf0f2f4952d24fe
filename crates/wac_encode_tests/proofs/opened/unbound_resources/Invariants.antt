use Rattle.wac_encode_tests.specs.private.Opened.{BindsNoneOf}
use Rattle.wac_encode_tests.proofs.opened.unbound_resources.Given as goal

abbrev pub invariant-loop-i : goal.invariant-loop-i
invariant-loop-i g l = BindsNoneOf l.fn.merged l.fn.state l.own.keys
