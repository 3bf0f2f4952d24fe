use Rattle.wac_encode_tests.specs.private.Opened.{IsRootOf}
use Rattle.wac_encode_tests.proofs.defined.define_all.Given as goal

abbrev pub invariant-loop-i : goal.invariant-loop-i
invariant-loop-i g l = IsRootOf l.fn.items.types l.fn.merged l.state
