use Rattle.std.specs.Prelude.{true}
use Rattle.wac_encode_tests.specs.private.Opened.{IsRootOf}
use Rattle.wac_encode_tests.proofs.depth.imported.Given as goal

abbrev pub invariant-loop-i : goal.invariant-loop-i
invariant-loop-i g l = IsRootOf l.fn.items.types true l.state
