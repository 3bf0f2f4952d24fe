use Rattle.wac_encode_tests.specs.private.Stacks.{IsGoodRoot}
use Rattle.wac_encode_tests.proofs.stacks.written.Given as goal

abbrev pub invariant-loop-step : goal.invariant-loop-step
invariant-loop-step g l = IsGoodRoot l.fn.items.types l.state
