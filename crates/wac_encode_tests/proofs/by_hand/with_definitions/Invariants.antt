use Rattle.wac_encode_tests.specs.private.ByHand.{IsReadyFor}
use Rattle.wac_encode_tests.proofs.by_hand.with_definitions.Given as goal

abbrev pub invariant-loop-i : goal.invariant-loop-i
invariant-loop-i g l = IsReadyFor l.fn.items.types l.fn.merged l.state
