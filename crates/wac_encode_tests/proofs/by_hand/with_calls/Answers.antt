use Rattle.wac_encode_stacks.specs.Good.{nothing_bound}
use Rattle.wac_encode_tests.proofs.by_hand.with_calls.Goals as goal

pub loop-i-init : goal.loop-i-init
loop-i-init g c = (nothing_bound, c.new-state.ensures.state c.args.items.now.types c.args.merged)

pub bytes-requires : goal.bytes-requires
bytes-requires g c = c.loop-i.invariant.1.root
