use Rattle.wac_encode_stacks.specs.Good.{nothing_bound}
use Rattle.wac_encode_tests.proofs.by_hand.found.Goals as goal

pub imported-requires : goal.imported-requires
imported-requires g c = (nothing_bound, c.new-state.ensures.state c.args.items.now.types c.args.merged)
