use Rattle.std.specs.Prelude.{true}
use Rattle.wac_encode_stacks.specs.Good.{nothing_bound}
use Rattle.wac_encode_tests.proofs.by_hand.types_are_added_between_two_encoders.Goals as goal

pub used-requires : goal.used-requires
used-requires g c = (nothing_bound, c.new-state.ensures.state c.new-items.result.types true)
