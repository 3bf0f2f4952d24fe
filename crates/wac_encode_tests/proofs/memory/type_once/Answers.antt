use Rattle.std.specs.Prelude.{true}
use Rattle.wac_encode_stacks.specs.Good.{nothing_bound}
use Rattle.wac_encode_tests.proofs.HandWritten.{held-as, ready-as}
use Rattle.wac_encode_tests.proofs.memory.type_once.Goals as goal

pub as_it_is-requires-clause-held : goal.as_it_is-requires-clause-held
as_it_is-requires-clause-held c = held-as c.args.types.now c.new-encoder.result.types.now c.args.ty c.new-encoder.ensures.types c.requires

pub as_it_is-requires-clause-ready : goal.as_it_is-requires-clause-ready
as_it_is-requires-clause-ready c =
    ready-as c.args.types.now c.new-encoder.result.types.now true c.new-encoder.result.merged c.new-state.result c.new-encoder.ensures.types c.new-encoder.ensures.merged
    (nothing_bound, c.new-state.ensures.state c.args.types.now true)
