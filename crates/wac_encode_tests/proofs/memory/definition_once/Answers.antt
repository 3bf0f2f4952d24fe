use Rattle.std.specs.Prelude.{true}
use Rattle.wac_encode_stacks.specs.Good.{nothing_bound}
use Rattle.wac_encode_tests.proofs.HandWritten.{held-as, ready-as}
use Rattle.wac_encode_tests.proofs.memory.definition_once.Goals as goal

pub definition-requires-clause-held : goal.definition-requires-clause-held
definition-requires-clause-held c = held-as c.args.types.now c.new-encoder.result.types.now c.args.ty c.new-encoder.ensures.types c.requires

pub definition-requires-clause-ready : goal.definition-requires-clause-ready
definition-requires-clause-ready c =
    ready-as c.args.types.now c.new-encoder.result.types.now true c.new-encoder.result.merged c.new-state.result c.new-encoder.ensures.types c.new-encoder.ensures.merged
    (nothing_bound, c.new-state.ensures.state c.args.types.now true)
