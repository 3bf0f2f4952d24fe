use Rattle.std.specs.Prelude.{true}
use Rattle.wac_types_shapes.specs.declared.shapes.component.«Type».TheVariants as ty
use Rattle.wac_encode_stacks.specs.Good.{nothing_bound}
use Rattle.wac_encode_tests.proofs.HandWritten.{held-as, ready-as}
use Rattle.wac_encode_tests.proofs.memory.import_once.Goals as goal

pub import_resource-requires-clause-held : goal.import_resource-requires-clause-held
import_resource-requires-clause-held c = held-as c.args.types.now c.new-encoder.result.types.now (ty.Resource c.args.resource) c.new-encoder.ensures.types c.requires

pub import_resource-requires-clause-state : goal.import_resource-requires-clause-state
import_resource-requires-clause-state c =
    ready-as c.args.types.now c.new-encoder.result.types.now true c.new-encoder.result.merged c.new-state.result c.new-encoder.ensures.types c.new-encoder.ensures.merged
    (nothing_bound, c.new-state.ensures.state c.args.types.now true)
