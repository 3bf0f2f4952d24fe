use Rattle.std.specs.Prelude.{true}
use Rattle.wac_types_shapes.specs.declared.shapes.component.«Type».TheVariants as ty
use Rattle.wac_encode_stacks.specs.Good.{nothing_bound}
use Rattle.wac_encode_tests.proofs.HandWritten.{held-as, ready-as}
use Rattle.wac_encode_tests.proofs.memory.value_once.Goals as goal

pub value_type-requires-clause-held : goal.value_type-requires-clause-held
value_type-requires-clause-held c = held-as c.args.types.now c.new-encoder.result.types.now (ty.Value c.args.value) c.new-encoder.ensures.types c.requires

pub value_type-requires-clause-state : goal.value_type-requires-clause-state
value_type-requires-clause-state c =
    ready-as c.args.types.now c.new-encoder.result.types.now true c.new-encoder.result.merged c.new-state.result c.new-encoder.ensures.types c.new-encoder.ensures.merged
    (nothing_bound, c.new-state.ensures.state c.args.types.now true)
