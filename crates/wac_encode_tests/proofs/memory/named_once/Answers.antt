use Rattle.std.specs.Prelude.{true}
use Rattle.wac_types_shapes.specs.declared.shapes.component.«Type».TheVariants as ty
use Rattle.wac_encode_stacks.specs.Good.{nothing_bound}
use Rattle.wac_encode_tests.proofs.HandWritten.{held-as, ready-as, value-named}
use Rattle.wac_encode_tests.proofs.memory.named_once.Goals as goal

pub value_type-written-requires-clause-held : goal.value_type-written-requires-clause-held
value_type-written-requires-clause-held c = held-as c.args.types.now c.new-encoder.result.types.now (ty.Value c.args.value) c.new-encoder.ensures.types c.requires

pub value_type-written-requires-clause-state : goal.value_type-written-requires-clause-state
value_type-written-requires-clause-state c =
    ready-as c.args.types.now c.new-encoder.result.types.now true c.new-encoder.result.merged c.new-state.result c.new-encoder.ensures.types c.new-encoder.ensures.merged
    (nothing_bound, c.new-state.ensures.state c.args.types.now true)

pub bind-requires-clause-held : goal.bind-requires-clause-held
bind-requires-clause-held c = c.requires

pub bind-requires-clause-stands : goal.bind-requires-clause-stands
bind-requires-clause-stands c =
    value-named c.args.types.now c.new-encoder.result.types.now true c.new-encoder.result.merged c.new-state.result c.value_type-written.new.state c.args.value c.value_type-written.result
    c.in_ok-in_use.in_use c.in-Index.index c.new-encoder.ensures.types c.new-encoder.ensures.merged c.in_ok-in_use.was c.in-Index.is c.value_type-written.ensures.writes c.value_type-written.ensures.means
    c.value_type-written.ensures.fault (nothing_bound, c.new-state.ensures.state c.args.types.now true)
