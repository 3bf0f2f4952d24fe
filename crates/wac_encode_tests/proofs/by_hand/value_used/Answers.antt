use Rattle.std.proofs.Common.{◌∙◌, sym, rules}
use Rattle.wac_types_shapes.specs.declared.shapes.component.«Type».TheVariants as ty
use Rattle.wac_encode_tests.proofs.HandWritten.{held-as, ready-as, writes-after}
use Rattle.wac_encode_tests.proofs.by_hand.value_used.Goals as goal

pub value_type-written-requires-clause-held : goal.value_type-written-requires-clause-held
value_type-written-requires-clause-held g c = held-as c.args.types.now c.new-encoder.result.types.now (ty.Value c.args.value) c.new-encoder.ensures.types (sym c.contains.ensures ∙ search rules)

pub value_type-written-requires-clause-state : goal.value_type-written-requires-clause-state
value_type-written-requires-clause-state g c = ready-as c.args.types.now c.new-encoder.result.types.now c.args.merged c.new-encoder.result.merged c.args.state.now c.new-encoder.ensures.types c.new-encoder.ensures.merged c.requires

pub returns : goal.returns
returns g c =
    writes-after c.args.types.now c.new-encoder.result.types.now c.args.merged c.new-encoder.result.merged c.args.state.now c.value_type-written.new.state c.value_type-written.result c.expect-in_use.result
    c.new-encoder.ensures.types c.new-encoder.ensures.merged c.expect-in_use.ensures c.value_type-written.ensures.writes c.requires
