use Rattle.std.proofs.Common.{◌≡◌, ◌∙◌, true, sym, subst, rules}
use Rattle.wac_types_shapes.specs.declared.shapes.component.«Type».TheVariants as ty
use Rattle.wac_types_collection.specs.collection.Collection.{Collection, holds_value}
use Rattle.wac_encode_tests.proofs.OpenScopes.{ready, closed-as, good-on, written-as, on-ok-is, if-ok-is}
use Rattle.wac_encode_values.specs.private.Values.{IsWrittenAs}
use Rattle.wac_encode_tests.proofs.stacks.write_value.Goals as goal

pub value_type-requires-clause-closed : goal.value_type-requires-clause-closed
value_type-requires-clause-closed g c = closed-as c.args.types.now c.new-encoder.result.types.now c.args.closed.now c.new-encoder.result.closed.now c.new-encoder.ensures.types c.new-encoder.ensures.closed c.requires.closed

pub value_type-requires-clause-held : goal.value_type-requires-clause-held
value_type-requires-clause-held g c = subst (λ (k : Collection). holds_value k c.args.value ≡ true) (sym c.new-encoder.ensures.types) (sym c.contains.ensures ∙ search rules)

pub value_type-requires-clause-ready : goal.value_type-requires-clause-ready
value_type-requires-clause-ready g c = ready c.args.types.now c.new-encoder.result.types.now c.new-encoder.result.merged c.args.state.now (ty.Value c.args.value) c.new-encoder.ensures.types c.new-encoder.ensures.merged c.requires.good (c.may_write.ensures (search rules))

pub returns-clause-good : goal.returns-clause-good
returns-clause-good g c = good-on c.args.types.now c.new-encoder.result.types.now c.new-encoder.result.merged c.args.state.now c.value_type.new.state c.new-encoder.ensures.types c.new-encoder.ensures.merged (on-ok-is c.value_type.result c.expect.result c.expect.ensures c.value_type.ensures.goes) c.requires.good

pub returns-clause-written : goal.returns-clause-written
returns-clause-written g c = written-as c.args.types.now c.new-encoder.result.types.now c.new-encoder.result.merged c.value_type.new.state c.args.value c.expect.result c.new-encoder.ensures.types c.new-encoder.ensures.merged (if-ok-is (IsWrittenAs c.new-encoder.result.types.now c.new-encoder.result.merged c.value_type.new.state c.args.value) c.value_type.result c.expect.result c.expect.ensures c.value_type.ensures.written)
