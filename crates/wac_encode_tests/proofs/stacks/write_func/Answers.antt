use Rattle.std.proofs.Common.{◌∙◌, sym, subst, rules}
use Rattle.wac_types_shapes.specs.declared.shapes.component.«Type».TheVariants as ty
use Rattle.wac_types_collection.specs.collection.Collection.{Collection, HasFunc}
use Rattle.wac_encode_tests.proofs.OpenScopes.{ready, closed-as, func-there}
use Rattle.wac_encode_tests.proofs.stacks.write_func.Goals as goal

pub may_write_func-requires-clause-held : goal.may_write_func-requires-clause-held
may_write_func-requires-clause-held g c = func-there c.args.types.now c.args.id (sym c.contains.ensures ∙ search rules)

pub func-requires-clause-closed : goal.func-requires-clause-closed
func-requires-clause-closed g c = closed-as c.args.types.now c.new-encoder.result.types.now c.args.closed.now c.new-encoder.result.closed.now c.new-encoder.ensures.types c.new-encoder.ensures.closed c.requires.closed

pub func-requires-clause-held : goal.func-requires-clause-held
func-requires-clause-held g c = subst (λ (k : Collection). HasFunc k c.args.id) (sym c.new-encoder.ensures.types) (func-there c.args.types.now c.args.id (sym c.contains.ensures ∙ search rules))

pub func-requires-clause-ready : goal.func-requires-clause-ready
func-requires-clause-ready g c = ready c.args.types.now c.new-encoder.result.types.now c.new-encoder.result.merged c.args.state.now (ty.Func c.args.id) c.new-encoder.ensures.types c.new-encoder.ensures.merged c.requires.good (c.may_write_func.ensures (search rules))
