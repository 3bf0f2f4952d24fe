use Rattle.std.proofs.Common.{sym, subst, ◌∙◌}
use Rattle.wac_types_shapes.specs.declared.shapes.component.ValueType.{ValueType}
use Rattle.wac_types_shapes.specs.declared.shapes.component.«Type».TheVariants as ty
use Rattle.wac_encode_tests.specs.private.Stacks.{MayWrite}
use Rattle.wac_encode_tests.proofs.OpenScopes.{may-primitive, may-own, may-borrow, may-closed}
use Rattle.wac_encode_tests.proofs.stacks.may_write.Goals as goal

pub returns-in-Primitive : goal.returns-in-Primitive
returns-in-Primitive c = λ yes. subst (λ (v : ValueType). MayWrite c.args.types.now c.args.state.now (ty.Value v)) (sym c.in-Primitive.is) (may-primitive c.args.types.now c.args.state.now c.in-Primitive.field-0)

pub returns-in-Own : goal.returns-in-Own
returns-in-Own c = λ yes. subst (λ (v : ValueType). MayWrite c.args.types.now c.args.state.now (ty.Value v)) (sym c.in-Own.is) (may-own c.args.types.now c.args.state.now c.in-Own.id c.resolve_resource.result c.resolve_resource.ensures.end (c.is_bound.ensures.bound yes))

pub returns-in-Borrow : goal.returns-in-Borrow
returns-in-Borrow c = λ yes. subst (λ (v : ValueType). MayWrite c.args.types.now c.args.state.now (ty.Value v)) (sym c.in-Borrow.is) (may-borrow c.args.types.now c.args.state.now c.in-Borrow.id c.resolve_resource-in-Borrow.result c.resolve_resource-in-Borrow.ensures.end (c.is_bound-in-Borrow.ensures.bound yes))

pub returns-else-not-contains : goal.returns-else-not-contains
returns-else-not-contains c = λ yes. subst (λ (v : ValueType). MayWrite c.args.types.now c.args.state.now (ty.Value v)) (sym c.in-Defined.is) (may-closed c.part_law.ensures.held_under_more c.args.types.now c.args.closed.now c.args.state.now c.in-Defined.id c.requires (sym c.contains.ensures ∙ c.if-not-contains.false) (sym c.contains-in-Defined.ensures ∙ yes))
