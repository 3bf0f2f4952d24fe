use Rattle.std.proofs.Common.{◌≡◌, Some, refl, sym, ap, ◌∙◌, subst}
use Rattle.std.specs.Option.{option_map}
use Rattle.wac_types_shapes.specs.declared.shapes.component.ValueType.{ValueType}
use Rattle.wac_types_shapes.specs.declared.shapes.component.ValueType.TheVariants as val
use Rattle.wac_types_shapes.specs.declared.shapes.component.ResourceId.{ResourceId}
use Rattle.wac_merge_resources.specs.private.renaming.RenamedTypes.{value_in}
use Rattle.wac_merge_resources.proofs.renaming.renamer.Renamed.part.Goals as goal

pub returns-in-Primitive : goal.returns-in-Primitive
returns-in-Primitive c =
    (c.requires.held, subst (λ (v : ValueType). value_in c.args.renaming.now c.args.self.now v ≡ Some v) (sym c.in-Primitive.is) refl)

pub returns-in-Own : goal.returns-in-Own
returns-in-Own c =
    (c.requires.held, ap (value_in c.args.renaming.now c.args.self.now) c.in-Own.is ∙ ap (λ (q : ResourceId). Some (val.Own q)) (sym c.resource.ensures))

pub returns-in-Borrow : goal.returns-in-Borrow
returns-in-Borrow c =
    (c.requires.held, ap (value_in c.args.renaming.now c.args.self.now) c.in-Borrow.is ∙ ap (λ (q : ResourceId). Some (val.Borrow q)) (sym c.resource-in-Borrow.ensures))

pub returns-in-Defined : goal.returns-in-Defined
returns-in-Defined c =
    (c.requires.held, ap (value_in c.args.renaming.now c.args.self.now) c.in-Defined.is ∙ ap (option_map val.Defined) (sym c.defined.ensures ∙ c.unwrap.ensures))
