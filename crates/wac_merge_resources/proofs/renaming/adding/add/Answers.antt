use Rattle.std.proofs.Common.{◌≡◌, None, sym, subst, ap}
use Rattle.wac_types_collection.specs.collection.Collection.{Collection}
use Rattle.wac_types_shapes.specs.primitives.Name.{Name}
use Rattle.wac_types_shapes.specs.declared.shapes.component.Resource.{Resource}
use Rattle.wac_merge_classes.specs.terms.Became.{IsNew}
use Rattle.wac_types_collection.specs.private.subtyping.Extended.{IsExtended}
use Rattle.wac_merge_tables.proofs.lemmas.made.Extending.{extended_resource}
use Rattle.wac_merge_resources.proofs.lemmas.renaming.FreshAdding.{new-added}
use Rattle.wac_merge_resources.proofs.renaming.adding.add.Goals as goal

pub returns-in-Ok-clause-extended : goal.returns-in-Ok-clause-extended
returns-in-Ok-clause-extended c =
    subst (λ (m : Collection). IsExtended c.args.merged.now m) (sym c.in-Ok.ensures.added.1) (extended_resource c.args.merged.now c.growth_keeps_trees.ensures c.in_ok-resource.resource)

pub returns-in-Ok-clause-new : goal.returns-in-Ok-clause-new
returns-in-Ok-clause-new c =
    let x : Resource = c.in_ok-resource.resource in
    let plain : x.alias ≡ None = ap (λ (y : Resource). y.alias) c.in_ok-resource.ensures in
    subst (λ (n : Name). IsNew c.args.merged.now c.add_resource.new.self c.in-Ok.id n) (ap (λ (y : Resource). y.name) c.in_ok-resource.ensures)
    (new-added c.args.merged.now c.add_resource.new.self x c.in-Ok.id plain c.in-Ok.ensures.added.0 c.in-Ok.ensures.added.1)
