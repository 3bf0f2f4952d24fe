use Rattle.std.proofs.Common.{◌≡◌, true, ap, sym, ◌∙◌, subst}
use Rattle.std.specs.Prelude.{◌↔◌}
use Rattle.wac_types_shapes.specs.declared.shapes.component.«Type».TheVariants as ty
use Rattle.wac_types_shapes.specs.declared.shapes.component.ItemKind.{ItemKind}
use Rattle.wac_types_shapes.specs.declared.shapes.component.ItemKind.TheVariants as kind
use Rattle.wac_types_collection.specs.subtyping.CalledViews.{path_view}
use Rattle.wac_merge_imports.specs.private.unions.BoundNames.{ItemBinds}
use Rattle.wac_merge_imports.proofs.lemmas.unions.BoundNames.{item-found}
use Rattle.wac_merge_imports.proofs.unions.bound.item_binds.Goals as goal

pub returns-in-Some : goal.returns-in-Some
returns-in-Some c =
    let b = c.args.bindings.now in
    let k = c.args.number in
    let n = c.args.name.now in
    let r = c.in-Resource.resource in
    let is : c.args.kind ≡ kind.TypeItem (ty.Resource r) = c.in-TypeItem.is ∙ ap kind.TypeItem c.in-Resource.is in
    subst (λ (x : ItemKind). (c.is_alone.result ≡ true) ↔ ItemBinds b k n x) (sym is)
    (item-found b k n r (path_view c.in-Some.path.now) c.is_alone.result c.is_alone.ensures (sym c.in-Some.ensures))
