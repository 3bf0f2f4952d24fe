use Rattle.std.proofs.Common.{◌≡◌, ◌++◌, ◌∷◌, [], List, Err, IsSome, Some, slice_get, take, sym, ap, ◌∙◌, subst, add-one}
use Rattle.wac_types_shapes.specs.primitives.Name.{Name, find_name}
use Rattle.wac_types_shapes.specs.declared.shapes.component.ItemKind.{ItemKind}
use Rattle.wac_types_shapes.proofs.lemmas.shapes.Names.{none_before}
use Rattle.wac_merge_unions.proofs.lemmas.uses.UsingGrows.{placed-next, placed-none}
use Rattle.wac_merge_unions.proofs.uses.nested.placed_items.Goals as goal

pub unreachable-requires : goal.unreachable-requires
unreachable-requires c =
    let listed : List (Name × ItemKind) = c.args.listed.now in
    let n : Name = c.entry_at.result.0.now in
    placed-none c.args.places.now c.args.done.now (take c.loop-j.j listed) 0 n (none_before listed c.loop-j.j n c.entry_at.result.1.now c.law.ensures c.entry_at.ensures)
    (subst (λ (xs : List (Name × ItemKind)). IsSome (find_name xs n)) c.loop-j.invariant (c.insert.ensures.name_twice.0 (c.in-Err-NameTwice.is ∙ ap Err c.in-Err-NameTwice.field-0-is)))

pub loop-j-preserved : goal.loop-j-preserved
loop-j-preserved c =
    let listed : List (Name × ItemKind) = c.args.listed.now in
    let e : Name × ItemKind = (c.entry_at.result.0.now, c.entry_at.result.1.now) in
    let at : slice_get listed c.loop-j.j ≡ Some e = c.entry_at.ensures in
    rw add-one (c.in-Ok.ensures.inserted ∙ ((λ i. c.loop-j.invariant i ++ (e.0, c.placed_item-item.ensures i) ∷ []) ∙ sym (placed-next c.args.places.now c.args.done.now listed c.loop-j.j e at)))
