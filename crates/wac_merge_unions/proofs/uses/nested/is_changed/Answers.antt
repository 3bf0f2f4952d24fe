use Rattle.std.proofs.Common.{◌≡◌, ◌++◌, ◌∷◌, [], List, Some, slice_get, sym, ◌∙◌, add-one}
use Rattle.wac_types_shapes.specs.primitives.Name.{Name}
use Rattle.wac_types_shapes.specs.declared.shapes.component.ItemKind.{ItemKind}
use Rattle.wac_types_shapes.proofs.lemmas.shapes.Names.{take_at}
use Rattle.wac_merge_unions.specs.uses.Using.{placed}
use Rattle.wac_merge_unions.proofs.lemmas.uses.UsingGrows.{placed-next}
use Rattle.wac_merge_unions.proofs.uses.nested.is_changed.Goals as goal

pub loop-j-preserved : goal.loop-j-preserved
loop-j-preserved c =
    let places = c.args.places.now in
    let done = c.args.done.now in
    let listed : List (Name × ItemKind) = c.args.listed.now in
    let e : Name × ItemKind = (c.entry_at.result.0.now, c.entry_at.result.1.now) in
    let at : slice_get listed c.loop-j.j ≡ Some e = c.entry_at.ensures in
    let same : placed places done c.loop-j.j e.1 ≡ e.1 = c.is_same.ensures c.if-not-is_same.false in
    rw add-one (placed-next places done listed c.loop-j.j e at ∙ ((λ i. c.loop-j.invariant i ++ (e.0, same i) ∷ []) ∙ sym (take_at listed c.loop-j.j e at)))
