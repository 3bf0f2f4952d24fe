use Rattle.std.proofs.Common.{◌≡◌, ℕ, ◌∷◌, [], Bor, List, Vec, Some, length, slice_get, refl, sym, ap, ◌∙◌, subst, arith}
use Rattle.std.specs.Global.{Global}
use Rattle.std.specs.Option.{option_map}
use Rattle.std.proofs.Math.ListN.{set}
use Rattle.std.proofs.lemmas.Option.{slice_get_read, slice_get_within}
use Rattle.wac_types_shapes.specs.primitives.Name.{Name}
use Rattle.wac_types_shapes.specs.declared.shapes.component.InterfaceId.{InterfaceId}
use Rattle.wac_types_shapes.specs.declared.shapes.component.ItemKind.{ItemKind}
use Rattle.wac_merge_unions.specs.uses.Using.{HaveMore}
use Rattle.wac_merge_unions.proofs.lemmas.uses.InnerUsers.{found-place, more-named, more-unnamed, not-found}
use Rattle.wac_merge_unions.proofs.uses.nested.put_named.Goals as goal

pub returns-in_default-get_full : goal.returns-in_default-get_full
returns-in_default-get_full c =
    let listed : List (Name × ItemKind) = c.args.listed.now in
    let n : Name = c.args.name.now in
    more-unnamed listed n c.args.kind c.args.lists.now.items
    (not-found listed n c.law.ensures (sym c.get_full.ensures ∙ ap (option_map (λ (p : ℕ × Bor ItemKind). (p.0, p.1.now))) c.in_default-get_full.is))

pub index_mut-requires : goal.index_mut-requires
index_mut-requires c =
    let listed : List (Name × ItemKind) = c.args.listed.now in
    let p = found-place listed c.args.name.now c.law.ensures (c.in-Some.index, c.in-Some.field-0-1.now) c.in-Some.ensures in
    let low = slice_get_within listed c.in-Some.index (c.args.name.now, p.0) p.1 in
    omega (arith, low, c.requires, c.args.lists.now.ok.0)

pub returns : goal.returns
returns c =
    let listed : List (Name × ItemKind) = c.args.listed.now in
    let n : Name = c.args.name.now in
    let lists : List (Vec InterfaceId Global) = c.args.lists.now.items in
    let index : ℕ = c.in-Some.index in
    let i : InterfaceId = c.in-Instance.id in
    let p = found-place listed n c.law.ensures (index, c.in-Some.field-0-1.now) c.in-Some.ensures in
    let low = slice_get_within listed index (n, p.0) p.1 in
    let v : Vec InterfaceId Global = c.index_mut.result.now in
    let w : Vec InterfaceId Global = c.push.new.self in
    let at : slice_get lists index ≡ Some v = slice_get_read lists (length lists) index v refl (omega (arith, low, c.requires)) c.index_mut.ensures.value in
    subst (λ (k : ItemKind). HaveMore listed ((n, k) ∷ []) lists (set lists index w)) (sym c.in-Instance.is)
    (more-named listed n i lists index p.0 v w c.law.ensures p.1 at c.in_ok-push.ensures.items)
