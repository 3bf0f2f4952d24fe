-- Trees of interfaces: by what is listed under each name.
use Rattle.std.proofs.Common.{◌≡◌, ℕ, zero, suc, ◌<◌, nat_lt, true, false, List, [], ◌∷◌, map, length, Option, Some, None, slice_get, refl, sym, ap, ◌∙◌, subst, arith}
use Rattle.std.proofs.Math.Path.{fun_ext}
use Rattle.wac_types_shapes.specs.primitives.Name.{Name, find_name, option_case}
use Rattle.wac_types_shapes.specs.primitives.Tree.{TypeTree, Tree, absent, exported, instance, named}
use Rattle.wac_types_collection.specs.collection.Collection.{Collection, AreBefore, HasInterface, IsBefore, IsWellFormed, holds_type, interface_mentions, item_at, item_of, kind_types, size, used_types}
use Rattle.wac_types_shapes.specs.shapes.Kinds.{kind_type}
use Rattle.wac_types_collection.specs.collection.Held.{Names, item_tree, items_under, of_held, unfolded}
use Rattle.wac_types_collection.specs.collection.Bound.{Bindings, by_place, held_item, held_tree, inside_interface}
use Rattle.wac_types_collection.specs.declared.collection.collection.Held.{Held}
use Rattle.wac_types_shapes.specs.declared.shapes.component.Interface.{Interface}
use Rattle.wac_types_shapes.specs.declared.shapes.component.InterfaceId.{InterfaceId}
use Rattle.wac_types_shapes.specs.declared.shapes.component.ItemKind.{ItemKind}
use Rattle.wac_types_shapes.specs.declared.shapes.component.«Type».TheVariants as ty
use Rattle.wac_types_collection.specs.subtyping.Called.{Called, by_binding}
use Rattle.wac_types_collection.specs.subtyping.TreeLaws.{IsDeepEnough}
use Rattle.wac_types_collection.proofs.lemmas.collection.Growth.{type_within}
use Rattle.wac_types_collection.proofs.lemmas.collection.Steady.{all_right}
use Rattle.wac_merge_trees.proofs.lemmas.trees.UnionTreesNames.{items_found}
use Rattle.wac_merge_trees.proofs.lemmas.trees.UnionTreesOwn.{found_place}

held_is : {A L : Type 0} (t : A → TypeTree L) (o : Option (Held A)) (x : A) → item_of o ≡ Some x → of_held t o ≡ t x
held_is t None x e = cc
held_is t (Some h) x e = ap t (inner e) where
  inner : item_of (Some h) ≡ Some x → h.item ≡ x
  inner e = cc

held_within : {A : Type 0} (xs : List (Held A)) (i : ℕ) (x : A) → item_at xs i ≡ Some x → nat_lt i (length xs) ≡ true
held_within [] i x at = cc
held_within (y ∷ xs) zero x at = grind arith
held_within (y ∷ xs) (suc i) x at = let r = held_within xs i x at in grind arith

-- an interface that is held is there
pub interface_there : (c : Collection) (i : InterfaceId) → HasInterface c i → (it : Interface) × (item_at c.interfaces i.0 ≡ Some it)
interface_there c i low = there c.interfaces i.0 low where
  there : (xs : List (Held Interface)) (j : ℕ) → j < length xs → (it : Interface) × (item_at xs j ≡ Some it)
  there [] j low = absurd (omega (arith, low))
  there (x ∷ xs) zero low = (x.item, refl)
  there (x ∷ xs) (suc j) low = there xs j (omega (arith, low))

-- what an interface lists under a name, where its resources are bound so
abbrev pub placed_at : Collection → Bindings → List (Name × ItemKind) → Name → Tree
placed_at c m es n = option_case (find_name es n) absent (λ k. held_item c m exported (named n ∷ []) k)

-- the same under what resources are called
abbrev pub called_under : Collection → Names Called → List (Name × ItemKind) → Name → TypeTree Called
called_under c m es n = option_case (find_name es n) absent (λ k. item_tree (unfolded (by_binding c) c m) false k)

pub placed_items : (c : Collection) (m : Bindings) (es : List (Name × ItemKind))
    → instance (items_under (map (λ e. (e.0, held_item c m exported (named e.0 ∷ []) e.1)) es)) ≡ instance (placed_at c m es)
placed_items c m es = ap instance (fun_ext (items_found (λ n k. held_item c m exported (named n ∷ []) k) es))

pub called_items : (c : Collection) (m : Names Called) (es : List (Name × ItemKind))
    → instance (items_under (map (λ e. (e.0, item_tree (unfolded (by_binding c) c m) false e.1)) es)) ≡ instance (called_under c m es)
called_items c m es = ap instance (fun_ext (items_found (λ n k. item_tree (unfolded (by_binding c) c m) false k) es))

-- the tree of an interface
pub placed_interface : (c : Collection) → IsDeepEnough (by_place c) c → (m : Bindings) (i : InterfaceId) (it : Interface) → item_at c.interfaces i.0 ≡ Some it
    → held_tree c m (ty.Interface i) ≡ instance (placed_at c (inside_interface c it m) it.exports)
unfolding held_tree
placed_interface c deep m i it at =
    sym (deep (suc (suc (size c))) (omega arith) m (ty.Interface i) (held_within c.interfaces i.0 it at))
    ∙ (held_is (λ (x : Interface). instance (items_under (map (λ e. (e.0, held_item c (inside_interface c x m) exported (named e.0 ∷ []) e.1)) x.exports))) (slice_get c.interfaces i.0) it at
    ∙ placed_items c (inside_interface c it m) it.exports)

pub called_interface : (c : Collection) → IsDeepEnough (by_binding c) c → (m : Names Called) (i : InterfaceId) (it : Interface) → item_at c.interfaces i.0 ≡ Some it
    → unfolded (by_binding c) c m (ty.Interface i) ≡ instance (called_under c ((by_binding c).in_instance it m) it.exports)
called_interface c deep m i it at =
    sym (deep (suc (suc (size c))) (omega arith) m (ty.Interface i) (held_within c.interfaces i.0 it at))
    ∙ (held_is (λ (x : Interface). instance (items_under (map (λ e. (e.0, item_tree (unfolded (by_binding c) c ((by_binding c).in_instance x m)) false e.1)) x.exports))) (slice_get c.interfaces i.0) it at
    ∙ called_items c ((by_binding c).in_instance it m) it.exports)

listed_before : (c : Collection) (n : ℕ) (es : List (Name × ItemKind)) (i : ℕ) (e : Name × ItemKind) → AreBefore c n (kind_types es) → slice_get es i ≡ Some e → IsBefore c n (kind_type e.1)
listed_before c n [] i e h at = cc
listed_before c n (x ∷ es) zero e h at = let same : x ≡ e = cc in subst (λ (y : Name × ItemKind). IsBefore c n (kind_type y.1)) same h.0
listed_before c n (x ∷ es) (suc i) e h at = listed_before c n es i e h.1 at

-- what an interface lists is held
pub listed_held : (c : Collection) → IsWellFormed c → (i : InterfaceId) (it : Interface) (n : Name) (k : ItemKind) → item_at c.interfaces i.0 ≡ Some it → find_name it.exports n ≡ Some k → holds_type c (kind_type k) ≡ true
listed_held c wf i it n k at found = by (slice_get c.interfaces i.0) refl at where
  by : (o : Option (Held Interface)) → slice_get c.interfaces i.0 ≡ o → item_of o ≡ Some it → holds_type c (kind_type k) ≡ true
  by None e is = cc
  by (Some h) e is =
      let same : h.item ≡ it = cc in
      let P : Interface → Type 0 = λ x. AreBefore c h.before (interface_mentions x) in
      let all = all_right (IsBefore c h.before) (used_types it.uses) (kind_types it.exports) (subst P same (wf.interfaces i.0 h e).1) in
      let place = found_place it.exports n k found in
      type_within c h.before (kind_type k) (listed_before c h.before it.exports place.0 (n, k) all place.1)
