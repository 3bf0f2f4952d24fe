-- The trees of interfaces, one id unfolded, and what they list.
use Rattle.std.proofs.Common.{◌≡◌, ℕ, zero, suc, true, false, if◌then◌else◌, List, [], ◌∷◌, length, map, nat_lt, Option, Some, None, slice_get, sym, ap, ◌∙◌, subst, inl, inr, arith}
use Rattle.std.proofs.lemmas.Bool.{and_parts, cases_Bool}
use Rattle.wac_types_shapes.specs.primitives.Name.{Name, find_name, option_case, same_name}
use Rattle.wac_types_shapes.specs.primitives.Tree.{TypeTree, absent, instance}
use Rattle.wac_types_collection.specs.collection.Collection.{Collection, holds_all, holds_type, item_at, item_of, kind_types, size}
use Rattle.wac_types_shapes.specs.shapes.Kinds.{kind_type}
use Rattle.wac_types_collection.specs.collection.Held.{Names, interface_tree, item_tree, items_under, of_held, unfolded}
use Rattle.wac_types_collection.specs.declared.collection.collection.Held.{Held}
use Rattle.wac_types_shapes.specs.declared.shapes.component.Interface.{Interface}
use Rattle.wac_types_shapes.specs.declared.shapes.component.InterfaceId.{InterfaceId}
use Rattle.wac_types_shapes.specs.declared.shapes.component.ItemKind.{ItemKind}
use Rattle.wac_types_shapes.specs.declared.shapes.component.«Type».TheVariants as ty
use Rattle.wac_types_collection.specs.subtyping.Called.{Called, by_binding}
use Rattle.wac_types_collection.specs.subtyping.Subtype.{listed_in}
use Rattle.wac_types_collection.specs.subtyping.Subtype.{Sub, by_name, kind_tree, resource_names, type_tree}
use Rattle.wac_types_collection.specs.subtyping.TreeLaws.{IsDeepEnough}
use Rattle.wac_merge_classes.proofs.lemmas.terms.Found.{no_some, some_same}
use Rattle.wac_merge_tables.proofs.lemmas.tables.SortedMaps.{found_are, items_are}

pub sub_to : {L : Type 0} (a b u v : TypeTree L) → a ≡ u → b ≡ v → Sub u v → Sub a b
sub_to a b u v e f s = subst (λ z. Sub a z) (sym f) (subst (λ z. Sub z v) (sym e) s)

item_low : {A : Type 0} (xs : List (Held A)) (i : ℕ) (x : A) → item_at xs i ≡ Some x → nat_lt i (length xs) ≡ true
item_low [] i x e = absurd (no_some x e)
item_low (y ∷ xs) zero x e = grind arith
item_low (y ∷ xs) (suc i) x e = let h = item_low xs i x e in grind arith

held_is : {A L : Type 0} (t : A → TypeTree L) (o : Option (Held A)) (x : A) → item_of o ≡ Some x → of_held t o ≡ t x
held_is t None x e = absurd (no_some x e)
held_is t (Some h) x e = ap t (some_same h.item x e)

-- the instance that an interface is, by binding
pub instance_of : (c : Collection) → IsDeepEnough (by_binding c) c → (m : Names Called) (i : InterfaceId) (it : Interface) → item_at c.interfaces i.0 ≡ Some it
    → unfolded (by_binding c) c m (ty.Interface i) ≡ instance (items_under (map (λ e. (e.0, item_tree (unfolded (by_binding c) c ((by_binding c).in_instance it m)) false e.1)) it.exports))
instance_of c deep m i it item =
    sym (deep (suc (suc (size c))) (omega arith) m (ty.Interface i) (item_low c.interfaces i.0 it item))
    ∙ held_is (interface_tree (by_binding c) c (unfolded (by_binding c) c) m) (slice_get c.interfaces i.0) it item

-- and by name
pub interface_of : (c : Collection) → IsDeepEnough by_name c → (i : InterfaceId) (it : Interface) → item_at c.interfaces i.0 ≡ Some it → type_tree c (ty.Interface i) ≡ instance (listed_in c it.exports)
unfolding type_tree
interface_of c deep i it item =
    sym (deep (suc (suc (size c))) (omega arith) (resource_names c) (ty.Interface i) (item_low c.interfaces i.0 it item))
    ∙ held_is (interface_tree by_name c (unfolded by_name c) (resource_names c)) (slice_get c.interfaces i.0) it item

-- what stands under a name
listed_find : (c : Collection) (es : List (Name × ItemKind)) (n : Name) → listed_in c es n ≡ option_case (find_name es n) absent (kind_tree c)
listed_find c es n = items_are (kind_tree c) es n ∙ sym (found_are absent (kind_tree c) es n)

pub listed_none : (c : Collection) (es : List (Name × ItemKind)) (n : Name) → find_name es n ≡ None → listed_in c es n ≡ absent
listed_none c es n missing = listed_find c es n ∙ ap (λ o. option_case o absent (kind_tree c)) missing

pub listed_some : (c : Collection) (es : List (Name × ItemKind)) (n : Name) (k : ItemKind) → find_name es n ≡ Some k → listed_in c es n ≡ kind_tree c k
listed_some c es n k found = listed_find c es n ∙ ap (λ o. option_case o absent (kind_tree c)) found

-- what is found in a held listing is held
pub found_held : (c : Collection) (es : List (Name × ItemKind)) (n : Name) (k : ItemKind) → holds_all c (kind_types es) ≡ true → find_name es n ≡ Some k → holds_type c (kind_type k) ≡ true
found_held c [] n k held found = absurd (no_some k found)
found_held c (e ∷ es) n k held found = elim (cases_Bool (same_name n e.0)) [
  | inl t ↦
      let value : e.1 ≡ k = some_same e.1 k (sym (ap (λ b. if b then Some e.1 else find_name es n) t) ∙ found) in
      ap (λ (z : ItemKind). holds_type c (kind_type z)) (sym value) ∙ (and_parts (holds_type c (kind_type e.1)) (holds_all c (kind_types es)) held).0
  | inr t ↦ found_held c es n k (and_parts (holds_type c (kind_type e.1)) (holds_all c (kind_types es)) held).1 (sym (ap (λ b. if b then Some e.1 else find_name es n) t) ∙ found)
]
