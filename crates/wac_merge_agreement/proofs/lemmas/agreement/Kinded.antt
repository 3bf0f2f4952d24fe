-- What an entry is compared as is of the entry's kind.
use Rattle.std.proofs.Common.{◌≡◌, ℕ, zero, suc, true, false, if◌then◌else◌, List, [], ◌∷◌, slice_get, Option, Some, None, refl, ap, sym, ◌∙◌, subst, inl, inr, arith}
use Rattle.std.specs.Prelude.{IsSome}
use Rattle.std.specs.List.{AllByRecursion}
use Rattle.std.proofs.lemmas.Bool.{cases_Bool}
use Rattle.std.proofs.lemmas.Option.{slice_get_within}
use Rattle.wac_types_shapes.specs.primitives.Name.{Name, same_name, find_name, option_case}
use Rattle.wac_types_shapes.specs.primitives.Tree.{TypeTree, absent, instance, instance_item}
use Rattle.wac_types_collection.specs.subtyping.Called.{Called, by_binding}
use Rattle.wac_types_collection.specs.collection.Collection.{Collection, size, kind_types, used_types, holds_type, item_of, interface_exports, HasInterface, IsWellFormed, IsBefore, AddedBefore}
use Rattle.wac_types_shapes.specs.shapes.Kinds.{kind_type}
use Rattle.wac_types_collection.specs.collection.Held.{Names, unfolded_to, item_tree, interface_tree, of_held}
use Rattle.wac_types_collection.specs.declared.collection.collection.Held.{Held}
use Rattle.wac_types_shapes.specs.declared.shapes.component.Interface.{Interface}
use Rattle.wac_types_shapes.specs.declared.shapes.component.InterfaceId.{InterfaceId}
use Rattle.wac_types_shapes.specs.declared.shapes.component.«Type».{«Type» as AnyType}
use Rattle.wac_types_shapes.specs.declared.shapes.component.«Type».TheVariants as ty
use Rattle.wac_types_shapes.specs.declared.shapes.component.ItemKind.{ItemKind}
use Rattle.wac_types_shapes.specs.declared.shapes.component.ItemKind.TheVariants as kind
use Rattle.wac_types_collection.proofs.lemmas.collection.Growth.{before_more, type_before}
use Rattle.wac_types_collection.proofs.lemmas.collection.Steady.{all_right}
use Rattle.wac_merge_classes.specs.entries.Agreement.{compared, called_inside}
use Rattle.wac_merge_classes.specs.entries.Classes.{Entry, by_names}
use Rattle.wac_merge_trees.specs.private.coding.ItemCoding.{listing_under}
use Rattle.wac_merge_agreement.specs.private.agreement.Shapes.{IsOfKind}
use Rattle.wac_merge_classes.proofs.lemmas.terms.Found.{some_same, no_some}
use Rattle.wac_merge_tables.proofs.lemmas.tables.SortedMaps.{items_are, found_are}

listing_find : (t : AnyType → TypeTree Called) (es : List (Name × ItemKind)) (n : Name) → listing_under t es n ≡ option_case (find_name es n) absent (item_tree t false)
listing_find t es n = items_are (item_tree t false) es n ∙ sym (found_are absent (item_tree t false) es n)

kind_there : (t : AnyType → TypeTree Called) (k : ItemKind) → item_tree t false k ≡ absent → ⊥
kind_there t (kind.TypeItem a) e = cc
kind_there t (kind.Func a) e = cc
kind_there t (kind.Instance a) e = cc
kind_there t (kind.Component a) e = cc
kind_there t (kind.Module a) e = cc
kind_there t (kind.Value a) e = cc

-- what holds of the types of what is listed holds of that of what is found
kinds_find : (P : AnyType → Type 0) (es : List (Name × ItemKind)) (n : Name) (k : ItemKind) → AllByRecursion P (kind_types es) → find_name es n ≡ Some k → P (kind_type k)
kinds_find P [] n k h e = absurd (no_some k e)
kinds_find P (y ∷ es) n k h e = elim (cases_Bool (same_name n y.0)) [
  | inl t ↦ subst (λ z. P (kind_type z)) (some_same y.1 k (sym (ap (λ b. if b then Some y.1 else find_name es n) t) ∙ e)) h.0
  | inr f ↦ kinds_find P es n k h.1 (sym (ap (λ b. if b then Some y.1 else find_name es n) f) ∙ e)
]

found_some : {A : Type 0} (o : Option A) (x : A) → o ≡ Some x → IsSome o
found_some None x e = absurd (no_some x e)
found_some (Some y) x e = refl

-- the instance that lists what an interface lists
listing_of_kind : (c : Collection) (t : AnyType → TypeTree Called) (i : InterfaceId) (es : List (Name × ItemKind)) → interface_exports c i ≡ es → HasInterface c i → ((n : Name) (k : ItemKind) → find_name es n ≡ Some k → IsOfKind c (item_tree t false k) k)
    → IsOfKind c (instance_item (instance (listing_under t es))) (kind.Instance i)
listing_of_kind c t i es order has each = (has, there, of) where
  at : (n : Name) (o : Option ItemKind) → find_name es n ≡ o → listing_under t es n ≡ option_case o absent (item_tree t false)
  at n o is = listing_find t es n ∙ ap (λ r. option_case r absent (item_tree t false)) is

  there : (n : Name) → (listing_under t es n ≡ absent → ⊥) → IsSome (find_name (interface_exports c i) n)
  there n some = go (find_name es n) refl where
    go : (o : Option ItemKind) → find_name es n ≡ o → IsSome (find_name (interface_exports c i) n)
    go None is = absurd (some (at n None is))
    go (Some k) is = found_some (find_name (interface_exports c i) n) k (ap (λ l. find_name l n) order ∙ is)

  of : (n : Name) (k : ItemKind) → find_name (interface_exports c i) n ≡ Some k → (listing_under t es n ≡ absent → ⊥) × IsOfKind c (listing_under t es n) k
  of n k is =
      let found : find_name es n ≡ Some k = sym (ap (λ l. find_name l n) order) ∙ is in
      (λ gone. kind_there t k (sym (at n (Some k) found) ∙ gone), subst (λ u. IsOfKind c u k) (sym (at n (Some k) found)) (each n k found))

none_before : {A : Type 0} (o : Option (Held A)) → AddedBefore 0 o → ⊥
none_before None b = b
none_before (Some h) b = omega (arith, b)

module _ (c : Collection) (wf : IsWellFormed c) where
  -- what a held interface lists was added before it
  listed_before : (i : InterfaceId) (h : Held Interface) → slice_get c.interfaces i.0 ≡ Some h → AllByRecursion (IsBefore c h.before) (kind_types h.item.exports)
  listed_before i h is = all_right (IsBefore c h.before) (used_types h.item.uses) (kind_types h.item.exports) (wf.interfaces i.0 h is).1

  order_of : (i : InterfaceId) (h : Held Interface) → slice_get c.interfaces i.0 ≡ Some h → interface_exports c i ≡ h.item.exports
  order_of i h is = ap (λ o. option_case (item_of o) [] (λ x. x.exports)) is

  -- what was added before so many items is of its kind, unfolded as deep
  of_kind_to : (d : ℕ) (m : Names Called) (k : ItemKind) → IsBefore c d (kind_type k) → IsOfKind c (item_tree (unfolded_to (by_binding c) c d m) false k) k
  of_kind_to d m (kind.TypeItem t) b = tt
  of_kind_to d m (kind.Func f) b = tt
  of_kind_to d m (kind.Component w) b = tt
  of_kind_to d m (kind.Module w) b = tt
  of_kind_to d m (kind.Value v) b = tt
  of_kind_to zero m (kind.Instance i) b = absurd (none_before (slice_get c.interfaces i.0) b)
  of_kind_to (suc d) m (kind.Instance i) b = go (slice_get c.interfaces i.0) refl b (λ n k before. of_kind_to d n k before) where
    go : (o : Option (Held Interface)) → slice_get c.interfaces i.0 ≡ o → AddedBefore (suc d) o → ((n : Names Called) (k : ItemKind) → IsBefore c d (kind_type k) → IsOfKind c (item_tree (unfolded_to (by_binding c) c d n) false k) k)
        → IsOfKind c (instance_item (of_held (interface_tree (by_binding c) c (unfolded_to (by_binding c) c d) m) o)) (kind.Instance i)
    go None is before on = absurd before
    go (Some h) is before on =
        let n = (by_binding c).in_instance h.item m in
        listing_of_kind c (unfolded_to (by_binding c) c d n) i h.item.exports (order_of i h is) (slice_get_within c.interfaces i.0 h is)
        (λ name k found. on n k (before_more c h.before d (kind_type k) (omega (arith, before)) (kinds_find (IsBefore c h.before) h.item.exports name k (listed_before i h is) found)))

  -- what an entry is compared as is of the kind
  pub compared_of_kind : (es : List Entry) (class : Name) (k : ItemKind) → holds_type c (kind_type k) ≡ true → IsOfKind c (compared by_names c es class k) k
  compared_of_kind es class (kind.TypeItem t) held = tt
  compared_of_kind es class (kind.Func f) held = tt
  compared_of_kind es class (kind.Component w) held = tt
  compared_of_kind es class (kind.Module w) held = tt
  compared_of_kind es class (kind.Value v) held = tt
  compared_of_kind es class (kind.Instance i) held = go (slice_get c.interfaces i.0) refl (type_before c wf (ty.Interface i) held) where
    go : (o : Option (Held Interface)) → slice_get c.interfaces i.0 ≡ o → AddedBefore (size c) o
        → IsOfKind c (option_case (item_of o) absent (λ it. instance_item (instance (listing_under (unfolded_to (by_binding c) c (suc (size c)) (called_inside by_names c es class it)) it.exports)))) (kind.Instance i)
    go None is before = absurd before
    go (Some h) is before =
        let n = called_inside by_names c es class h.item in
        listing_of_kind c (unfolded_to (by_binding c) c (suc (size c)) n) i h.item.exports (order_of i h is) (slice_get_within c.interfaces i.0 h is)
        (λ name k found. of_kind_to (suc (size c)) n k (before_more c h.before (suc (size c)) (kind_type k) (omega (arith, before)) (kinds_find (IsBefore c h.before) h.item.exports name k (listed_before i h is) found)))
