-- The items of a component type by their numbers.
use Rattle.std.proofs.Common.{ℕ, zero, suc, eq-eqb, ◌+◌, ◌<◌, Bool, true, false, List, [], ◌∷◌, ◌++◌, map, length, Option, Some, None, ◌≡◌, ◌⊎◌, inl, inr, refl, ap, sym, ◌∙◌, subst, arith, slice_get}
use Rattle.std.specs.Prelude.{◌==◌}
use Rattle.std.specs.List.{list_any}
use Rattle.std.proofs.lemmas.Bool.{eqb-true}
use Rattle.std.proofs.lemmas.List.{length-map}
use Rattle.wac_types_shapes.specs.primitives.Name.{Name}
use Rattle.wac_types_shapes.specs.primitives.Tree.{Side, imported, exported, Leaf}
use Rattle.wac_types_shapes.specs.shapes.Named.{NoNameTwice, named_at}
use Rattle.wac_types_shapes.proofs.lemmas.shapes.Names.{named_at-at}
use Rattle.wac_types_shapes.specs.declared.shapes.component.ResourceId.{ResourceId}
use Rattle.wac_types_shapes.specs.declared.shapes.component.ItemKind.{ItemKind}
use Rattle.wac_types_collection.specs.collection.Collection.{Collection}
use Rattle.wac_encode_faults.specs.Sides.{Sides, all_imports, export_bindings}
use Rattle.wac_encode_faults.specs.Free.{SideItem}
use Rattle.wac_encode_faults.specs.Cycle.{IsBindingOf, numbered_items, owner_of, IsOwner, AreOwners}
use Rattle.wac_encode_interfaces.specs.private.Written.{side_item, is_bound_at}
use Rattle.wac_encode_interfaces.specs.private.Parts.{is_number}
use Rattle.wac_encode_interfaces.proofs.Bound.{true-false, one-some, no-some, one-item, test-binding, binding-test, items_of_side}

module _ {A : Type 0} where
  at-left : (xs ys : List A) (i : ℕ) (x : A) → slice_get xs i ≡ Some x → slice_get (xs ++ ys) i ≡ Some x
  at-left [] ys i x h = cc
  at-left (z ∷ xs) ys zero x h = h
  at-left (z ∷ xs) ys (suc i) x h = at-left xs ys i x h

  at-right : (xs ys : List A) (i : ℕ) (x : A) → slice_get ys i ≡ Some x → slice_get (xs ++ ys) (length xs + i) ≡ Some x
  at-right [] ys i x h = let same : 0 + i ≡ i = omega arith in subst (λ (n : ℕ). slice_get ys n ≡ Some x) (sym same) h
  at-right (z ∷ xs) ys i x h =
      let same : suc (length xs) + i ≡ suc (length xs + i) = omega arith in
      subst (λ (n : ℕ). slice_get (z ∷ (xs ++ ys)) n ≡ Some x) (sym same) (at-right xs ys i x h)

  at-either : (xs ys : List A) (n : ℕ) (x : A) → slice_get (xs ++ ys) n ≡ Some x → (slice_get xs n ≡ Some x) ⊎ ((i : ℕ) × (n ≡ length xs + i) × (slice_get ys i ≡ Some x))
  at-either [] ys n x h = let same : n ≡ 0 + n = omega arith in inr (n, same, h)
  at-either (z ∷ xs) ys zero x h = inl h
  at-either (z ∷ xs) ys (suc n) x h = elim (at-either xs ys n x h) [ inl w ↦ inl w | inr w ↦ inr (w.0, more w.0 w.1, w.2) ]
    where
      more : (i : ℕ) → n ≡ length xs + i → suc n ≡ suc (length xs) + i
      more i e = omega (arith, e)

module _ {A B : Type 0} (f : A → B) where
  map-at : (xs : List A) (i : ℕ) (x : A) → slice_get xs i ≡ Some x → slice_get (map f xs) i ≡ Some (f x)
  map-at [] i x h = cc
  map-at (z ∷ xs) zero x h = ap (λ y. Some (f y)) (one-some z x h)
  map-at (z ∷ xs) (suc i) x h = map-at xs i x h

  at-map : (xs : List A) (i : ℕ) (y : B) → slice_get (map f xs) i ≡ Some y → (x : A) × (slice_get xs i ≡ Some x) × (y ≡ f x)
  at-map [] i y h = absurd (no-some y h)
  at-map (z ∷ xs) zero y h = (z, refl, sym (one-some (f z) y h))
  at-map (z ∷ xs) (suc i) y h = at-map xs i y h

-- A name is at one position.
pub one-place : (es : List (Name × ItemKind)) → NoNameTwice es → (p q : ℕ) (d e : Name × ItemKind) → slice_get es p ≡ Some d → slice_get es q ≡ Some e → d.0 ≡ e.0 → p ≡ q
one-place es once p q d e here there same = inner (sym (named_at-at es 0 p d.0 d.1 once here) ∙ subst (λ z. named_at 0 z es ≡ Some (0 + q, e.1)) (sym same) (named_at-at es 0 q e.0 e.1 once there))
  where
    inner : ◌≡◌ {A = Option (ℕ × ItemKind)} (Some (0 + p, d.1)) (Some (0 + q, e.1)) → p ≡ q
    inner h = let same : 0 + p ≡ 0 + q = ap (λ (x : ℕ × ItemKind). x.0) (one-some {A = ℕ × ItemKind} (0 + p, d.1) (0 + q, e.1) h) in omega (arith, same)

pub sides-differ : imported ≡ exported → ⊥
sides-differ e = cc

-- The number of the first item of a side.
abbrev pub first_of : Sides → Side → ℕ
first_of s imported = 0
first_of s exported = length (all_imports s)

module _ (s : Sides) where
  -- The item at a position of a side has the number of the first one and the position.
  pub number-at : (c : Collection) (side : Side) (p : ℕ) (e : Name × ItemKind) → slice_get (items_of_side c s side) p ≡ Some e → slice_get (numbered_items s) (first_of s side + p) ≡ Some (side_item side e.0)
  number-at c imported p e h =
      let same : 0 + p ≡ p = omega arith in
      subst (λ (n : ℕ). slice_get (numbered_items s) n ≡ Some (side_item imported e.0)) (sym same)
      (at-left (map (λ x. side_item imported x.0) (all_imports s)) (map (λ x. side_item exported x.0) s.exports) p (side_item imported e.0) (map-at (λ x. side_item imported x.0) (all_imports s) p e h))
  number-at c exported p e h =
      subst (λ (n : ℕ). slice_get (numbered_items s) (n + p) ≡ Some (side_item exported e.0)) (length-map (all_imports s) (λ x. side_item imported x.0))
      (at-right (map (λ x. side_item imported x.0) (all_imports s)) (map (λ x. side_item exported x.0) s.exports) p (side_item exported e.0) (map-at (λ x. side_item exported x.0) s.exports p e h))

  -- The item with a number.
  abbrev pub HasPosition : Collection → SideItem → ℕ → Type 0
  HasPosition c x n = (p : ℕ) × (e : Name × ItemKind) × (n ≡ first_of s x.side + p) × (slice_get (items_of_side c s x.side) p ≡ Some e) × (x.name ≡ e.0)

  pub position-of : (c : Collection) (n : ℕ) (x : SideItem) → slice_get (numbered_items s) n ≡ Some x → HasPosition c x n
  position-of c n x h = elim (at-either (map (λ y. side_item imported y.0) (all_imports s)) (map (λ y. side_item exported y.0) s.exports) n x h) [
    | inl w ↦
        let (e, at, is) = at-map (λ y. side_item imported y.0) (all_imports s) n x w in
        let zero_first : n ≡ 0 + n = omega arith in
        subst (λ (z : SideItem). HasPosition c z n) (sym is) (n, e, zero_first, at, refl)
    | inr w ↦
        let (e, at, is) = at-map (λ y. side_item exported y.0) s.exports w.0 x w.2 in
        let later = w.1 ∙ ap (λ (m : ℕ). m + w.0) (length-map (all_imports s) (λ y. side_item imported y.0)) in
        subst (λ (z : SideItem). HasPosition c z n) (sym is) (w.0, e, later, at, refl)
  ]

  module _ (c : Collection) (imports_once : NoNameTwice (all_imports s)) (exports_once : NoNameTwice s.exports) where
    once-on : (side : Side) → NoNameTwice (items_of_side c s side)
    once-on imported = imports_once
    once-on exported = exports_once

    -- An item has one number.
    pub one-number : (a b : ℕ) (x : SideItem) → slice_get (numbered_items s) a ≡ Some x → slice_get (numbered_items s) b ≡ Some x → a ≡ b
    one-number a b x h k =
        let (p, d, first, here, name) = position-of c a x h in
        let (q, e, second, there, same) = position-of c b x k in
        let equal = one-place (items_of_side c s x.side) (once-on x.side) p q d e here there (sym name ∙ same) in
        first ∙ ap (λ (n : ℕ). first_of s x.side + n) equal ∙ sym second

    -- The number that the owners have for a resource says whether it is bound at the item.
    pub owner-test : (entries : List (ResourceId × ℕ)) → AreOwners (numbered_items s) (export_bindings c s) entries → (p : ℕ) (x : SideItem) → slice_get (numbered_items s) p ≡ Some x → (r : ResourceId)
        → is_number p (owner_of entries r) ≡ is_bound_at (export_bindings c s r) x
    owner-test entries owners p x at r = by (owner_of entries r) (owners r)
      where
        bool-of : (b : Bool) → (b ≡ true → ⊥) → b ≡ false
        bool-of true h = absurd (h refl)
        bool-of false h = refl

        by_number : (q : ℕ) (l : Leaf) (y : SideItem) → slice_get (numbered_items s) q ≡ Some y → IsBindingOf y l → (b : Bool) → (q == p) ≡ b → b ≡ is_bound_at (Some l) x
        by_number q l y there binding true same = sym (binding-test l x (subst (λ (z : SideItem). IsBindingOf z l) (one-some y x (sym there ∙ ap (slice_get (numbered_items s)) (eqb-true q p same) ∙ at)) binding))
        by_number q l y there binding false same = sym (bool-of (is_bound_at (Some l) x) (λ h.
            let equal = one-item l y x binding (test-binding l x h) in
            let numbers = one-number q p x (subst (λ (z : SideItem). slice_get (numbered_items s) q ≡ Some z) equal there) at in
            true-false (q == p) (ap (λ (n : ℕ). q == n) (sym numbers) ∙ itself q) same))
          where
            itself : (n : ℕ) → (n == n) ≡ true
            itself n = eq-eqb n n refl

        by : (o : Option ℕ) → IsOwner (numbered_items s) o (export_bindings c s r) → is_number p o ≡ is_bound_at (export_bindings c s r) x
        by None none = sym (ap (λ (o : Option Leaf). is_bound_at o x) none)
        by (Some q) own =
            let (l, y, is, there, binding) = own in
            by_number q l y there binding (q == p) refl ∙ sym (ap (λ (o : Option Leaf). is_bound_at o x) is)
