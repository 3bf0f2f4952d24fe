-- The items of a component type by their numbers: a number is that of one item, and an item has one number.
use Rattle.std.proofs.Common.{ℕ, zero, suc, ◌+◌, ◌<◌, ◌≤◌, List, [], ◌∷◌, ◌++◌, map, take, drop, length, Contains, Option, Some, ◌≡◌, ◌⊎◌, inl, inr, refl, ap, sym, ◌∙◌, subst, arith, slice_get}
use Rattle.std.proofs.lemmas.List.{length-map, take-append-drop}
use Rattle.wac_types_shapes.specs.primitives.Name.{Name}
use Rattle.wac_types_shapes.specs.primitives.Tree.{imported, exported}
use Rattle.wac_types_shapes.specs.shapes.Named.{NoNameTwice, named_at}
use Rattle.wac_types_shapes.proofs.lemmas.shapes.Names.{named_at-at}
use Rattle.wac_types_shapes.specs.declared.shapes.component.ItemKind.{ItemKind}
use Rattle.wac_types_shapes.specs.declared.shapes.component.UsedType.{UsedType}
use Rattle.wac_types_collection.proofs.lemmas.wide.Members.{at_in, in_at}
use Rattle.wac_encode_faults.specs.Cycle.{numbered_items}
use Rattle.wac_encode_faults.specs.Free.{SideItem}
use Rattle.wac_encode_faults.specs.Sides.{parted_sides}
use Rattle.wac_encode_faults.specs.private.Owners.{AreNumbered}

pub one_value : {A : Type 0} (o : Option A) (x y : A) → o ≡ Some x → o ≡ Some y → x ≡ y
one_value o x y a b = inner (sym a ∙ b)
  where
    inner : Some x ≡ Some y → x ≡ y
    inner e = cc

-- ---- positions in two lists
module _ {A : Type 0} where
  at_left : (xs ys : List A) (i : ℕ) (x : A) → slice_get xs i ≡ Some x → slice_get (xs ++ ys) i ≡ Some x
  at_left [] ys i x h = cc
  at_left (z ∷ xs) ys zero x h = h
  at_left (z ∷ xs) ys (suc i) x h = at_left xs ys i x h

  at_right : (xs ys : List A) (i : ℕ) (x : A) → slice_get ys i ≡ Some x → slice_get (xs ++ ys) (length xs + i) ≡ Some x
  at_right [] ys i x h = let same : 0 + i ≡ i = omega arith in subst (λ (n : ℕ). slice_get ys n ≡ Some x) (sym same) h
  at_right (z ∷ xs) ys i x h =
      let same : suc (length xs) + i ≡ suc (length xs + i) = omega arith in
      subst (λ (n : ℕ). slice_get (z ∷ (xs ++ ys)) n ≡ Some x) (sym same) (at_right xs ys i x h)

  at_either : (xs ys : List A) (n : ℕ) (x : A) → slice_get (xs ++ ys) n ≡ Some x → (slice_get xs n ≡ Some x) ⊎ ((i : ℕ) × (n ≡ length xs + i) × (slice_get ys i ≡ Some x))
  at_either [] ys n x h = let same : n ≡ 0 + n = omega arith in inr (n, same, h)
  at_either (z ∷ xs) ys zero x h = inl h
  at_either (z ∷ xs) ys (suc n) x h = elim (at_either xs ys n x h) [ inl w ↦ inl w | inr w ↦ inr (w.0, more w.0 w.1, w.2) ]
    where
      more : (i : ℕ) → n ≡ length xs + i → suc n ≡ suc (length xs) + i
      more i e = omega (arith, e)

  -- of the first elements, and of those after them
  at_taken : (xs : List A) (n k : ℕ) (x : A) → slice_get xs k ≡ Some x → k < n → slice_get (take n xs) k ≡ Some x
  at_taken [] n k x at low = cc
  at_taken (y ∷ xs) zero k x at low = absurd (omega (arith, low))
  at_taken (y ∷ xs) (suc n) zero x at low = at
  at_taken (y ∷ xs) (suc n) (suc k) x at low = at_taken xs n k x at (omega (arith, low))

  pub in_taken : (xs : List A) (n k : ℕ) (x : A) → slice_get xs k ≡ Some x → k < n → Contains (take n xs) x
  in_taken xs n k x at low = at_in (take n xs) k x (at_taken xs n k x at low)

  pub in_dropped : (xs : List A) (n k : ℕ) (x : A) → slice_get xs k ≡ Some x → n ≤ k → Contains (drop n xs) x
  in_dropped [] n k x at high = cc
  in_dropped (y ∷ xs) zero k x at high = at_in (y ∷ xs) k x at
  in_dropped (y ∷ xs) (suc n) zero x at high = absurd (omega (arith, high))
  in_dropped (y ∷ xs) (suc n) (suc k) x at high = in_dropped xs n k x at (omega (arith, high))

  dropped_at : (xs : List A) (n k : ℕ) (x : A) → slice_get (drop n xs) k ≡ Some x → slice_get xs (n + k) ≡ Some x
  dropped_at xs zero k x at = let same : 0 + k ≡ k = omega arith in subst (λ (m : ℕ). slice_get xs m ≡ Some x) (sym same) at
  dropped_at [] (suc n) k x at = cc
  dropped_at (y ∷ xs) (suc n) k x at =
      let same : suc n + k ≡ suc (n + k) = omega arith in
      subst (λ (m : ℕ). slice_get (y ∷ xs) m ≡ Some x) (sym same) (dropped_at xs n k x at)

  pub dropped_after : (xs : List A) (n : ℕ) (x : A) → Contains (drop n xs) x → (k : ℕ) × (n ≤ k) × (slice_get xs k ≡ Some x)
  dropped_after xs n x h =
      let (k, low, at) = in_at (drop n xs) x h in
      let high : n ≤ n + k = omega arith in
      (n + k, high, dropped_at xs n k x at)

  pub within_list : (xs : List A) (i : ℕ) (x : A) → slice_get xs i ≡ Some x → i < length xs
  within_list [] i x h = cc
  within_list (y ∷ xs) zero x h = long (length xs)
    where
      long : (n : ℕ) → 0 < suc n
      long n = omega arith
  within_list (y ∷ xs) (suc i) x h = more (length xs) (within_list xs i x h)
    where
      more : (n : ℕ) → i < n → suc i < suc n
      more n l = omega (arith, l)

module _ {A B : Type 0} (f : A → B) where
  map_at : (xs : List A) (i : ℕ) (x : A) → slice_get xs i ≡ Some x → slice_get (map f xs) i ≡ Some (f x)
  map_at [] i x h = cc
  map_at (z ∷ xs) zero x h = ap (λ y. Some (f y)) (one h)
    where
      one : Some z ≡ Some x → z ≡ x
      one e = cc
  map_at (z ∷ xs) (suc i) x h = map_at xs i x h

  at_map : (xs : List A) (i : ℕ) (y : B) → slice_get (map f xs) i ≡ Some y → (x : A) × (slice_get xs i ≡ Some x) × (y ≡ f x)
  at_map [] i y h = cc
  at_map (z ∷ xs) zero y h = (z, refl, sym (one h))
    where
      one : Some (f z) ≡ Some y → f z ≡ y
      one e = cc
  at_map (z ∷ xs) (suc i) y h = at_map xs i y h

pub less_or_not : (a n : ℕ) → (a < n) ⊎ (n ≤ a)
less_or_not a zero = inr (omega arith)
less_or_not zero (suc n) = inl (omega arith)
less_or_not (suc a) (suc n) = elim (less_or_not a n) [ inl l ↦ inl (omega (arith, l)) | inr l ↦ inr (omega (arith, l)) ]

-- ---- a name is at one position
pub one_place : (es : List (Name × ItemKind)) → NoNameTwice es → (p q : ℕ) (d e : Name × ItemKind) → slice_get es p ≡ Some d → slice_get es q ≡ Some e → d.0 ≡ e.0 → p ≡ q
one_place es once p q d e here there same = inner (sym (named_at-at es 0 p d.0 d.1 once here) ∙ subst (λ (z : Name). ◌≡◌ {A = Option (ℕ × ItemKind)} (named_at 0 z es) (Some (0 + q, e.1))) (sym same) (named_at-at es 0 q e.0 e.1 once there))
  where
    inner : ◌≡◌ {A = Option (ℕ × ItemKind)} (Some (0 + p, d.1)) (Some (0 + q, e.1)) → p ≡ q
    inner h =
        let pairs : ◌≡◌ {A = ℕ × ItemKind} (0 + p, d.1) (0 + q, e.1) = cc in
        let same : 0 + p ≡ 0 + q = ap (λ (z : ℕ × ItemKind). z.0) pairs in
        omega (arith, same)

-- ---- numbers
-- An import.
abbrev pub import_item : Name × ItemKind → SideItem
import_item e = record { side = imported; name = e.0 }

-- An export.
abbrev pub export_item : Name × ItemKind → SideItem
export_item e = record { side = exported; name = e.0 }

pub sides_differ : imported ≡ exported → ⊥
sides_differ e = cc

module _ (imports exports : List (Name × ItemKind)) where
  -- The items by their numbers.
  abbrev pub numbers : List SideItem
  numbers = map import_item imports ++ map export_item exports

  pub import_at : (i : ℕ) (e : Name × ItemKind) → slice_get imports i ≡ Some e → slice_get numbers i ≡ Some (import_item e)
  import_at i e h = at_left (map import_item imports) (map export_item exports) i (import_item e) (map_at import_item imports i e h)

  pub export_at : (i : ℕ) (e : Name × ItemKind) → slice_get exports i ≡ Some e → slice_get numbers (length imports + i) ≡ Some (export_item e)
  export_at i e h =
      subst (λ (n : ℕ). slice_get numbers (n + i) ≡ Some (export_item e)) (length-map imports import_item)
      (at_right (map import_item imports) (map export_item exports) i (export_item e) (map_at export_item exports i e h))

  pub numbered_at : (n : ℕ) (x : SideItem) → slice_get numbers n ≡ Some x
      → ((e : Name × ItemKind) × (slice_get imports n ≡ Some e) × (x ≡ import_item e)) ⊎ ((i : ℕ) × (e : Name × ItemKind) × (n ≡ length imports + i) × (slice_get exports i ≡ Some e) × (x ≡ export_item e))
  numbered_at n x h = elim (at_either (map import_item imports) (map export_item exports) n x h) [
    | inl w ↦ let (e, at, is) = at_map import_item imports n x w in inl (e, at, is)
    | inr w ↦ let (e, at, is) = at_map export_item exports w.0 x w.2 in inr (w.0, e, w.1 ∙ ap (λ (m : ℕ). m + w.0) (length-map imports import_item), at, is)
  ]

  module _ (imports_once : NoNameTwice imports) (exports_once : NoNameTwice exports) where
    pub one_number : (a b : ℕ) (x : SideItem) → slice_get numbers a ≡ Some x → slice_get numbers b ≡ Some x → a ≡ b
    one_number a b x first second = by (numbered_at a x first) (numbered_at b x second)
      where
        by : ((e : Name × ItemKind) × (slice_get imports a ≡ Some e) × (x ≡ import_item e)) ⊎ ((i : ℕ) × (e : Name × ItemKind) × (a ≡ length imports + i) × (slice_get exports i ≡ Some e) × (x ≡ export_item e))
            → ((e : Name × ItemKind) × (slice_get imports b ≡ Some e) × (x ≡ import_item e)) ⊎ ((i : ℕ) × (e : Name × ItemKind) × (b ≡ length imports + i) × (slice_get exports i ≡ Some e) × (x ≡ export_item e)) → a ≡ b
        by (inl (d, at, is)) (inl (e, there, same)) = one_place imports imports_once a b d e at there (ap (λ (z : SideItem). z.name) (sym is ∙ same))
        by (inl (d, at, is)) (inr (j, e, here, there, same)) = absurd (sides_differ (ap (λ (z : SideItem). z.side) (sym is ∙ same)))
        by (inr (i, d, here, at, is)) (inl (e, there, same)) = absurd (sides_differ (ap (λ (z : SideItem). z.side) (sym same ∙ is)))
        by (inr (i, d, here, at, is)) (inr (j, e, place, there, same)) =
            let equal : i ≡ j = one_place exports exports_once i j d e at there (ap (λ (z : SideItem). z.name) (sym is ∙ same)) in
            here ∙ ap (λ (n : ℕ). length imports + n) equal ∙ sym place

  pub numbered_imports : AreNumbered numbers imported 0 imports
  numbered_imports i e h = let same : 0 + i ≡ i = omega arith in subst (λ (n : ℕ). slice_get numbers n ≡ Some (import_item e)) (sym same) (import_at i e h)

  pub numbered_exports : AreNumbered numbers exported (length imports) exports
  numbered_exports i e h = export_at i e h

  pub all_numbered : (uses : List (Name × UsedType)) (own : ℕ) → numbered_items (parted_sides uses own imports exports) ≡ numbers
  all_numbered uses own = ap (λ l. map import_item l ++ map export_item exports) (take-append-drop own imports)
