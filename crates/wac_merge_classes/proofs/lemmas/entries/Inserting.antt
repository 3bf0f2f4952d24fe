-- Keys that are inserted one after another: those that were there stay where they are, each stands among them, and there are no others.
use Rattle.std.proofs.Common.{◌≡◌, ℕ, zero, suc, ◌≤◌, Bool, true, false, if◌then◌else◌, List, [], ◌∷◌, ◌++◌, length, slice_get, Some, Contains, ◌⊎◌, inl, inr, refl, sym, ap, ◌∙◌, arith}
use Rattle.std.specs.List.{AllByRecursion, IsDistinct, list_any}
use Rattle.std.proofs.lemmas.Map.Keys.{IsDistinct-head, IsDistinct-tail}
use Rattle.std.proofs.lemmas.Option.{slice_get_within, slice_get-get_or, get_or_from_slice_get}
use Rattle.indexmap.specs.IndexSet.{insert_key, insert_all}
use Rattle.indexmap.proofs.CallerLemmas.{Contains-insert_key}
use Rattle.wac_merge_classes.proofs.lemmas.entries.Lists.{at-push, push-cases}

-- what is in a list stands at a position, and the other way round
module _ {A : Type 0} where
  pub at-of : (xs : List A) (x : A) → Contains xs x → (i : ℕ) × (slice_get xs i ≡ Some x)
  at-of xs x h = (h.0, slice_get-get_or xs h.0 x h.1 ∙ ap (λ y. Some y) h.2)

  pub of-at : (xs : List A) (i : ℕ) (x : A) → slice_get xs i ≡ Some x → Contains xs x
  of-at xs i x at = (i, slice_get_within xs i x at, get_or_from_slice_get xs i x x at)

some-same : {A : Type 0} (x y : A) → Some x ≡ Some y → x ≡ y
some-same x y e = cc

module _ {K : Type 0} (eq : K → K → Bool) (same : (x y : K) → eq x y ≡ true → x ≡ y) where
  -- ---- one key

  pub one-kept : (ks : List K) (k : K) (i : ℕ) (x : K) → slice_get ks i ≡ Some x → slice_get (insert_key eq ks k) i ≡ Some x
  one-kept ks k i x at = by (list_any (eq k) ks) where
    by : (b : Bool) → slice_get (if b then ks else ks ++ k ∷ []) i ≡ Some x
    by true = at
    by false = at-push ks k i x at

  pub one-cases : (ks : List K) (k : K) (i : ℕ) (x : K) → slice_get (insert_key eq ks k) i ≡ Some x → (slice_get ks i ≡ Some x) ⊎ ((i ≡ length ks) × (x ≡ k))
  one-cases ks k i x = by (list_any (eq k) ks) where
    by : (b : Bool) → slice_get (if b then ks else ks ++ k ∷ []) i ≡ Some x → (slice_get ks i ≡ Some x) ⊎ ((i ≡ length ks) × (x ≡ k))
    by true at = inl at
    by false at = push-cases ks k i x at

  -- there are no fewer
  pub one-more : (ks : List K) (k : K) → length ks ≤ length (insert_key eq ks k)
  one-more ks k = by (list_any (eq k) ks) where
    by : (b : Bool) → length ks ≤ length (if b then ks else ks ++ k ∷ [])
    by true = omega arith
    by false = longer ks where
      longer : (xs : List K) → length xs ≤ length (xs ++ k ∷ [])
      longer [] = omega arith
      longer (x ∷ xs) = let h = longer xs in omega (arith, h)

  -- ---- one after another

  pub all-kept : (ks xs : List K) (i : ℕ) (x : K) → slice_get ks i ≡ Some x → slice_get (insert_all eq ks xs) i ≡ Some x
  all-kept ks [] i x at = at
  all-kept ks (y ∷ xs) i x at = all-kept (insert_key eq ks y) xs i x (one-kept ks y i x at)

  all-put : (ks xs : List K) (j : ℕ) (x : K) → slice_get xs j ≡ Some x → Contains (insert_all eq ks xs) x
  all-put ks [] j x at = cc
  all-put ks (y ∷ xs) zero x at =
      let e : y ≡ x = cc in
      let w = at-of (insert_key eq ks y) y (Contains-insert_key eq same ks y) in
      of-at (insert_all eq ks (y ∷ xs)) w.0 x (all-kept (insert_key eq ks y) xs w.0 x (w.1 ∙ ap (λ z. Some z) e))
  all-put ks (y ∷ xs) (suc j) x at = all-put (insert_key eq ks y) xs j x at

  pub all-there : (ks xs : List K) (x : K) → Contains xs x → Contains (insert_all eq ks xs) x
  all-there ks xs x h = let w = at-of xs x h in all-put ks xs w.0 x w.1

  pub all-cases : (ks xs : List K) (i : ℕ) (x : K) → slice_get (insert_all eq ks xs) i ≡ Some x → (slice_get ks i ≡ Some x) ⊎ ((length ks ≤ i) × Contains xs x)
  all-cases ks [] i x at = inl at
  all-cases ks (y ∷ xs) i x at = elim (all-cases (insert_key eq ks y) xs i x at) [
    | inl h ↦ elim (one-cases ks y i x h) [
      | inl old ↦ inl old
      | inr new ↦ inr (omega (arith, new.0), of-at (y ∷ xs) 0 x (ap (λ z. Some z) (sym new.1)))
    ]
    | inr h ↦ let w = at-of xs x h.1 in let more = one-more ks y in inr (omega (arith, more, h.0), of-at (y ∷ xs) (suc w.0) x w.1)
  ]

-- each stands once
module _ {K : Type 0} (eq : K → K → Bool) (itself : (x : K) → eq x x ≡ true) where
  apart : (x : K) (xs : List K) (j : ℕ) → AllByRecursion (λ y. eq x y ≡ false) xs → slice_get xs j ≡ Some x → ⊥
  apart x [] j h at = cc
  apart x (y ∷ xs) zero h at = let e : y ≡ x = cc in let t = itself x in let f : eq x x ≡ false = ap (λ z. eq x z) (sym e) ∙ h.0 in cc
  apart x (y ∷ xs) (suc j) h at = apart x xs j h.1 at

  pub once-there : (xs : List K) → IsDistinct eq xs → (i j : ℕ) (x : K) → slice_get xs i ≡ Some x → slice_get xs j ≡ Some x → i ≡ j
  once-there [] h i j x at also = cc
  once-there (y ∷ xs) h zero zero x at also = refl
  once-there (y ∷ xs) h zero (suc j) x at also = let e : y ≡ x = cc in absurd (apart y xs j (IsDistinct-head eq y xs h) (also ∙ ap (λ z. Some z) (sym e)))
  once-there (y ∷ xs) h (suc i) zero x at also = let e : y ≡ x = cc in absurd (apart y xs i (IsDistinct-head eq y xs h) (at ∙ ap (λ z. Some z) (sym e)))
  once-there (y ∷ xs) h (suc i) (suc j) x at also = ap suc (once-there xs (IsDistinct-tail eq y xs h) i j x at also)
