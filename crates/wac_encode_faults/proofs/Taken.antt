-- The first elements of a list.
use Rattle.std.proofs.Common.{ℕ, zero, suc, ◌+◌, ◌<◌, List, [], ◌∷◌, ◌++◌, take, Contains, Some, ◌≡◌, ◌⊎◌, ◌↔◌, inl, inr, ap, sym, ◌∙◌, subst, arith, slice_get}
use Rattle.wac_types_collection.proofs.lemmas.wide.Members.{in_none, in_first, in_one, in_left, in_right, in_either, in_at}

module _ {A : Type 0} where
  pub none_taken : (xs : List A) (x : A) → Contains (take 0 xs) x → ⊥
  none_taken [] x h = in_none x h
  none_taken (y ∷ xs) x h = in_none x h

  pub taken_one : (xs : List A) (n : ℕ) (y : A) → slice_get xs n ≡ Some y → take (suc n) xs ≡ take n xs ++ y ∷ []
  taken_one [] n y at = cc
  taken_one (x ∷ xs) zero y at = ap (λ z. z ∷ []) (same at)
    where
      same : Some x ≡ Some y → x ≡ y
      same e = cc
  taken_one (x ∷ xs) (suc n) y at = ap (λ l. x ∷ l) (taken_one xs n y at)

  pub taken_more : (xs : List A) (n : ℕ) (y : A) → slice_get xs n ≡ Some y → take (n + 1) xs ≡ take n xs ++ y ∷ []
  taken_more xs n y at = let more : n + 1 ≡ suc n = omega arith in ap (λ k. take k xs) more ∙ taken_one xs n y at

  pub taken_next : (xs : List A) (n : ℕ) (y x : A) → slice_get xs n ≡ Some y → Contains (take (n + 1) xs) x ↔ (Contains (take n xs) x ⊎ (x ≡ y))
  taken_next xs n y x at =
      let whole = taken_more xs n y at in (
        λ h. elim (in_either (take n xs) (y ∷ []) x (subst (λ l. Contains l x) whole h)) [ inl w ↦ inl w | inr w ↦ inr (in_one y x w) ],
        λ h. subst (λ l. Contains l x) (sym whole) (elim h [ inl w ↦ in_left (take n xs) (y ∷ []) x w | inr e ↦ in_right (take n xs) (y ∷ []) x (subst (λ z. Contains (z ∷ []) x) e (in_first x [])) ]),
      )

  taken_at : (xs : List A) (n k : ℕ) (x : A) → slice_get (take n xs) k ≡ Some x → (k < n) × (slice_get xs k ≡ Some x)
  taken_at [] zero k x at = cc
  taken_at [] (suc n) k x at = cc
  taken_at (y ∷ xs) zero k x at = cc
  taken_at (y ∷ xs) (suc n) zero x at = (omega arith, at)
  taken_at (y ∷ xs) (suc n) (suc k) x at = let (low, there) = taken_at xs n k x at in (omega (arith, low), there)

  pub taken_before : (xs : List A) (n : ℕ) (x : A) → Contains (take n xs) x → (k : ℕ) × (k < n) × (slice_get xs k ≡ Some x)
  taken_before xs n x h =
      let (k, low, at) = in_at (take n xs) x h in
      let (less, there) = taken_at xs n k x at in
      (k, less, there)
