-- Lists: what is there at a position, and what passes a test.
use Rattle.std.proofs.Common.{◌≡◌, ◌≢◌, ℕ, zero, suc, ◌<◌, Bool, true, false, cond, List, [], ◌∷◌, ◌++◌, filter, length, slice_get, Some, refl, sym, ap, ◌∙◌, inl, inr, ◌⊎◌, arith}
use Rattle.std.proofs.Math.ListN.{set}
use Rattle.std.specs.List.{AllZip, list_any}
use Rattle.std.proofs.lemmas.Bool.{or_left, or_right, or_cases, or_parts, or_from, cases_Bool, false≢true}

module _ {X : Type 0} where
  -- what passes the test at a position
  pub any-at : (f : X → Bool) (xs : List X) (i : ℕ) (x : X) → slice_get xs i ≡ Some x → f x ≡ true → list_any f xs ≡ true
  any-at f [] i x at t = cc
  any-at f (y ∷ xs) zero x at t = let same : y ≡ x = cc in or_left (f y) _ (ap f same ∙ t)
  any-at f (y ∷ xs) (suc i) x at t = or_right (f y) _ (any-at f xs i x at t)

  pub any-found : (f : X → Bool) (xs : List X) → list_any f xs ≡ true → (i : ℕ) × (x : X) × (slice_get xs i ≡ Some x) × (f x ≡ true)
  any-found f [] t = absurd (false≢true t)
  any-found f (y ∷ xs) t = elim (or_cases (f y) _ t) [
    | inl h ↦ (0, y, refl, h)
    | inr r ↦ let w = any-found f xs r in (suc w.0, w.1, w.2, w.3)
  ]

  -- there is an element at each position
  pub some-at : (xs : List X) (i : ℕ) → i < length xs → (x : X) × (slice_get xs i ≡ Some x)
  some-at [] i lt = absurd (omega (arith, lt))
  some-at (y ∷ xs) zero lt = (y, refl)
  some-at (y ∷ xs) (suc i) lt = some-at xs i (omega (arith, lt))

  pub none-at : (f : X → Bool) (xs : List X) (i : ℕ) (x : X) → list_any f xs ≡ false → slice_get xs i ≡ Some x → f x ≡ false
  none-at f [] i x n at = cc
  none-at f (y ∷ xs) zero x n at = let same : y ≡ x = cc in sym (ap f same) ∙ (or_parts (f y) _ n).0
  none-at f (y ∷ xs) (suc i) x n at = none-at f xs i x (or_parts (f y) _ n).1 at

  -- a filter leaves no more than there was
  pub none-filtered : (f p : X → Bool) (xs : List X) → list_any f xs ≡ false → list_any f (filter p xs) ≡ false
  none-filtered f p [] n = refl
  none-filtered f p (x ∷ xs) n =
      let q = or_parts (f x) _ n in
      let rest = none-filtered f p xs q.1 in
      elim (cases_Bool (p x)) [
        | inl t ↦ ap (λ b. list_any f (cond b (x ∷ filter p xs) (filter p xs))) t ∙ or_from (f x) _ q.0 rest
        | inr e ↦ ap (λ b. list_any f (cond b (x ∷ filter p xs) (filter p xs))) e ∙ rest
      ]

  -- ---- one more element

  pub at-push : (xs : List X) (y : X) (i : ℕ) (x : X) → slice_get xs i ≡ Some x → slice_get (xs ++ y ∷ []) i ≡ Some x
  at-push [] y i x at = cc
  at-push (z ∷ xs) y zero x at = at
  at-push (z ∷ xs) y (suc i) x at = at-push xs y i x at

  pub at-end : (xs : List X) (y : X) → slice_get (xs ++ y ∷ []) (length xs) ≡ Some y
  at-end [] y = refl
  at-end (z ∷ xs) y = at-end xs y

  -- what stands at a position was there, or is the new element
  pub push-cases : (xs : List X) (y : X) (i : ℕ) (x : X) → slice_get (xs ++ y ∷ []) i ≡ Some x → (slice_get xs i ≡ Some x) ⊎ ((i ≡ length xs) × (x ≡ y))
  push-cases [] y zero x at = inr (refl, cc)
  push-cases [] y (suc i) x at = cc
  push-cases (z ∷ xs) y zero x at = inl at
  push-cases (z ∷ xs) y (suc i) x at = elim (push-cases xs y i x at) [
    | inl before ↦ inl before
    | inr last ↦ inr (ap suc last.0, last.1)
  ]

  -- ---- one element written

  pub set-cases : (xs : List X) (k : ℕ) (y : X) (l : ℕ) (x : X) → slice_get (set xs k y) l ≡ Some x → ((l ≡ k) × (x ≡ y)) ⊎ ((l ≢ k) × (slice_get xs l ≡ Some x))
  set-cases [] k y l x at = cc
  set-cases (z ∷ xs) zero y zero x at = inl (refl, cc)
  set-cases (z ∷ xs) zero y (suc l) x at = inr ((λ e. omega (arith, e)), at)
  set-cases (z ∷ xs) (suc k) y zero x at = inr ((λ e. omega (arith, e)), at)
  set-cases (z ∷ xs) (suc k) y (suc l) x at = elim (set-cases xs k y l x at) [
    | inl h ↦ inl (ap suc h.0, h.1)
    | inr h ↦ inr ((λ e. h.0 (omega (arith, e))), h.1)
  ]

-- ---- lists beside each other
pub zip_all : {A B : Type 0} (R S : A → B → Type 0) → ((x : A) (y : B) → R x y → S x y) → (xs : List A) (ys : List B) → AllZip R xs ys → AllZip S xs ys
zip_all R S f [] [] h = tt
zip_all R S f [] (y ∷ ys) h = h
zip_all R S f (x ∷ xs) [] h = h
zip_all R S f (x ∷ xs) (y ∷ ys) h = (f x y h.0, zip_all R S f xs ys h.1)

pub zip_push : {A B : Type 0} (R : A → B → Type 0) (xs : List A) (ys : List B) (x : A) (y : B) → AllZip R xs ys → R x y → AllZip R (xs ++ x ∷ []) (ys ++ y ∷ [])
zip_push R [] [] x y h r = (r, tt)
zip_push R [] (z ∷ ys) x y h r = absurd h
zip_push R (z ∷ xs) [] x y h r = absurd h
zip_push R (z ∷ xs) (w ∷ ys) x y h r = (h.0, zip_push R xs ys x y h.1 r)
