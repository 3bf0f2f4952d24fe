-- Elements of lists by position.
use Rattle.std.proofs.Common.{◌≡◌, ℕ, zero, suc, List, [], ◌∷◌, ◌++◌, length, map, refl, ap, subst, Some, ◌⊎◌, inl, inr}
use Rattle.std.specs.List.{AllByRecursion}
use Rattle.std.specs.Prelude.{slice_get}

pub slice_get-push : {A : Type 0} (xs : List A) (x : A) (k : ℕ) (y : A) → slice_get (xs ++ x ∷ []) k ≡ Some y → (slice_get xs k ≡ Some y) ⊎ ((k ≡ length xs) × (y ≡ x))
slice_get-push [] x zero y h = inr (refl, cc)
slice_get-push [] x (suc k) y h = cc
slice_get-push (z ∷ xs) x zero y h = inl h
slice_get-push (z ∷ xs) x (suc k) y h = split (slice_get-push xs x k y h) where
  split : (slice_get xs k ≡ Some y) ⊎ ((k ≡ length xs) × (y ≡ x)) → (slice_get xs k ≡ Some y) ⊎ ((suc k ≡ suc (length xs)) × (y ≡ x))
  split (inl a) = inl a
  split (inr (a, b)) = inr (ap suc a, b)

pub slice_get-prefix : {A : Type 0} (xs ys : List A) (k : ℕ) (y : A) → slice_get xs k ≡ Some y → slice_get (xs ++ ys) k ≡ Some y
slice_get-prefix [] ys k y h = cc
slice_get-prefix (x ∷ xs) ys zero y h = h
slice_get-prefix (x ∷ xs) ys (suc k) y h = slice_get-prefix xs ys k y h

pub slice_get-last : {A : Type 0} (xs : List A) (x : A) → slice_get (xs ++ x ∷ []) (length xs) ≡ Some x
slice_get-last [] x = refl
slice_get-last (y ∷ xs) x = slice_get-last xs x

-- an element of two lists is one of the first or of the second
pub slice_get-split : {A : Type 0} (xs ys : List A) (k : ℕ) (y : A) → slice_get (xs ++ ys) k ≡ Some y → (slice_get xs k ≡ Some y) ⊎ ((j : ℕ) × (slice_get ys j ≡ Some y))
slice_get-split [] ys k y h = inr (k, h)
slice_get-split (x ∷ xs) ys zero y h = inl h
slice_get-split (x ∷ xs) ys (suc k) y h = slice_get-split xs ys k y h

pub slice_get-map : {A B : Type 0} (f : A → B) (xs : List A) (k : ℕ) (y : A) → slice_get xs k ≡ Some y → slice_get (map f xs) k ≡ Some (f y)
slice_get-map f [] k y h = cc
slice_get-map f (x ∷ xs) zero y h = let e : x ≡ y = cc in ap (λ z. Some (f z)) e
slice_get-map f (x ∷ xs) (suc k) y h = slice_get-map f xs k y h

-- what holds of all holds of each
pub all_at : {A : Type 0} (P : A → Type 0) (xs : List A) (k : ℕ) (x : A) → AllByRecursion P xs → slice_get xs k ≡ Some x → P x
all_at P [] k x all h = cc
all_at P (y ∷ xs) zero x all h = let e : y ≡ x = cc in subst P e all.0
all_at P (y ∷ xs) (suc k) x all h = all_at P xs k x all.1 h

pub all_append : {A : Type 0} (P : A → Type 0) (xs ys : List A) → AllByRecursion P xs → AllByRecursion P ys → AllByRecursion P (xs ++ ys)
all_append P [] ys all more = more
all_append P (x ∷ xs) ys all more = (all.0, all_append P xs ys all.1 more)
