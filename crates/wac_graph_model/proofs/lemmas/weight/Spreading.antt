-- Sums that are no more than sums over another list.
use Rattle.std.proofs.Common.{ℕ, zero, suc, ◌+◌, ◌≤◌, Bool, true, false, if◌then◌else◌, List, [], ◌∷◌, Contains, Some, ◌≡◌, ◌⊎◌, inl, inr, refl, ap, sym, ◌∙◌, subst, arith, slice_get}
use Rattle.std.specs.List.{sum_by}
use Rattle.std.proofs.lemmas.List.Sums.{sum_by-cons}
use Rattle.wac_types_collection.proofs.lemmas.wide.Members.{in_none, in_first, in_rest, in_parts, in_at}
use Rattle.wac_graph_model.specs.private.weight.Written.{numbered}
use Rattle.wac_types_weight.proofs.Sums.{sum_in, sum_same, sum_both, term_less, Differ}

module _ {A : Type 0} where
  pub sum_nothing : (f : A → ℕ) (xs : List A) → ((x : A) → Contains xs x → f x ≡ 0) → sum_by f xs ≡ 0
  sum_nothing f [] none = refl
  sum_nothing f (x ∷ xs) none =
      let first = none x (in_first x xs) in
      let rest = sum_nothing f xs (λ y h. none y (in_rest x y xs h)) in
      omega (arith, first, rest, sum_by-cons f x xs)

  -- what counts only where a test holds
  pub counted : (A → Bool) → ℕ → A → ℕ
  counted p n x = if p x then n else 0

  pub counted_yes : (p : A → Bool) (n : ℕ) (x : A) → p x ≡ true → counted p n x ≡ n
  unfolding counted
  counted_yes p n x is = ap (λ b. if b then n else 0) is

  pub counted_no : (p : A → Bool) (n : ℕ) (x : A) → (p x ≡ true → ⊥) → counted p n x ≡ 0
  unfolding counted
  counted_no p n x never = by (p x) never
    where
      by : (b : Bool) → (b ≡ true → ⊥) → (if b then n else 0) ≡ 0
      by true never = absurd (never refl)
      by false never = refl

  -- a test that holds of no more than one element, and of that once
  pub one_at_most : (p : A → Bool) (n : ℕ) (xs : List A) → Differ xs → ((x y : A) → p x ≡ true → p y ≡ true → x ≡ y) → sum_by (counted p n) xs ≤ n
  unfolding Differ
  one_at_most p n [] apart one = omega arith
  one_at_most p n (x ∷ xs) apart one = by (p x) refl (one_at_most p n xs tail one)
    where
      tail : (i j : ℕ) (y : A) → slice_get xs i ≡ Some y → slice_get xs j ≡ Some y → i ≡ j
      tail i j y at also = let e = apart (suc i) (suc j) y at also in omega (arith, e)

      alone : Contains xs x → ⊥
      alone w = let (k, l, at) = in_at xs x w in let e = apart zero (suc k) x refl at in omega (arith, e)

      by : (b : Bool) → p x ≡ b → sum_by (counted p n) xs ≤ n → sum_by (counted p n) (x ∷ xs) ≤ n
      by true is less =
          let rest = sum_nothing (counted p n) xs (λ y h. counted_no p n y (λ also. alone (subst (Contains xs) (sym (one x y is also)) h))) in
          let first = counted_yes p n x is in
          omega (arith, first, rest, sum_by-cons (counted p n) x xs)
      by false is less =
          let first = counted_no p n x (λ also. let wrong : true ≡ false = sym also ∙ is in cc) in
          omega (arith, first, less, sum_by-cons (counted p n) x xs)

module _ {A B : Type 0} where
  pub swapped : (h : A → B → ℕ) (xs : List A) (ys : List B) → sum_by (λ x. sum_by (h x) ys) xs ≡ sum_by (λ y. sum_by (λ x. h x y) xs) ys
  swapped h [] ys = sym (sum_nothing (λ y. sum_by (λ x. h x y) []) ys (λ y w. refl))
  swapped h (x ∷ xs) ys =
      let rest = swapped h xs ys in
      let both = sum_both (h x) (λ y. sum_by (λ z. h z y) xs) ys in
      let opened = sum_same (λ y. sum_by (λ z. h z y) (x ∷ xs)) (λ y. h x y + sum_by (λ z. h z y) xs) ys (λ y w. sum_by-cons (λ z. h z y) x xs) in
      omega (arith, rest, both, opened, sum_by-cons (λ z. sum_by (h z) ys) x xs)

  -- Each term of a sum is 0 or paid by one of another, which pays no more than it has.
  pub spread : (f : A → ℕ) (g : B → ℕ) (r : B → A → Bool) (xs : List A) (ys : List B)
      → ((x : A) → Contains xs x → (f x ≡ 0) ⊎ ((y : B) × Contains ys y × (r y x ≡ true) × (f x ≤ g y)))
      → ((y : B) → Contains ys y → sum_by (counted (r y) (g y)) xs ≤ g y) → sum_by f xs ≤ sum_by g ys
  spread f g r xs ys pays once =
      let many = sum_in f (λ x. sum_by (λ y. counted (r y) (g y) x) ys) xs (λ x h. paid x (pays x h)) in
      let swap = swapped (λ x y. counted (r y) (g y) x) xs ys in
      let few = sum_in (λ y. sum_by (λ x. counted (r y) (g y) x) xs) g ys once in
      omega (arith, many, swap, few)
    where
      paid : (x : A) → (f x ≡ 0) ⊎ ((y : B) × Contains ys y × (r y x ≡ true) × (f x ≤ g y)) → f x ≤ sum_by (λ y. counted (r y) (g y) x) ys
      paid x (inl none) = omega (arith, none)
      paid x (inr (y, there, is, less)) =
          let term = term_less (λ z. counted (r z) (g z) x) ys y there in
          let here = counted_yes (r y) (g y) x is in
          omega (arith, term, here, less)

module _ {A : Type 0} where
  -- a sum that gains n at an element, and loses nowhere
  pub sum_gain : (f g : A → ℕ) (n : ℕ) (x : A) (xs : List A) → Contains xs x → ((y : A) → f y ≤ g y) → f x + n ≤ g x → sum_by f xs + n ≤ sum_by g xs
  sum_gain f g n x [] h less gain = absurd (in_none x h)
  sum_gain f g n x (y ∷ xs) h less gain = elim (in_parts y x xs h) [
    | inl e ↦
        let rest = sum_in f g xs (λ z w. less z) in
        let here : f y + n ≤ g y = subst (λ z. f z + n ≤ g z) e gain in
        omega (arith, rest, here, sum_by-cons f y xs, sum_by-cons g y xs)
    | inr w ↦
        let rest = sum_gain f g n x xs w less gain in
        let here = less y in
        omega (arith, rest, here, sum_by-cons f y xs, sum_by-cons g y xs)
  ]

-- ---- the elements of a list with their places
module _ {A : Type 0} where
  pub numbered_sum : (f : A → ℕ) (n : ℕ) (xs : List A) → sum_by (λ p. f p.1) (numbered n xs) ≡ sum_by f xs
  numbered_sum f n [] = refl
  numbered_sum f n (x ∷ xs) =
      let rest = numbered_sum f (suc n) xs in
      omega (arith, rest, sum_by-cons f x xs, sum_by-cons (λ p. f p.1) (n, x) (numbered (suc n) xs))

  pub numbered_in : (n : ℕ) (xs : List A) (k : ℕ) (x : A) → slice_get xs k ≡ Some x → (j : ℕ) × (j ≡ n + k) × Contains (numbered n xs) (j, x)
  numbered_in n [] k x at = cc
  numbered_in n (y ∷ xs) zero x at =
      let same : y ≡ x = cc in
      (n, omega arith, subst (λ z. Contains ((n, y) ∷ numbered (suc n) xs) (n, z)) same (in_first (n, y) (numbered (suc n) xs)))
  numbered_in n (y ∷ xs) (suc k) x at =
      let (j, is, there) = numbered_in (suc n) xs k x at in
      (j, omega (arith, is), in_rest (n, y) (j, x) (numbered (suc n) xs) there)
