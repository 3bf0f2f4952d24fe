-- Sums over lists.
use Rattle.std.proofs.Common.{ℕ, zero, suc, ◌+◌, ◌*◌, ◌≤◌, Bool, true, false, if◌then◌else◌, List, [], ◌∷◌, ◌++◌, map, filter, flat_map, Contains, Some, ◌≡◌, ◌⊎◌, inl, inr, refl, ap, sym, ◌∙◌, subst, arith, slice_get, mul-zero, mul-add}
use Rattle.std.specs.List.{sum_by}
use Rattle.std.proofs.lemmas.List.Sums.{sum_by-cons, sum_by-append}
use Rattle.wac_types_collection.proofs.lemmas.wide.Members.{in_none, in_first, in_rest, in_parts, in_left, in_right, in_either, in_at, at_in}

module _ {A : Type 0} where
  -- a sum of terms that are larger where it matters
  pub sum_in : (f g : A → ℕ) (xs : List A) → ((x : A) → Contains xs x → f x ≤ g x) → sum_by f xs ≤ sum_by g xs
  sum_in f g [] less = omega arith
  sum_in f g (x ∷ xs) less =
      let first = less x (in_first x xs) in
      let rest = sum_in f g xs (λ y h. less y (in_rest x y xs h)) in
      omega (arith, first, rest, sum_by-cons f x xs, sum_by-cons g x xs)

  pub sum_same : (f g : A → ℕ) (xs : List A) → ((x : A) → Contains xs x → f x ≡ g x) → sum_by f xs ≡ sum_by g xs
  sum_same f g [] same = refl
  sum_same f g (x ∷ xs) same =
      let first = same x (in_first x xs) in
      let rest = sum_same f g xs (λ y h. same y (in_rest x y xs h)) in
      omega (arith, first, rest, sum_by-cons f x xs, sum_by-cons g x xs)

  pub sum_both : (f g : A → ℕ) (xs : List A) → sum_by (λ x. f x + g x) xs ≡ sum_by f xs + sum_by g xs
  sum_both f g [] = refl
  sum_both f g (x ∷ xs) =
      let rest = sum_both f g xs in
      omega (arith, rest, sum_by-cons f x xs, sum_by-cons g x xs, sum_by-cons (λ y. f y + g y) x xs)

  -- one term of a sum
  pub term_less : (f : A → ℕ) (xs : List A) (x : A) → Contains xs x → f x ≤ sum_by f xs
  term_less f [] x h = absurd (in_none x h)
  term_less f (y ∷ xs) x h = elim (in_parts y x xs h) [
    | inl e ↦ let same : f x ≡ f y = ap f e in omega (arith, same, sum_by-cons f y xs)
    | inr w ↦ let rest = term_less f xs x w in omega (arith, rest, sum_by-cons f y xs)
  ]

  pub sum_filter : (p : A → Bool) (f : A → ℕ) (xs : List A) → sum_by f (filter p xs) ≡ sum_by (λ x. if p x then f x else 0) xs
  sum_filter p f [] = refl
  sum_filter p f (x ∷ xs) = by (p x) refl (sum_filter p f xs)
    where
      by : (b : Bool) → p x ≡ b → sum_by f (filter p xs) ≡ sum_by (λ y. if p y then f y else 0) xs → sum_by f (if b then x ∷ filter p xs else filter p xs) ≡ sum_by (λ y. if p y then f y else 0) (x ∷ xs)
      by true is rest =
          let here : (if p x then f x else 0) ≡ f x = ap (λ b. if b then f x else 0) is in
          omega (arith, here, rest, sum_by-cons f x (filter p xs), sum_by-cons (λ y. if p y then f y else 0) x xs)
      by false is rest =
          let here : (if p x then f x else 0) ≡ 0 = ap (λ b. if b then f x else 0) is in
          omega (arith, here, rest, sum_by-cons (λ y. if p y then f y else 0) x xs)

  -- what passes a test, and is in what passes
  pub in_filter : (p : A → Bool) (xs : List A) (x : A) → Contains xs x → p x ≡ true → Contains (filter p xs) x
  in_filter p [] x h is = h
  in_filter p (y ∷ xs) x h is = by (p y) refl (in_parts y x xs h) (λ w. in_filter p xs x w is)
    where
      by : (b : Bool) → p y ≡ b → (x ≡ y) ⊎ Contains xs x → (Contains xs x → Contains (filter p xs) x) → Contains (if b then y ∷ filter p xs else filter p xs) x
      by true at (inl e) rest = subst (λ z. Contains (z ∷ filter p xs) x) e (in_first x (filter p xs))
      by true at (inr w) rest = in_rest y x (filter p xs) (rest w)
      by false at (inl e) rest = let no : true ≡ false = sym is ∙ ap p e ∙ at in cc
      by false at (inr w) rest = rest w

  pub filter_in : (p : A → Bool) (xs : List A) (x : A) → Contains (filter p xs) x → Contains xs x × (p x ≡ true)
  filter_in p [] x h = absurd (in_none x h)
  filter_in p (y ∷ xs) x h = by (p y) refl h (λ w. filter_in p xs x w)
    where
      by : (b : Bool) → p y ≡ b → Contains (if b then y ∷ filter p xs else filter p xs) x → (Contains (filter p xs) x → Contains xs x × (p x ≡ true)) → Contains (y ∷ xs) x × (p x ≡ true)
      by true at h rest = elim (in_parts y x (filter p xs) h) [
        | inl e ↦ (subst (λ z. Contains (z ∷ xs) x) e (in_first x xs), ap p e ∙ at)
        | inr w ↦ let (there, is) = rest w in (in_rest y x xs there, is)
      ]
      by false at h rest = let (there, is) = rest h in (in_rest y x xs there, is)

  -- No element occurs twice.
  unfoldable pub Differ : List A → Type 0
  Differ xs = (i j : ℕ) (x : A) → slice_get xs i ≡ Some x → slice_get xs j ≡ Some x → i ≡ j

  -- a list around an element
  parted : (ys : List A) (x : A) → Contains ys x → (a : List A) × (b : List A) × (ys ≡ a ++ x ∷ b)
  parted [] x h = absurd (in_none x h)
  parted (y ∷ ys) x h = elim (in_parts y x ys h) [
    | inl e ↦ ([], ys, ap (λ z. z ∷ ys) (sym e))
    | inr w ↦ let (a, b, is) = parted ys x w in (y ∷ a, b, ap (λ l. y ∷ l) is)
  ]

  -- a list of different elements of another sums up to no more
  pub sum_less : (f : A → ℕ) (xs ys : List A) → Differ xs → ((x : A) → Contains xs x → Contains ys x) → sum_by f xs ≤ sum_by f ys
  unfolding Differ
  sum_less f [] ys apart there = omega arith
  sum_less f (x ∷ xs) ys apart there =
      let (a, b, is) = parted ys x (there x (in_first x xs)) in
      let rest = sum_less f xs (a ++ b) tail (λ y w. others a b y w (subst (λ l. Contains l y) is (there y (in_rest x y xs w)))) in
      let whole : sum_by f ys ≡ sum_by f (a ++ x ∷ b) = ap (sum_by f) is in
      omega (arith, rest, whole, sum_by-cons f x xs, sum_by-append f a (x ∷ b), sum_by-cons f x b, sum_by-append f a b)
    where
      tail : Differ xs
      tail i j y at also = let e = apart (suc i) (suc j) y at also in omega (arith, e)

      alone : Contains xs x → ⊥
      alone w = let (k, l, at) = in_at xs x w in let e = apart zero (suc k) x refl at in omega (arith, e)

      others : (a b : List A) (y : A) → Contains xs y → Contains (a ++ x ∷ b) y → Contains (a ++ b) y
      others a b y w h = elim (in_either a (x ∷ b) y h) [
        | inl l ↦ in_left a b y l
        | inr r ↦ elim (in_parts x y b r) [
          | inl e ↦ absurd (alone (subst (Contains xs) e w))
          | inr q ↦ in_right a b y q
        ]
      ]

  pub sum_scaled : (k : ℕ) (f : A → ℕ) (xs : List A) → sum_by (λ x. k * f x) xs ≡ k * sum_by f xs
  sum_scaled k f [] = sym (mul-zero k)
  sum_scaled k f (x ∷ xs) =
      let rest = sum_scaled k f xs in
      let whole : k * sum_by f (x ∷ xs) ≡ k * (f x + sum_by f xs) = ap (λ n. k * n) (sum_by-cons f x xs) in
      let parts = mul-add k (f x) (sum_by f xs) in
      omega (arith, rest, whole, parts, sum_by-cons (λ y. k * f y) x xs)

  -- an element that is not in a list
  pub differ_more : (x : A) (xs : List A) → (Contains xs x → ⊥) → Differ xs → Differ (x ∷ xs)
  unfolding Differ
  differ_more x xs new apart = by
    where
      out : (k : ℕ) (y : A) → slice_get xs k ≡ Some y → x ≡ y → ⊥
      out k y at same = new (subst (Contains xs) (sym same) (at_in xs k y at))

      by : (i j : ℕ) (y : A) → slice_get (x ∷ xs) i ≡ Some y → slice_get (x ∷ xs) j ≡ Some y → i ≡ j
      by zero zero y at also = refl
      by zero (suc j) y at also = let both : Some x ≡ Some y = at in let same : x ≡ y = cc in absurd (out j y also same)
      by (suc i) zero y at also = let both : Some x ≡ Some y = also in let same : x ≡ y = cc in absurd (out i y at same)
      by (suc i) (suc j) y at also = ap suc (apart i j y at also)

module _ {A B : Type 0} where
  pub sum_mapped : (f : B → ℕ) (h : A → B) (xs : List A) → sum_by f (map h xs) ≡ sum_by (λ x. f (h x)) xs
  sum_mapped f h [] = refl
  sum_mapped f h (x ∷ xs) =
      let rest = sum_mapped f h xs in
      omega (arith, rest, sum_by-cons f (h x) (map h xs), sum_by-cons (λ y. f (h y)) x xs)

  pub sum_flat : (f : B → ℕ) (g : A → List B) (xs : List A) → sum_by f (flat_map g xs) ≡ sum_by (λ x. sum_by f (g x)) xs
  sum_flat f g [] = refl
  sum_flat f g (x ∷ xs) =
      let rest = sum_flat f g xs in
      omega (arith, rest, sum_by-append f (g x) (flat_map g xs), sum_by-cons (λ y. sum_by f (g y)) x xs)
