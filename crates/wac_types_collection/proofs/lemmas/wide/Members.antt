-- What is in a list, in parts of it, and in what is made of it.
use Rattle.std.proofs.Common.{ℕ, zero, suc, ◌+◌, ◌<◌, List, [], ◌∷◌, ◌++◌, map, reverse, length, get_or, Contains, Some, ◌≡◌, ◌⊎◌, inl, inr, refl, ap, sym, ◌∙◌, subst, arith, append_assoc, flat_map, slice_get}
use Rattle.std.proofs.lemmas.Grind.{reverse_onto}
use Rattle.std.proofs.lemmas.Option.{slice_get-get_or}
use Rattle.std.proofs.lemmas.List.Elements.{Contains-append_left, Contains-append_right, Contains-append_cases}

reverse_first : {A : Type 0} (y : A) (xs : List A) → reverse (y ∷ xs) ≡ reverse xs ++ y ∷ []
reverse_first y xs = reverse_onto xs y []

module _ {A : Type 0} where
  pub in_none : (x : A) → Contains [] x → ⊥
  in_none x h = let l : h.0 < 0 = h.1 in absurd (omega (arith, l))

  pub in_first : (x : A) (xs : List A) → Contains (x ∷ xs) x
  in_first x xs = (0, omega arith, refl)

  pub in_rest : (y x : A) (xs : List A) → Contains xs x → Contains (y ∷ xs) x
  in_rest y x xs h = Contains-append_right (y ∷ []) xs x h

  pub in_parts : (y x : A) (xs : List A) → Contains (y ∷ xs) x → (x ≡ y) ⊎ Contains xs x
  in_parts y x xs (zero, l, e) = inl (sym e)
  in_parts y x xs (suc k, l, e) = inr (k, omega (arith, l), e)

  pub in_one : (y x : A) → Contains (y ∷ []) x → x ≡ y
  in_one y x h = elim (in_parts y x [] h) [ inl e ↦ e | inr n ↦ absurd (in_none x n) ]

  pub in_left : (xs ys : List A) (x : A) → Contains xs x → Contains (xs ++ ys) x
  in_left = Contains-append_left

  pub in_right : (xs ys : List A) (x : A) → Contains ys x → Contains (xs ++ ys) x
  in_right = Contains-append_right

  pub in_either : (xs ys : List A) (x : A) → Contains (xs ++ ys) x → Contains xs x ⊎ Contains ys x
  in_either = Contains-append_cases

  pub at_in : (xs : List A) (k : ℕ) (x : A) → slice_get xs k ≡ Some x → Contains xs x
  at_in [] k x e = cc
  at_in (y ∷ xs) zero x e = subst (λ z. Contains (z ∷ xs) x) (same e) (in_first x xs)
    where
      same : Some y ≡ Some x → x ≡ y
      same e = cc
  at_in (y ∷ xs) (suc k) x e = in_rest y x xs (at_in xs k x e)

  pub in_at : (xs : List A) (x : A) → Contains xs x → (k : ℕ) × (k < length xs) × (slice_get xs k ≡ Some x)
  in_at [] x h = absurd (in_none x h)
  in_at (y ∷ xs) x (zero, l, e) = (zero, omega arith, ap Some e)
  in_at (y ∷ xs) x (suc k, l, e) = let (j, low, at) = in_at xs x (k, omega (arith, l), e) in (suc j, omega (arith, low), at)

  pub in_reversed : (xs : List A) (x : A) → Contains (reverse xs) x → Contains xs x
  in_reversed [] x h = h
  in_reversed (y ∷ xs) x h = elim (in_either (reverse xs) (y ∷ []) x (subst (λ l. Contains l x) (reverse_first y xs) h)) [
    | inl w ↦ in_rest y x xs (in_reversed xs x w)
    | inr w ↦ subst (λ z. Contains (z ∷ xs) x) (in_one y x w) (in_first x xs)
  ]

module _ {A B : Type 0} where
  pub in_map : (f : A → B) (xs : List A) (x : A) → Contains xs x → Contains (map f xs) (f x)
  in_map f [] x h = absurd (in_none x h)
  in_map f (y ∷ xs) x h = elim (in_parts y x xs h) [
    | inl e ↦ subst (λ z. Contains (f z ∷ map f xs) (f x)) e (in_first (f x) (map f xs))
    | inr w ↦ in_rest (f y) (f x) (map f xs) (in_map f xs x w)
  ]

  pub map_in : (f : A → B) (xs : List A) (b : B) → Contains (map f xs) b → (x : A) × Contains xs x × (b ≡ f x)
  map_in f [] b h = absurd (in_none b h)
  map_in f (y ∷ xs) b h = elim (in_parts (f y) b (map f xs) h) [
    | inl e ↦ (y, in_first y xs, e)
    | inr w ↦ let (x, there, is) = map_in f xs b w in (x, in_rest y x xs there, is)
  ]

  pub in_flat : (f : A → List B) (xs : List A) (x : A) (b : B) → Contains xs x → Contains (f x) b → Contains (flat_map f xs) b
  in_flat f [] x b h w = absurd (in_none x h)
  in_flat f (y ∷ xs) x b h w = elim (in_parts y x xs h) [
    | inl e ↦ in_left (f y) (flat_map f xs) b (subst (λ z. Contains (f z) b) e w)
    | inr k ↦ in_right (f y) (flat_map f xs) b (in_flat f xs x b k w)
  ]

  pub flat_in : (f : A → List B) (xs : List A) (b : B) → Contains (flat_map f xs) b → (x : A) × Contains xs x × Contains (f x) b
  flat_in f [] b h = absurd (in_none b h)
  flat_in f (y ∷ xs) b h = elim (in_either (f y) (flat_map f xs) b h) [
    | inl w ↦ (y, in_first y xs, w)
    | inr w ↦ let (x, there, is) = flat_in f xs b w in (x, in_rest y x xs there, is)
  ]

  pub flat_same : (f g : A → List B) (xs : List A) → ((x : A) → Contains xs x → f x ≡ g x) → flat_map f xs ≡ flat_map g xs
  flat_same f g [] same = refl
  flat_same f g (y ∷ xs) same =
      let first : f y ≡ g y = same y (in_first y xs) in
      let rest : flat_map f xs ≡ flat_map g xs = flat_same f g xs (λ x h. same x (in_rest y x xs h)) in
      (λ t. first t ++ rest t)

  pub flat_joined : (f : A → List B) (xs ys : List A) → flat_map f (xs ++ ys) ≡ flat_map f xs ++ flat_map f ys
  flat_joined f [] ys = refl
  flat_joined f (x ∷ xs) ys = ap (λ l. f x ++ l) (flat_joined f xs ys) ∙ sym (append_assoc (f x) (flat_map f xs) (flat_map f ys))

-- what is read of the keys of a set
pub read_here : {A : Type 0} (keys slice : List A) (n next : ℕ) (d : A) → next < n → n ≡ length keys → slice ≡ keys → slice_get keys next ≡ Some (get_or slice next d)
read_here keys slice n next d low count same =
    let long : n ≡ length slice = count ∙ ap length (sym same) in
    subst (λ xs. slice_get xs next ≡ Some (get_or slice next d)) same (slice_get-get_or slice next d (omega (arith, low, long)))
