-- Lists that grow, positions that are counted on, and what holds of all.
use Rattle.std.proofs.Common.{◌≡◌, ℕ, zero, suc, ◌+◌, List, [], ◌∷◌, ◌++◌, map, take, length, slice_get, Some, ◌⊎◌, inl, inr, refl, sym, ap, ◌∙◌, subst, arith, append_assoc, add-one}
use Rattle.std.specs.List.{AllByRecursion, AllZip, Contains}
use Rattle.std.proofs.lemmas.Option.{slice_get_within, slice_get-get_or, get_or_from_slice_get}
use Rattle.std.proofs.lemmas.List.{length-append}
use Rattle.wac_types_shapes.proofs.lemmas.shapes.Names.{take_at}
use Rattle.wac_merge_unions.specs.private.uniting.UnionSteps.{numbered, Extends}

pub some-same : {A : Type 0} (x y : A) → Some x ≡ Some y → x ≡ y
some-same x y e = cc

module _ {A : Type 0} where
  pub contains_at : (xs : List A) (k : ℕ) (x : A) → slice_get xs k ≡ Some x → Contains xs x
  contains_at xs k x at = (k, slice_get_within xs k x at, get_or_from_slice_get xs k x x at)

  pub at_contains : (xs : List A) (x : A) → Contains xs x → (k : ℕ) × (slice_get xs k ≡ Some x)
  at_contains xs x h = (h.0, slice_get-get_or xs h.0 x h.1 ∙ ap Some h.2)

  pub extends_refl : (xs : List A) → Extends xs xs
  extends_refl xs i x at = at

  pub append_left : (xs ys : List A) → Extends xs (xs ++ ys)
  append_left [] ys i x at = cc
  append_left (z ∷ xs) ys zero x at = at
  append_left (z ∷ xs) ys (suc i) x at = append_left xs ys i x at

  pub append_right : (xs ys : List A) (j : ℕ) → slice_get (xs ++ ys) (length xs + j) ≡ slice_get ys j
  append_right [] ys j = let e : 0 + j ≡ j = omega arith in ap (slice_get ys) e
  append_right (z ∷ xs) ys j = let e : suc (length xs) + j ≡ suc (length xs + j) = omega arith in ap (slice_get (z ∷ (xs ++ ys))) e ∙ append_right xs ys j

  pub append_cases : (xs ys : List A) (i : ℕ) (x : A) → slice_get (xs ++ ys) i ≡ Some x → (slice_get xs i ≡ Some x) ⊎ ((j : ℕ) × (i ≡ length xs + j) × (slice_get ys j ≡ Some x))
  append_cases [] ys i x at = inr (i, omega arith, at)
  append_cases (z ∷ xs) ys zero x at = inl at
  append_cases (z ∷ xs) ys (suc i) x at = elim (append_cases xs ys i x at) [
    | inl h ↦ inl h
    | inr h ↦ inr (h.0, omega (arith, h.1), h.2)
  ]

  pub all_from : (P : A → Type 0) (xs : List A) → ((k : ℕ) (x : A) → slice_get xs k ≡ Some x → P x) → AllByRecursion P xs
  all_from P [] h = tt
  all_from P (x ∷ xs) h = (h 0 x refl, all_from P xs (λ k y at. h (suc k) y at))

  pub all_at : (P : A → Type 0) (xs : List A) (k : ℕ) (x : A) → AllByRecursion P xs → slice_get xs k ≡ Some x → P x
  all_at P [] k x h at = cc
  all_at P (y ∷ xs) zero x h at = subst P (some-same y x at) h.0
  all_at P (y ∷ xs) (suc k) x h at = all_at P xs k x h.1 at

  pub all_push : (P : A → Type 0) (xs : List A) (x : A) → AllByRecursion P xs → P x → AllByRecursion P (xs ++ x ∷ [])
  all_push P [] x h p = (p, tt)
  all_push P (y ∷ xs) x h p = (h.0, all_push P xs x h.1 p)

  pub all_take : (P : A → Type 0) (n : ℕ) (xs : List A) → AllByRecursion P xs → AllByRecursion P (take n xs)
  all_take P zero xs h = tt
  all_take P (suc n) [] h = tt
  all_take P (suc n) (x ∷ xs) h = (h.0, all_take P n xs h.1)

  -- ---- positions

  pub numbered_push : (n : ℕ) (xs : List A) (x : A) → numbered n (xs ++ x ∷ []) ≡ numbered n xs ++ (n + length xs) ∷ []
  numbered_push n [] x = let e : n ≡ n + 0 = omega arith in ap (λ k. k ∷ []) e
  numbered_push n (y ∷ xs) x =
      let e : suc n + length xs ≡ n + suc (length xs) = omega arith in
      ap (λ r. n ∷ r) (numbered_push (suc n) xs x ∙ ap (λ k. numbered (suc n) xs ++ k ∷ []) e)

  pub numbered_at : (n : ℕ) (xs : List A) (j : ℕ) (x : A) → slice_get xs j ≡ Some x → slice_get (numbered n xs) j ≡ Some (n + j)
  numbered_at n [] j x at = cc
  numbered_at n (y ∷ xs) zero x at = let e : n ≡ n + 0 = omega arith in ap Some e
  numbered_at n (y ∷ xs) (suc j) x at = let e : suc n + j ≡ n + suc j = omega arith in numbered_at (suc n) xs j x at ∙ ap Some e

  pub at_numbered : (n : ℕ) (xs : List A) (j p : ℕ) → slice_get (numbered n xs) j ≡ Some p → (p ≡ n + j) × (x : A) × (slice_get xs j ≡ Some x)
  at_numbered n [] j p at = cc
  at_numbered n (y ∷ xs) zero p at = let e = some-same n p at in (omega (arith, e), y, refl)
  at_numbered n (y ∷ xs) (suc j) p at = let r = at_numbered (suc n) xs j p at in let e = r.0 in (omega (arith, e), r.1, r.2)

-- ---- one more of what is read in order

pushed_next : {A : Type 0} (ps qs rs xs : List A) (i : ℕ) (x : A) → slice_get xs i ≡ Some x → qs ≡ ps ++ take i xs → rs ≡ qs ++ x ∷ [] → rs ≡ ps ++ take (i + 1) xs
pushed_next ps qs rs xs i x at was is = rw (add-one, take_at xs i x at) (is ∙ ap (λ l. l ++ x ∷ []) was ∙ append_assoc ps (take i xs) (x ∷ []))

numbered_next : {A : Type 0} (ps qs xs : List A) (ns ms : List ℕ) (i k : ℕ) (x : A) → slice_get xs i ≡ Some x → qs ≡ ps ++ take i xs → k ≡ length qs → ns ≡ numbered (length ps) (take i xs) → ms ≡ ns ++ k ∷ []
    → ms ≡ numbered (length ps) (take (i + 1) xs)
numbered_next ps qs xs ns ms i k x at parts counted was is =
    let number : k ≡ length ps + length (take i xs) = counted ∙ ap length parts ∙ length-append ps (take i xs) in
    rw (add-one, take_at xs i x at)
    (is ∙ (λ t. was t ++ number t ∷ []) ∙ sym (numbered_push (length ps) (take i xs) x))

pub both_next : {A : Type 0} (ps qs rs xs : List A) (ns ms : List ℕ) (i k : ℕ) (x : A) → slice_get xs i ≡ Some x → qs ≡ ps ++ take i xs → rs ≡ qs ++ x ∷ [] → k ≡ length qs → ns ≡ numbered (length ps) (take i xs) → ms ≡ ns ++ k ∷ []
    → (rs ≡ ps ++ take (i + 1) xs) × (ms ≡ numbered (length ps) (take (i + 1) xs))
both_next ps qs rs xs ns ms i k x at was is counted numbers next = (pushed_next ps qs rs xs i x at was is, numbered_next ps qs xs ns ms i k x at was counted numbers next)

module _ {A B : Type 0} where
  pub get_map : (f : A → B) (xs : List A) (i : ℕ) (x : A) → slice_get xs i ≡ Some x → slice_get (map f xs) i ≡ Some (f x)
  get_map f [] i x at = cc
  get_map f (z ∷ xs) zero x at = ap (λ y. Some (f y)) (some-same z x at)
  get_map f (z ∷ xs) (suc i) x at = get_map f xs i x at

  pub map_cases : (f : A → B) (xs : List A) (i : ℕ) (y : B) → slice_get (map f xs) i ≡ Some y → (x : A) × (slice_get xs i ≡ Some x) × (y ≡ f x)
  map_cases f [] i y at = cc
  map_cases f (z ∷ xs) zero y at = (z, refl, sym (some-same (f z) y at))
  map_cases f (z ∷ xs) (suc i) y at = map_cases f xs i y at

  pub map_push : (f : A → B) (xs : List A) (x : A) → map f (xs ++ x ∷ []) ≡ map f xs ++ f x ∷ []
  map_push f [] x = refl
  map_push f (y ∷ xs) x = ap (λ r. f y ∷ r) (map_push f xs x)

  pub zip_all : (R S : A → B → Type 0) → ((x : A) (y : B) → R x y → S x y) → (xs : List A) (ys : List B) → AllZip R xs ys → AllZip S xs ys
  zip_all R S f [] [] h = tt
  zip_all R S f [] (y ∷ ys) h = absurd h
  zip_all R S f (x ∷ xs) [] h = absurd h
  zip_all R S f (x ∷ xs) (y ∷ ys) h = (f x y h.0, zip_all R S f xs ys h.1)

  -- the same, where something more holds of the first of each two
  pub zip_known : (P : A → Type 0) (R S : A → B → Type 0) → ((x : A) (y : B) → P x → R x y → S x y) → (xs : List A) (ys : List B) → AllByRecursion P xs → AllZip R xs ys → AllZip S xs ys
  zip_known P R S f [] [] p h = tt
  zip_known P R S f [] (y ∷ ys) p h = absurd h
  zip_known P R S f (x ∷ xs) [] p h = absurd h
  zip_known P R S f (x ∷ xs) (y ∷ ys) p h = (f x y p.0 h.0, zip_known P R S f xs ys p.1 h.1)

  pub zip_push : (R : A → B → Type 0) (xs : List A) (ys : List B) (x : A) (y : B) → AllZip R xs ys → R x y → AllZip R (xs ++ x ∷ []) (ys ++ y ∷ [])
  zip_push R [] [] x y h r = (r, tt)
  zip_push R [] (b ∷ ys) x y h r = absurd h
  zip_push R (a ∷ xs) [] x y h r = absurd h
  zip_push R (a ∷ xs) (b ∷ ys) x y h r = (h.0, zip_push R xs ys x y h.1 r)

  -- what stands at the positions that are counted on
  pub numbered_zip : (f : A → B) (ps : List B) (n : ℕ) (is : List A) → ((j : ℕ) (x : A) → slice_get is j ≡ Some x → slice_get ps (n + j) ≡ Some (f x)) → AllZip (λ x q. slice_get ps q ≡ Some (f x)) is (numbered n (map f is))
  numbered_zip f ps n [] h = tt
  numbered_zip f ps n (x ∷ is) h = (
    (let e : n ≡ n + 0 = omega arith in ap (slice_get ps) e ∙ h 0 x refl),
    numbered_zip f ps (suc n) is (λ j y at. let e : suc n + j ≡ n + suc j = omega arith in ap (slice_get ps) e ∙ h (suc j) y at),
  )
