-- What is offered under keys, entry by entry.
use Rattle.std.proofs.Common.{ℕ, List, ◌≡◌, ◌≢◌, ◌+◌, ◌<◌, ◌≤◌, length, refl, ap, sym, ◌∙◌, subst, Option, Some, None, arith, slice_get, below_more}
use Rattle.std.proofs.lemmas.Option.{same_Some}
use Rattle.wac_types_shapes.specs.primitives.Name.{option_case}

-- what stands under a key, of values of which each stands for something
module _ {K V T : Type 0} (find : List (K × V) → K → Option V) (none : T) (first second : V → T) (R : T → T → Type 0) where
  abbrev pub under : (V → T) → List (K × V) → K → T
  under thing es k = option_case (find es k) none thing

  -- what stands under a key of the second list, the first has too
  abbrev pub OffersUnder : List (K × V) → List (K × V) → Type 0
  OffersUnder xs ys = (k : K) → under second ys k ≢ none → R (under first xs k) (under second ys k)

  -- the same of the first entries of the second list
  abbrev pub OffersBelow : ℕ → List (K × V) → List (K × V) → Type 0
  OffersBelow i xs ys = (j : ℕ) → j < i → (e : K × V) → slice_get ys j ≡ Some e → R (under first xs e.0) (second e.1)

  module _ (xs ys : List (K × V)) where
    found_at : (k : K) (x : V) → find xs k ≡ Some x → under first xs k ≡ first x
    found_at k x found = ap (λ o. option_case o none first) found

    pub goes : (i : ℕ) (k : K) (x y : V) → slice_get ys i ≡ Some (k, y) → find xs k ≡ Some x → OffersBelow i xs ys → R (first x) (second y) → OffersBelow (i + 1) xs ys
    goes i k x y at found f s = below_more _ _ f (λ e is.
        let P : T → Type 0 = λ t. R t (second y) in
        let Q : K × V → Type 0 = λ e. R (under first xs e.0) (second e.1) in
        subst Q (same_Some _ _ (sym at ∙ is)) (subst P (sym (found_at k x found)) s))

    pub goes_back : (i : ℕ) (k : K) (x y : V) → slice_get ys i ≡ Some (k, y) → find xs k ≡ Some x → OffersBelow (i + 1) xs ys → OffersBelow i xs ys × R (first x) (second y)
    goes_back i k x y at found f =
        let P : T → Type 0 = λ t. R t (second y) in
        ((λ j lt. f j (omega (arith, lt))), subst P (found_at k x found) (f i (omega arith) (k, y) at))

    pub ends : ((k : K) (y : V) → find ys k ≡ Some y → (j : ℕ) × (j < length ys) × (slice_get ys j ≡ Some (k, y))) → (i : ℕ) → length ys ≤ i → OffersBelow i xs ys → OffersUnder xs ys
    ends position i le f k there = by (find ys k) refl
      where
        by : (o : Option V) → find ys k ≡ o → R (under first xs k) (under second ys k)
        by None h = absurd (there (ap (λ o. option_case o none second) h))
        by (Some y) h =
            let p = position k y h in
            let lt = p.1 in
            let P : Option V → Type 0 = λ o. R (under first xs k) (option_case o none second) in
            subst P (sym h) (f p.0 (omega (arith, lt, le)) (k, y) p.2)

    -- where each entry is the one under its key, and stands for something
    module _ (once : (j : ℕ) (k : K) (y : V) → slice_get ys j ≡ Some (k, y) → find ys k ≡ Some y) (there : (y : V) → second y ≢ none) where
      pub offered_at : OffersUnder xs ys → (i : ℕ) (k : K) (y : V) → slice_get ys i ≡ Some (k, y) → R (under first xs k) (second y)
      offered_at o i k y at =
          let is : under second ys k ≡ second y = ap (λ o. option_case o none second) (once i k y at) in
          let P : T → Type 0 = λ t. R (under first xs k) t in
          subst P is (o k (λ e. there y (sym is ∙ e)))

      pub stops : (i : ℕ) (k : K) (x y : V) → slice_get ys i ≡ Some (k, y) → find xs k ≡ Some x → (R (first x) (second y) → ⊥) → OffersUnder xs ys → ⊥
      stops i k x y at found fails o = let P : T → Type 0 = λ t. R t (second y) in fails (subst P (found_at k x found) (offered_at o i k y at))

      pub lacks : ((t : T) → R none t → none ≡ t) → (i : ℕ) (k : K) (y : V) → slice_get ys i ≡ Some (k, y) → find xs k ≡ None → OffersUnder xs ys → ⊥
      lacks nothing i k y at missing o =
          let P : T → Type 0 = λ t. R t (second y) in
          there y (sym (nothing (second y) (subst P (ap (λ o. option_case o none first) missing) (offered_at o i k y at))))
