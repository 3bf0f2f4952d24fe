-- What stands at a position and under a name.
use Rattle.std.proofs.Common.{◌≡◌, ℕ, zero, suc, ◌+◌, ◌<◌, Bool, true, cond, List, [], ◌∷◌, ◌⊎◌, inl, inr, filter, length, map, Option, Some, None, refl, ap, sym, ◌∙◌, subst, arith, if◌then◌else◌}
use Rattle.std.specs.Prelude.{slice_get}
use Rattle.std.proofs.lemmas.Bool.{cases_Bool}
use Rattle.wac_types_shapes.specs.primitives.Name.{Name, same_name, find_name}
use Rattle.wac_types_shapes.proofs.lemmas.shapes.Names.{same_name-true}

pub some_same : {A : Type 0} (a b : A) → Some a ≡ Some b → a ≡ b
some_same a b e = cc

pub one_some : {A : Type 0} (o : Option A) (a b : A) → o ≡ Some a → o ≡ Some b → a ≡ b
one_some o a b e f = some_same a b (sym e ∙ f)

pub no_some : {A : Type 0} (a : A) → None ≡ Some a → ⊥
no_some a e = cc

-- what is found stands in the list
pub find_at : {V : Type 0} (es : List (Name × V)) (n : Name) (x : V) → find_name es n ≡ Some x → (k : ℕ) × (slice_get es k ≡ Some (n, x))
find_at [] n x e = absurd (no_some x e)
find_at (y ∷ es) n x e = elim (cases_Bool (same_name n y.0)) [
  | inl t ↦
      let value : y.1 ≡ x = some_same y.1 x (sym (ap (λ b. if b then Some y.1 else find_name es n) t) ∙ e) in
      let name : n ≡ y.0 = same_name-true n y.0 t in
      (0, λ i. Some (sym name i, value i))
  | inr f ↦ let (k, at) = find_at es n x (sym (ap (λ b. if b then Some y.1 else find_name es n) f) ∙ e) in (suc k, at)
]

pub get_map : {A B : Type 0} (f : A → B) (xs : List A) (i : ℕ) (x : A) → slice_get xs i ≡ Some x → slice_get (map f xs) i ≡ Some (f x)
get_map f [] i x at = absurd (no_some x at)
get_map f (y ∷ xs) zero x at = ap (λ z. Some (f z)) (some_same y x at)
get_map f (y ∷ xs) (suc i) x at = get_map f xs i x at

pub mapped_length : {A B : Type 0} (f : A → B) (xs : List A) → length (map f xs) ≡ length xs
mapped_length f [] = refl
mapped_length f (x ∷ xs) = ap suc (mapped_length f xs)

pub less_cases : (l k : ℕ) → l < k + 1 → (l < k) ⊎ (l ≡ k)
less_cases zero zero h = inr refl
less_cases zero (suc k) h = inl (omega arith)
less_cases (suc l) zero h = absurd (omega (arith, h))
less_cases (suc l) (suc k) h = elim (less_cases l k (omega (arith, h))) [
  | inl less ↦ inl (omega (arith, less))
  | inr same ↦ inr (ap suc same)
]

module _ {X : Type 0} (f : X → Bool) where
  pub at-filter : (xs : List X) (k : ℕ) (x : X) → slice_get (filter f xs) k ≡ Some x → (j : ℕ) × (slice_get xs j ≡ Some x) × (f x ≡ true)
  at-filter [] k x at = cc
  at-filter (y ∷ xs) k x at = elim (cases_Bool (f y)) [
    | inl h ↦ first k h (λ l there. at-filter xs l x there) (subst (λ (b : Bool). slice_get (cond b (y ∷ filter f xs) (filter f xs)) k ≡ Some x) h at)
    | inr h ↦ let w = at-filter xs k x (subst (λ (b : Bool). slice_get (cond b (y ∷ filter f xs) (filter f xs)) k ≡ Some x) h at) in (suc w.0, w.1, w.2)
  ]
    where
      first : (k : ℕ) → f y ≡ true → ((l : ℕ) → slice_get (filter f xs) l ≡ Some x → (j : ℕ) × (slice_get xs j ≡ Some x) × (f x ≡ true)) → slice_get (y ∷ filter f xs) k ≡ Some x → (j : ℕ) × (slice_get (y ∷ xs) j ≡ Some x) × (f x ≡ true)
      first zero h more at = let same : y ≡ x = cc in (0, at, sym (ap f same) ∙ h)
      first (suc k) h more at = let w = more k at in (suc w.0, w.1, w.2)
