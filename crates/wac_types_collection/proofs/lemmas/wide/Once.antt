-- Lists of interfaces without repetition.
use Rattle.std.proofs.Common.{ℕ, zero, suc, ◌+◌, ◌<◌, ◌≤◌, ◌==◌, eq-eqb, Bool, true, false, ◌||◌, if◌then◌else◌, List, [], ◌∷◌, ◌++◌, length, Contains, ◌≡◌, ◌⊎◌, inl, inr, refl, ap, sym, ◌∙◌, subst, arith}
use Rattle.std.specs.List.{IsDistinct}
use Rattle.std.specs.Cmp.{IsEquivalence}
use Rattle.std.proofs.lemmas.Bool.{eqb-true}
use Rattle.std.proofs.lemmas.Map.Made.{length-le_from_is_member}
use Rattle.indexmap.specs.IndexSet.{insert_key}
use Rattle.wac_types_shapes.specs.contracts.shapes.component.InterfaceIdPartialEq.TheImpl as IdEq
use Rattle.wac_types_shapes.specs.declared.shapes.component.InterfaceId.{InterfaceId}
use Rattle.wac_types_collection.specs.wide.Wide.{is_among, with_each}
use Rattle.wac_types_collection.proofs.lemmas.wide.Members.{in_none, in_first, in_rest, in_parts, in_one, in_left, in_right, in_either}

pub same_id : (i j : InterfaceId) → (IdEq.ghosts).eq i j ≡ true → i ≡ j
same_id i j e = ap (λ n. record { 0 = n }) (eqb-true i.0 j.0 e)

pub id_itself : (i : InterfaceId) → (IdEq.ghosts).eq i i ≡ true
id_itself i = eq-eqb i.0 i.0 refl

pub id_laws : IsEquivalence (IdEq.ghosts).eq
id_laws = record {
  refl = id_itself;
  symm = λ x y. by (E x y) (E y x) (λ h. subst (λ z. E z x ≡ true) (same_id x y h) (id_itself x)) (λ h. subst (λ z. E z y ≡ true) (same_id y x h) (id_itself y));
  congr = λ x y z h. ap (λ w. E w z) (same_id x y h);
}
  where
    E : InterfaceId → InterfaceId → Bool
    E = (IdEq.ghosts).eq

    by : (p q : Bool) → (p ≡ true → q ≡ true) → (q ≡ true → p ≡ true) → p ≡ q
    by true q f g = sym (f refl)
    by false true f g = g refl
    by false false f g = refl

-- ---- the test
pub among_in : (is : List InterfaceId) (i : InterfaceId) → is_among is i ≡ true → Contains is i
among_in [] i e = cc
among_in (j ∷ is) i e = by (i.0 == j.0) refl e (λ h. among_in is i h)
  where
    by : (b : Bool) → (i.0 == j.0) ≡ b → (b || is_among is i) ≡ true → (is_among is i ≡ true → Contains is i) → Contains (j ∷ is) i
    by true same _ _ = subst (λ z. Contains (z ∷ is) i) (same_id i j same) (in_first i is)
    by false _ h rest = in_rest j i is (rest h)

pub in_among : (is : List InterfaceId) (i : InterfaceId) → Contains is i → is_among is i ≡ true
in_among [] i h = absurd (in_none i h)
in_among (j ∷ is) i h = elim (in_parts j i is h) [
  | inl e ↦ ap (λ b. b || is_among is i) (subst (λ (z : InterfaceId). (i.0 == z.0) ≡ true) e (id_itself i))
  | inr w ↦ by (i.0 == j.0) (in_among is i w)
]
  where
    by : (b : Bool) → is_among is i ≡ true → (b || is_among is i) ≡ true
    by true _ = refl
    by false k = k

-- ---- one more
one_more : List InterfaceId → InterfaceId → List InterfaceId
one_more is i = if is_among is i then is else is ++ i ∷ []

more_old : (is : List InterfaceId) (i k : InterfaceId) → Contains is k → Contains (one_more is i) k
unfolding one_more
more_old is i k h = by (is_among is i)
  where
    by : (b : Bool) → Contains (if b then is else is ++ i ∷ []) k
    by true = h
    by false = in_left is (i ∷ []) k h

more_new : (is : List InterfaceId) (i : InterfaceId) → Contains (one_more is i) i
unfolding one_more
more_new is i = by (is_among is i) refl
  where
    by : (b : Bool) → is_among is i ≡ b → Contains (if b then is else is ++ i ∷ []) i
    by true e = among_in is i e
    by false _ = in_right is (i ∷ []) i (in_first i [])

more_only : (is : List InterfaceId) (i k : InterfaceId) → Contains (one_more is i) k → Contains is k ⊎ (k ≡ i)
unfolding one_more
more_only is i k = by (is_among is i)
  where
    by : (b : Bool) → Contains (if b then is else is ++ i ∷ []) k → Contains is k ⊎ (k ≡ i)
    by true h = inl h
    by false h = elim (in_either is (i ∷ []) k h) [ inl w ↦ inl w | inr w ↦ inr (in_one i k w) ]

more_known : (is : List InterfaceId) (i : InterfaceId) → Contains is i → one_more is i ≡ is
unfolding one_more
more_known is i h = ap (λ b. if b then is else is ++ i ∷ []) (in_among is i h)

-- ---- several more
pub each_old : (found is : List InterfaceId) (k : InterfaceId) → Contains found k → Contains (with_each found is) k
unfolding one_more
each_old found [] k h = h
each_old found (i ∷ is) k h = each_old (one_more found i) is k (more_old found i k h)

pub each_new : (found is : List InterfaceId) (k : InterfaceId) → Contains is k → Contains (with_each found is) k
unfolding one_more
each_new found [] k h = absurd (in_none k h)
each_new found (i ∷ is) k h = elim (in_parts i k is h) [
  | inl e ↦ each_old (one_more found i) is k (subst (λ z. Contains (one_more found i) z) (sym e) (more_new found i))
  | inr w ↦ each_new (one_more found i) is k w
]

pub each_only : (found is : List InterfaceId) (k : InterfaceId) → Contains (with_each found is) k → Contains found k ⊎ Contains is k
unfolding one_more
each_only found [] k h = inl h
each_only found (i ∷ is) k h = elim (each_only (one_more found i) is k h) [
  | inl w ↦ elim (more_only found i k w) [ inl o ↦ inl o | inr e ↦ inr (subst (λ z. Contains (z ∷ is) k) e (in_first k is)) ]
  | inr w ↦ inr (in_rest i k is w)
]

pub each_joined : (found is js : List InterfaceId) → with_each found (is ++ js) ≡ with_each (with_each found is) js
unfolding one_more
each_joined found [] js = refl
each_joined found (i ∷ is) js = each_joined (one_more found i) is js

pub each_known : (found is : List InterfaceId) → ((k : InterfaceId) → Contains is k → Contains found k) → with_each found is ≡ found
unfolding one_more
each_known found [] known = refl
each_known found (i ∷ is) known =
    ap (λ l. with_each l is) (more_known found i (known i (in_first i is))) ∙ each_known found is (λ k h. known k (in_rest i k is h))

-- what a set has after an insert
pub inserted : (found keys : List InterfaceId) (i : InterfaceId) → keys ≡ insert_key (IdEq.ghosts).eq found i → keys ≡ with_each found (i ∷ [])
inserted found keys i e = e

-- ---- no more are found than there are
ids : ℕ → List InterfaceId
ids zero = []
ids (suc n) = record { 0 = n } ∷ ids n

ids_long : (n : ℕ) → length (ids n) ≡ n
unfolding ids
ids_long zero = refl
ids_long (suc n) = ap suc (ids_long n)

last_or_less : (i n : ℕ) → i < suc n → (i ≡ n) ⊎ (i < n)
last_or_less zero zero l = inl refl
last_or_less zero (suc n) l = inr (omega arith)
last_or_less (suc i) zero l = absurd (omega (arith, l))
last_or_less (suc i) (suc n) l = elim (last_or_less i n (omega (arith, l))) [ inl e ↦ inl (ap suc e) | inr k ↦ inr (omega (arith, k)) ]

in_ids : (n : ℕ) (i : InterfaceId) → i.0 < n → Contains (ids n) i
unfolding ids
in_ids zero i l = absurd (omega (arith, l))
in_ids (suc n) i l = elim (last_or_less i.0 n l) [
  | inl e ↦ subst (λ (k : ℕ). Contains (record { 0 = k } ∷ ids n) i) e (in_first i (ids n))
  | inr k ↦ in_rest (record { 0 = n }) i (ids n) (in_ids n i k)
]

pub few : (n : ℕ) (is : List InterfaceId) → IsDistinct (IdEq.ghosts).eq is → ((i : InterfaceId) → Contains is i → i.0 < n) → length is ≤ n
few n is once below =
    let l = length-le_from_is_member id_laws is (ids n) once (λ i m. in_among (ids n) i (in_ids n i (below i (among_in is i m)))) in
    let e = ids_long n in
    omega (arith, l, e)
