-- What is in a list of types, and in one with more.
use Rattle.std.proofs.Common.{ℕ, zero, suc, ◌<◌, Bool, true, false, ◌||◌, if◌then◌else◌, List, [], ◌∷◌, ◌++◌, Option, Some, None, IfSome, IfNone, is_some, length, take, drop, get_or, ◌+◌, ◌≡◌, ◌⊎◌, inl, inr, refl, ap, sym, ◌∙◌, subst, arith, append_assoc}
use Rattle.std.specs.Prelude.{slice_get}
use Rattle.std.specs.Option.{option_map}
use Rattle.std.specs.List.{AllByRecursion, list_any, position}
use Rattle.std.proofs.lemmas.List.Quantifiers.{position-Some}
use Rattle.std.proofs.lemmas.List.{append-nil}
use Rattle.std.proofs.lemmas.Map.Keys.{IsDistinct-head, IsDistinct-tail}
use Rattle.std.proofs.lemmas.Option.{slice_get-get_or}
use Rattle.indexmap.specs.IndexSet.{insert_key}
use Rattle.wac_types_shapes.specs.contracts.shapes.component.TypePartialEq.TheImpl as TypeEq
use Rattle.wac_types_shapes.specs.declared.shapes.component.«Type».{«Type» as AnyType}
use Rattle.wac_types_shapes.specs.declared.shapes.component.ValueType.{ValueType}
use Rattle.wac_types_collection.specs.collection.Collection.{value_types, and_maybe}
use Rattle.wac_types_collection.specs.reach.Reach.{IsIn}
use Rattle.wac_types_collection.specs.private.reach.Found.{with_all, NoneTwice}
use Rattle.wac_types_collection.proofs.lemmas.reach.TypeKeys.{same_type, type_itself}

pub in_left : (t : AnyType) (ts us : List AnyType) → IsIn t ts → IsIn t (ts ++ us)
in_left t [] us h = absurd h
in_left t (x ∷ ts) us (inl e) = inl e
in_left t (x ∷ ts) us (inr h) = inr (in_left t ts us h)

pub in_right : (t : AnyType) (ts us : List AnyType) → IsIn t us → IsIn t (ts ++ us)
in_right t [] us h = h
in_right t (x ∷ ts) us h = inr (in_right t ts us h)

pub in_either : (t : AnyType) (ts us : List AnyType) → IsIn t (ts ++ us) → IsIn t ts ⊎ IsIn t us
in_either t [] us h = inr h
in_either t (x ∷ ts) us (inl e) = inl (inl e)
in_either t (x ∷ ts) us (inr h) = elim (in_either t ts us h) [ inl k ↦ inl (inr k) | inr k ↦ inr k ]

pub take_append : (ts us : List AnyType) → take (length ts) (ts ++ us) ≡ ts
take_append [] us = refl
take_append (x ∷ ts) us = ap (λ xs. x ∷ xs) (take_append ts us)

-- what is in a list stands at a position, and the other way round
pub in_at : (t : AnyType) (ts : List AnyType) (i : ℕ) → slice_get ts i ≡ Some t → IsIn t ts
in_at t [] i e = cc
in_at t (x ∷ ts) zero e = inl (same e) where
  same : Some x ≡ Some t → t ≡ x
  same e = cc
in_at t (x ∷ ts) (suc i) e = inr (in_at t ts i e)

pub at_in : (t : AnyType) (ts : List AnyType) → IsIn t ts → (i : ℕ) × (i < length ts) × (slice_get ts i ≡ Some t)
at_in t [] h = absurd h
at_in t (x ∷ ts) (inl e) = (zero, omega arith, ap Some (sym e))
at_in t (x ∷ ts) (inr h) = let (i, l, e) = at_in t ts h in (suc i, omega (arith, l), e)

-- the test of a list tells what is in it
pub tested : (t : AnyType) (ts : List AnyType) → list_any ((TypeEq.ghosts).eq t) ts ≡ true → IsIn t ts
tested t [] e = cc
tested t (x ∷ ts) e = by ((TypeEq.ghosts).eq t x) refl e (λ h. tested t ts h) where
  by : (b : Bool) → (TypeEq.ghosts).eq t x ≡ b → (b || list_any ((TypeEq.ghosts).eq t) ts) ≡ true → (list_any ((TypeEq.ghosts).eq t) ts ≡ true → IsIn t ts) → IsIn t (x ∷ ts)
  by true is _ _ = inl (same_type t x is)
  by false _ h rest = inr (rest h)

pub test_in : (t : AnyType) (ts : List AnyType) → IsIn t ts → list_any ((TypeEq.ghosts).eq t) ts ≡ true
test_in t [] h = absurd h
test_in t (x ∷ ts) (inl e) = ap (λ b. b || list_any ((TypeEq.ghosts).eq t) ts) (subst (λ z. (TypeEq.ghosts).eq t z ≡ true) e (type_itself t))
test_in t (x ∷ ts) (inr h) = by ((TypeEq.ghosts).eq t x) (test_in t ts h) where
  by : (b : Bool) → list_any ((TypeEq.ghosts).eq t) ts ≡ true → (b || list_any ((TypeEq.ghosts).eq t) ts) ≡ true
  by true _ = refl
  by false k = k

-- a list with one more
one_more : (ts : List AnyType) (u : AnyType) → List AnyType
one_more ts u = insert_key (TypeEq.ghosts).eq ts u

module _ (ts : List AnyType) (u : AnyType) where
  more_old : (t : AnyType) → IsIn t ts → IsIn t (one_more ts u)
  unfolding one_more
  more_old t h = by (list_any ((TypeEq.ghosts).eq u) ts) where
    by : (b : Bool) → IsIn t (if b then ts else ts ++ u ∷ [])
    by true = h
    by false = in_left t ts (u ∷ []) h

  more_new : IsIn u (one_more ts u)
  unfolding one_more
  more_new = by (list_any ((TypeEq.ghosts).eq u) ts) refl where
    by : (b : Bool) → list_any ((TypeEq.ghosts).eq u) ts ≡ b → IsIn u (if b then ts else ts ++ u ∷ [])
    by true is = tested u ts is
    by false _ = in_right u ts (u ∷ []) (inl refl)

  more_only : (t : AnyType) → IsIn t (one_more ts u) → IsIn t ts ⊎ (t ≡ u)
  unfolding one_more
  more_only t = by (list_any ((TypeEq.ghosts).eq u) ts) where
    by : (b : Bool) → IsIn t (if b then ts else ts ++ u ∷ []) → IsIn t ts ⊎ (t ≡ u)
    by true h = inl h
    by false h = elim (in_either t ts (u ∷ []) h) [ inl k ↦ inl k | inr (inl e) ↦ inr e | inr (inr n) ↦ absurd n ]

  more_grown : (added : List AnyType) × (one_more ts u ≡ ts ++ added)
  unfolding one_more
  more_grown = by (list_any ((TypeEq.ghosts).eq u) ts) where
    by : (b : Bool) → (added : List AnyType) × ((if b then ts else ts ++ u ∷ []) ≡ ts ++ added)
    by true = ([], sym (append-nil ts))
    by false = (u ∷ [], refl)

pub all_old : (ts us : List AnyType) (t : AnyType) → IsIn t ts → IsIn t (with_all ts us)
unfolding one_more
all_old ts [] t h = h
all_old ts (u ∷ us) t h = all_old (one_more ts u) us t (more_old ts u t h)

pub all_new : (ts us : List AnyType) (t : AnyType) → IsIn t us → IsIn t (with_all ts us)
unfolding one_more
all_new ts [] t h = absurd h
all_new ts (u ∷ us) t (inl e) = all_old (one_more ts u) us t (subst (λ z. IsIn z (one_more ts u)) (sym e) (more_new ts u))
all_new ts (u ∷ us) t (inr h) = all_new (one_more ts u) us t h

pub all_only : (ts us : List AnyType) (t : AnyType) → IsIn t (with_all ts us) → IsIn t ts ⊎ IsIn t us
unfolding one_more
all_only ts [] t h = inl h
all_only ts (u ∷ us) t h = elim (all_only (one_more ts u) us t h) [ inr k ↦ inr (inr k) | inl k ↦ elim (more_only ts u t k) [ inl j ↦ inl j | inr e ↦ inr (inl e) ] ]

pub all_grown : (ts us : List AnyType) → (added : List AnyType) × (with_all ts us ≡ ts ++ added)
unfolding one_more
all_grown ts [] = ([], sym (append-nil ts))
all_grown ts (u ∷ us) =
    let (one, is) = more_grown ts u in
    let (rest, grown) = all_grown (one_more ts u) us in
    (one ++ rest, grown ∙ ap (λ x. x ++ rest) is ∙ append_assoc ts one rest)

-- the rest of a list of pairs from a position on begins with the value there
pub drop_second : {A B : Type 0} (xs : List (A × B)) (i : ℕ) (v : B) → option_map (λ e. e.1) (slice_get xs i) ≡ Some v → (a : A) × (drop i xs ≡ (a, v) ∷ drop (i + 1) xs)
drop_second [] i v h = cc
drop_second (e ∷ xs) zero v h = (e.0, ap (λ z. (e.0, z) ∷ xs) (inner h)) where
  inner : Some e.1 ≡ Some v → e.1 ≡ v
  inner h = cc
drop_second (e ∷ xs) (suc i) v h =
    let (a, is) = drop_second xs i v h in
    let same : suc (i + 1) ≡ suc i + 1 = omega arith in
    (a, is ∙ ap (λ n. (a, v) ∷ drop n (e ∷ xs)) same)

-- what is put for a value type that may be missing, and then for others
pub maybe_first : (ts : List AnyType) (o : Option ValueType) (vs : List ValueType) → with_all (with_all ts (value_types (and_maybe o []))) (value_types vs) ≡ with_all ts (value_types (and_maybe o vs))
maybe_first ts None vs = refl
maybe_first ts (Some v) vs = refl

-- what is read of a list at a position that it has
pub read_at : (ts keys found : List AnyType) (i n : ℕ) (d : AnyType) → i < n → n ≡ length keys → ts ≡ keys → keys ≡ found → slice_get found i ≡ Some (get_or ts i d)
read_at ts keys found i n d low count same seen =
    let long : n ≡ length ts = count ∙ ap length (sym same) in
    subst (λ xs. slice_get xs i ≡ Some (get_or ts i d)) (same ∙ seen) (slice_get-get_or ts i d (omega (arith, low, long)))

-- a type from which all of the list differ is not in it
not_behind : (t : AnyType) (ts : List AnyType) → AllByRecursion (λ z. (TypeEq.ghosts).eq t z ≡ false) ts → IsIn t ts → ⊥
not_behind t [] all h = h
not_behind t (x ∷ ts) all (inl e) = let is : true ≡ false = sym (subst (λ z. (TypeEq.ghosts).eq t z ≡ true) e (type_itself t)) ∙ all.0 in cc
not_behind t (x ∷ ts) all (inr h) = not_behind t ts all.1 h

-- a type that is found at a position stands there
pub found_at : (t : AnyType) (ts : List AnyType) (k : ℕ) → position ((TypeEq.ghosts).eq t) ts ≡ Some k → slice_get ts k ≡ Some t
found_at t ts k is =
    let found = position-Some ((TypeEq.ghosts).eq t) ts k t is in
    slice_get-get_or ts k t found.0 ∙ ap Some (sym (same_type t (get_or ts k t) found.1))

-- no type stands at two positions
pub stands_once : (t : AnyType) (ts : List AnyType) → NoneTwice ts → (i j : ℕ) → slice_get ts i ≡ Some t → slice_get ts j ≡ Some t → i ≡ j
stands_once t [] once i j at also = let none_some : None ≡ Some t = at in cc
stands_once t (x ∷ ts) once i j at also = by i j at also (stands_once t ts (IsDistinct-tail (TypeEq.ghosts).eq x ts once))
  where
    apart : x ≡ t → (k : ℕ) → slice_get ts k ≡ Some t → ⊥
    apart same k is = not_behind t ts (subst (λ y. AllByRecursion (λ z. (TypeEq.ghosts).eq y z ≡ false) ts) same (IsDistinct-head (TypeEq.ghosts).eq x ts once)) (in_at t ts k is)

    by : (i j : ℕ) → slice_get (x ∷ ts) i ≡ Some t → slice_get (x ∷ ts) j ≡ Some t → ((k l : ℕ) → slice_get ts k ≡ Some t → slice_get ts l ≡ Some t → k ≡ l) → i ≡ j
    by zero zero at also further = refl
    by zero (suc j) at also further = let both : Some x ≡ Some t = at in let same : x ≡ t = cc in absurd (apart same j also)
    by (suc i) zero at also further = let both : Some x ≡ Some t = also in let same : x ≡ t = cc in absurd (apart same i at)
    by (suc i) (suc j) at also further = ap suc (further i j at also)

-- what a look-up answers
module _ (t : AnyType) (keys ts : List AnyType) (same : keys ≡ ts) where
  at_result : (o : Option ℕ) → o ≡ position ((TypeEq.ghosts).eq t) keys → IfSome o (λ k. slice_get keys k ≡ Some t)
  at_result (Some k) is = found_at t keys k (sym is)
  at_result None is = tt

  pub look_up_there : (o : Option ℕ) → o ≡ position ((TypeEq.ghosts).eq t) keys → IfSome o (λ k. slice_get ts k ≡ Some t)
  look_up_there o is = subst (λ xs. IfSome o (λ k. slice_get xs k ≡ Some t)) same (at_result o is)

  pub look_up_alone : (o : Option ℕ) → o ≡ position ((TypeEq.ghosts).eq t) keys → NoneTwice keys → IfSome o (λ k. (j : ℕ) → slice_get ts j ≡ Some t → j ≡ k)
  look_up_alone (Some k) is once = λ j at. stands_once t keys once j k (subst (λ xs. slice_get xs j ≡ Some t) (sym same) at) (found_at t keys k (sym is))
  look_up_alone None is once = tt

  pub look_up_none : (o : Option ℕ) → is_some o ≡ list_any ((TypeEq.ghosts).eq t) keys → IfNone o (IsIn t ts → ⊥)
  look_up_none (Some k) found = tt
  look_up_none None found = λ h. let is : false ≡ true = found ∙ test_in t keys (subst (λ xs. IsIn t xs) (sym same) h) in cc
