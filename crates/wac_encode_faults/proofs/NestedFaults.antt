-- The faults of what is written inside types.
use Rattle.std.proofs.Common.{ℕ, ◌+◌, ◌≤◌, true, List, [], ◌∷◌, ◌++◌, length, take, Option, Some, None, ◌≡◌, ◌⊎◌, inl, inr, refl, sym, ◌∙◌, subst, slice_get}
use Rattle.std.proofs.lemmas.List.{take_all}
use Rattle.wac_types_shapes.specs.declared.shapes.component.WorldId.{WorldId}
use Rattle.wac_types_shapes.specs.declared.shapes.component.«Type».{«Type» as AnyType}
use Rattle.wac_types_shapes.specs.declared.shapes.component.«Type».TheVariants as ty
use Rattle.wac_types_collection.specs.collection.Collection.{Collection, holds_type}
use Rattle.wac_types_collection.specs.reach.Reach.{IsIn}
use Rattle.wac_types_collection.specs.private.reach.Found.{with_all}
use Rattle.wac_types_collection.proofs.lemmas.reach.Lists.{in_left, in_right, in_either, all_new, all_only}
use Rattle.wac_encode_faults.specs.declared.fault.WriteFault.{WriteFault}
use Rattle.wac_encode_faults.specs.Faults.{listed_items, IsLowest, IsListed, IsFaultOfListed, IsWorldFault, IsTypeFault, of_listed, of_world, IsInside, itself, in_item, IsFaultInside}
use Rattle.wac_encode_faults.specs.private.Roots.{IsInsideOne, IsFaultInsideOne, IsFaultOfOne}
use Rattle.wac_encode_faults.specs.private.Search.{lower_of, is_scope, scope_of}
use Rattle.wac_encode_faults.proofs.Listing.{listed_none, scope_itself, scope_or_nothing}
use Rattle.wac_encode_faults.proofs.Lowest.{lowest_same, lowest_of_both}
use Rattle.wac_encode_faults.proofs.Taken.{taken_more}

-- ---- one type
type_fault_parts : (c : Collection) (t : AnyType) (f : WriteFault) → IsTypeFault c t f → IsFaultOfListed (listed_items c t) f ⊎ ((w : WorldId) × (t ≡ ty.World w) × IsWorldFault c w f)
type_fault_parts c _ _ (of_listed t f l) = inl l
type_fault_parts c _ _ (of_world w f h) = inr (w, refl, h)

pub lowest_of_world : (c : Collection) (t : AnyType) (w : WorldId) (a b : Option WriteFault) → t ≡ ty.World w → IsLowest (IsFaultOfListed (listed_items c t)) a → IsLowest (IsWorldFault c w) b → IsLowest (IsTypeFault c t) (lower_of a b)
lowest_of_world c t w a b is listed world =
    lowest_same (λ f. IsFaultOfListed (listed_items c t) f ⊎ IsWorldFault c w f) (IsTypeFault c t) (lower_of a b) (λ f. (to f, λ h. from f (type_fault_parts c t f h)))
    (lowest_of_both (IsFaultOfListed (listed_items c t)) (IsWorldFault c w) a b listed world)
  where
    one : (v u : WorldId) → ty.World v ≡ ty.World u → v ≡ u
    one v u e = cc

    to : (f : WriteFault) → IsFaultOfListed (listed_items c t) f ⊎ IsWorldFault c w f → IsTypeFault c t f
    to f (inl l) = of_listed t f l
    to f (inr h) = subst (λ z. IsTypeFault c z f) (sym is) (of_world w f h)

    from : (f : WriteFault) → IsFaultOfListed (listed_items c t) f ⊎ ((v : WorldId) × (t ≡ ty.World v) × IsWorldFault c v f) → IsFaultOfListed (listed_items c t) f ⊎ IsWorldFault c w f
    from f (inl l) = inl l
    from f (inr (v, same, h)) = inr (subst (λ z. IsWorldFault c z f) (one v w (sym same ∙ is)) h)

pub lowest_of_other : (c : Collection) (t : AnyType) (a : Option WriteFault) → ((w : WorldId) → t ≡ ty.World w → ⊥) → IsLowest (IsFaultOfListed (listed_items c t)) a → IsLowest (IsTypeFault c t) a
lowest_of_other c t a other listed = lowest_same (IsFaultOfListed (listed_items c t)) (IsTypeFault c t) a (λ f. (λ l. of_listed t f l, λ h. from f (type_fault_parts c t f h))) listed
  where
    from : (f : WriteFault) → IsFaultOfListed (listed_items c t) f ⊎ ((v : WorldId) × (t ≡ ty.World v) × IsWorldFault c v f) → IsFaultOfListed (listed_items c t) f
    from f (inl l) = l
    from f (inr (v, same, h)) = absurd (other v same)

-- only interfaces and worlds have faults
type_fault_scope : (c : Collection) (t : AnyType) (f : WriteFault) → IsTypeFault c t f → is_scope t ≡ true
type_fault_scope c _ _ (of_listed t f l) = elim (scope_or_nothing c t) [
  | inl is ↦ (scope_itself t).1 is
  | inr none ↦ let h = subst (λ es. IsFaultOfListed es f) none.0 l in absurd (listed_none h.0 h.1)
]
type_fault_scope c _ _ (of_world w f h) = refl

-- and only inside them there are any
pub fault_scope : (c : Collection) (t : AnyType) (f : WriteFault) → IsFaultInside c t f → is_scope t ≡ true
fault_scope c t f (s, inside, g) = by s t inside g (scope_or_nothing c t)
  where
    by : (s t : AnyType) → IsInside c s t → IsTypeFault c s f → IsIn t (scope_of t) ⊎ ((listed_items c t ≡ []) × (scope_of t ≡ [])) → is_scope t ≡ true
    by s t h g (inl is) = (scope_itself t).1 is
    by _ _ (itself s t e) g (inr none) = subst (λ z. is_scope z ≡ true) e (type_fault_scope c s f g)
    by _ _ (in_item s t k l h) g (inr none) = absurd (listed_none k (subst (IsListed k) none.0 l))

-- ---- several types, one after the other
module _ (c : Collection) (ts : List AnyType) where
  pub lowest_first : IsLowest (IsFaultOfOne c (take 0 ts)) None
  lowest_first = λ f h. none ts h.0 h.1
    where
      none : (us : List AnyType) (t : AnyType) → IsIn t (take 0 us) → ⊥
      none [] t h = absurd h
      none (u ∷ us) t h = absurd h

  pub lowest_next : (n : ℕ) (t : AnyType) (a b o : Option WriteFault) → slice_get ts n ≡ Some t → IsLowest (IsFaultOfOne c (take n ts)) a → IsLowest (IsTypeFault c t) b → o ≡ lower_of a b → IsLowest (IsFaultOfOne c (take (n + 1) ts)) o
  lowest_next n t a b o at before here is =
      subst (IsLowest (IsFaultOfOne c (take (n + 1) ts))) (sym is)
      (lowest_same (λ f. IsFaultOfOne c (take n ts) f ⊎ IsTypeFault c t f) (IsFaultOfOne c (take (n + 1) ts)) (lower_of a b) (λ f. (to f, from f)) (lowest_of_both (IsFaultOfOne c (take n ts)) (IsTypeFault c t) a b before here))
    where
      whole : take (n + 1) ts ≡ take n ts ++ t ∷ []
      whole = taken_more ts n t at

      to : (f : WriteFault) → IsFaultOfOne c (take n ts) f ⊎ IsTypeFault c t f → IsFaultOfOne c (take (n + 1) ts) f
      to f (inl (u, h, g)) = (u, subst (IsIn u) (sym whole) (in_left u (take n ts) (t ∷ []) h), g)
      to f (inr g) = (t, subst (IsIn t) (sym whole) (in_right t (take n ts) (t ∷ []) (inl refl)), g)

      from : (f : WriteFault) → IsFaultOfOne c (take (n + 1) ts) f → IsFaultOfOne c (take n ts) f ⊎ IsTypeFault c t f
      from f (u, h, g) = elim (in_either u (take n ts) (t ∷ []) (subst (IsIn u) whole h)) [
        | inl w ↦ inl (u, w, g)
        | inr w ↦ elim w [ inl e ↦ inr (subst (λ z. IsTypeFault c z f) e g) | inr n ↦ absurd n ]
      ]

  pub lowest_all : (n : ℕ) (o : Option WriteFault) → length ts ≤ n → IsLowest (IsFaultOfOne c (take n ts)) o → IsLowest (IsFaultOfOne c ts) o
  lowest_all n o past low = subst (λ us. IsLowest (IsFaultOfOne c us) o) (take_all n ts past) low

-- ---- all that is inside
pub lowest_inside : (c : Collection) (roots ts : List AnyType) (o : Option WriteFault) → ((t : AnyType) → IsIn t ts → IsInsideOne c roots t) → ((t : AnyType) → IsInsideOne c roots t → is_scope t ≡ true → IsIn t ts) → IsLowest (IsFaultOfOne c ts) o
    → IsLowest (IsFaultInsideOne c roots) o
lowest_inside c roots ts o inside scopes low = lowest_same (IsFaultOfOne c ts) (IsFaultInsideOne c roots) o (λ f. (to f, from f)) low
  where
    to : (f : WriteFault) → IsFaultOfOne c ts f → IsFaultInsideOne c roots f
    to f (t, h, g) = let (root, here, within) = inside t h in (root, here, (t, within, g))

    from : (f : WriteFault) → IsFaultInsideOne c roots f → IsFaultOfOne c ts f
    from f (root, here, (t, within, g)) = (t, scopes t (root, here, within) (type_fault_scope c t f g), g)

-- ---- inside one type
module _ (c : Collection) (t : AnyType) (start roots : List AnyType) (none : start ≡ []) (adds : roots ≡ with_all start (t ∷ [])) where
  only : (s : AnyType) → IsIn s roots → s ≡ t
  only s h = elim (all_only start (t ∷ []) s (subst (IsIn s) adds h)) [ inl w ↦ absurd (subst (IsIn s) none w) | inr w ↦ elim w [ inl e ↦ e | inr n ↦ absurd n ] ]

  pub root_held : holds_type c t ≡ true → (s : AnyType) → IsIn s roots → holds_type c s ≡ true
  root_held held s h = subst (λ z. holds_type c z ≡ true) (sym (only s h)) held

  pub root_inside : (o : Option WriteFault) → IsLowest (IsFaultInsideOne c roots) o → IsLowest (IsFaultInside c t) o
  root_inside o low = lowest_same (IsFaultInsideOne c roots) (IsFaultInside c t) o (λ f. (to f, λ g. (t, subst (IsIn t) (sym adds) (all_new start (t ∷ []) t (inl refl)), g))) low
    where
      to : (f : WriteFault) → IsFaultInsideOne c roots f → IsFaultInside c t f
      to f (s, h, g) = subst (λ z. IsFaultInside c z f) (only s h) g
