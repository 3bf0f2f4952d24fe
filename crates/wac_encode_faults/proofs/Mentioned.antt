-- What was found is what types are made of.
use Rattle.std.proofs.Common.{ℕ, zero, suc, ◌+◌, ◌<◌, ◌≤◌, true, List, [], ◌∷◌, ◌++◌, length, Some, ◌≡◌, ◌⊎◌, ◌↔◌, inl, inr, ap, sym, ◌∙◌, subst, append_assoc, arith, slice_get}
use Rattle.std.proofs.lemmas.List.{append-nil}
use Rattle.wac_types_shapes.specs.declared.shapes.component.«Type».{«Type» as AnyType}
use Rattle.wac_types_shapes.specs.declared.shapes.component.«Type».TheVariants as ty
use Rattle.wac_types_collection.specs.collection.Collection.{Collection, IsWellFormed, holds_type}
use Rattle.wac_types_collection.specs.reach.Reach.{IsIn, mentions}
use Rattle.wac_types_collection.specs.private.reach.Found.{with_all}
use Rattle.wac_types_collection.proofs.lemmas.reach.Lists.{in_at, at_in, all_old, all_new, all_only, all_grown}
use Rattle.wac_types_collection.proofs.lemmas.reach.Reaching.{mentioned_held}
use Rattle.wac_encode_faults.specs.Free.{parts}
use Rattle.wac_encode_faults.specs.private.Near.{IsPart, first, onward}
use Rattle.wac_encode_faults.proofs.Reached.{earlier, before, split}

-- what a type is made of is mentioned
pub part_mentioned : (c : Collection) (u t : AnyType) → IsIn t (parts c u) → IsIn t (mentions c u)
part_mentioned c (ty.Func f) t h = h
part_mentioned c (ty.Value v) t h = h
part_mentioned c (ty.Interface i) t h = absurd h
part_mentioned c (ty.World w) t h = absurd h
part_mentioned c (ty.Resource r) t h = absurd h
part_mentioned c (ty.Module m) t h = absurd h

-- The types that were found, of which those before the next have been looked at.
pub record AreParts (c : Collection) (old found : List AnyType) (next : ℕ) : Type 0 where
  pub sound : (t : AnyType) → IsIn t found → IsPart c old t
  pub held : (t : AnyType) → IsIn t found → holds_type c t ≡ true
  pub seeds : (t : AnyType) → IsIn t old → IsIn t found
  pub closed : (p : ℕ) (u t : AnyType) → p < next → slice_get found p ≡ Some u → IsIn t (parts c u) → IsIn t found

pub parts_first : (c : Collection) (old : List AnyType) (from : ℕ) → ((t : AnyType) → IsIn t old → holds_type c t ≡ true) → ((p : ℕ) (u t : AnyType) → p < from → slice_get old p ≡ Some u → IsIn t (parts c u) → IsIn t old)
    → AreParts c old old from
parts_first c old from held before = record { sound = λ t h. first t h; held = held; seeds = λ t h. h; closed = before }

-- before the first position there is nothing
pub nothing_before : (c : Collection) (old : List AnyType) (p : ℕ) (u t : AnyType) → p < 0 → slice_get old p ≡ Some u → IsIn t (parts c u) → IsIn t old
nothing_before c old p u t l at h = absurd (omega (arith, l))

-- types with more of them appended
pub grown_not : (ts : List AnyType) → (more : List AnyType) × (ts ≡ ts ++ more)
grown_not ts = ([], sym (append-nil ts))

pub grown_with : (old ts now us : List AnyType) → (more : List AnyType) × (ts ≡ old ++ more) → now ≡ with_all ts us → (more : List AnyType) × (now ≡ old ++ more)
grown_with old ts now us (more, is) step =
    let (added, e) = all_grown ts us in
    (more ++ added, step ∙ (e ∙ (ap (λ l. l ++ added) is ∙ append_assoc old more added)))

module _ (c : Collection) (wf : IsWellFormed c) (old found : List AnyType) (next : ℕ) (u : AnyType) (at : slice_get found next ≡ Some u) (a : AreParts c old found next) where
  pub parts_grown : (now : List AnyType) → (more : List AnyType) × (found ≡ old ++ more) → now ≡ with_all found (parts c u) → (more : List AnyType) × (now ≡ old ++ more)
  parts_grown now grown is = grown_with old found now (parts c u) grown is

  pub parts_next : (now : List AnyType) → now ≡ with_all found (parts c u) → AreParts c old now (next + 1)
  parts_next now is = subst (λ l. AreParts c old l (next + 1)) (sym is) (record {
    sound = λ t h. elim (all_only found (parts c u) t h) [ inl w ↦ a.sound t w | inr w ↦ onward u t (a.sound u (in_at u found next at)) w ];
    held = λ t h. elim (all_only found (parts c u) t h) [ inl w ↦ a.held t w | inr w ↦ mentioned_held c wf u t (a.held u (in_at u found next at)) (part_mentioned c u t w) ];
    seeds = λ t h. all_old found (parts c u) t (a.seeds t h);
    closed = λ p v t l here w. shut p v t (split p next l) here w;
  })
    where
      shut : (p : ℕ) (v t : AnyType) → (p < next) ⊎ (p ≡ next) → slice_get (with_all found (parts c u)) p ≡ Some v → IsIn t (parts c v) → IsIn t (with_all found (parts c u))
      shut p v t (inl l) here w =
          let (added, more) = all_grown found (parts c u) in
          all_old found (parts c u) t (a.closed p v t l (before found added p next u v l at (subst (λ z. slice_get z p ≡ Some v) more here)) w)
      shut p v t (inr e) here w =
          let (added, more) = all_grown found (parts c u) in
          let same : v ≡ u = earlier found added next u v at (subst (λ z. slice_get z next ≡ Some v) more (subst (λ q. slice_get (with_all found (parts c u)) q ≡ Some v) e here)) in
          all_new found (parts c u) t (subst (λ z. IsIn t (parts c z)) same w)

pub parts_done : (c : Collection) (old found : List AnyType) (next : ℕ) → length found ≤ next → AreParts c old found next → (t : AnyType) → IsIn t found ↔ IsPart c old t
parts_done c old found next past a t = (a.sound t, back t)
  where
    back : (t : AnyType) → IsPart c old t → IsIn t found
    back t (first _ h) = a.seeds t h
    back t (onward u _ r h) = let (p, l, at) = at_in u found (back u r) in a.closed p u t (omega (arith, l, past)) at h

-- what is at a position of the first ones is one of them
pub in_front : (old more : List AnyType) (i : ℕ) (t : AnyType) → i < length old → slice_get (old ++ more) i ≡ Some t → IsIn t old
in_front [] more i t l at = absurd (omega (arith, l))
in_front (u ∷ old) more zero t l at = let same : u ≡ t = cc in inl (sym same)
in_front (u ∷ old) more (suc i) t l at = inr (in_front old more i t (omega (arith, l)) at)
