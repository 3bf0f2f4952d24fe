-- Steps between the numbers of items.
use Rattle.std.proofs.Common.{ℕ, ◌+◌, ◌-◌, ◌<◌, ◌≤◌, List, length, take, Contains, Option, Some, None, ◌≡◌, ◌⊎◌, ◌↔◌, inl, inr, refl, ap, sym, ◌∙◌, subst, arith, slice_get}
use Rattle.std.proofs.lemmas.List.{take_all}
use Rattle.std.specs.BTreeSet.{BTreeSet}
use Rattle.wac_edges.specs.cycles.Cycles.{IsStep}
use Rattle.wac_encode_faults.specs.private.Owners.{AddsSteps}
use Rattle.wac_encode_faults.proofs.Reached.{split}
use Rattle.wac_encode_faults.proofs.Taken.{none_taken, taken_next}

-- no step more
pub steps_none : (from : ℕ) (P : ℕ → Type 0) (old : List (BTreeSet ℕ)) → ((b : ℕ) → (b ≡ from → ⊥) → P b → ⊥) → AddsSteps from P old old
steps_none from P old none a b = (λ h. inl h, λ h. elim h [ inl w ↦ w | inr w ↦ absurd (none b w.1 w.2) ])

-- one step more
pub steps_one : (from to : ℕ) (P : ℕ → Type 0) (old now : List (BTreeSet ℕ)) → (to ≡ from → ⊥) → ((b : ℕ) → P b ↔ (b ≡ to)) → ((a b : ℕ) → IsStep now a b ↔ (IsStep old a b ⊎ ((a ≡ from) × (b ≡ to)))) → AddsSteps from P old now
steps_one from to P old now other both is a b = (
  λ h. elim ((is a b).0 h) [ inl w ↦ inl w | inr w ↦ inr (w.0, (λ e. other (sym w.1 ∙ e)), (both b).1 w.1) ],
  λ h. (is a b).1 (elim h [ inl w ↦ inl w | inr w ↦ inr (w.0, (both b).0 w.2) ]),
)

-- a step to a number, if there is one, and if it is another
module _ (from : ℕ) (to : Option ℕ) (old : List (BTreeSet ℕ)) where
  pub step_to_none : to ≡ None → AddsSteps from (λ b. to ≡ Some b) old old
  step_to_none none = steps_none from (λ b. to ≡ Some b) old (λ b apart h. wrong b (sym none ∙ h))
    where
      wrong : (b : ℕ) → None ≡ Some b → ⊥
      wrong b e = cc

  one : (m n : ℕ) → Some m ≡ Some n → m ≡ n
  one m n e = cc

  pub step_to_itself : (n : ℕ) → to ≡ Some n → n ≡ from → AddsSteps from (λ b. to ≡ Some b) old old
  step_to_itself n is same = steps_none from (λ b. to ≡ Some b) old (λ b apart h. apart (one b n (sym h ∙ is) ∙ same))

  pub step_to_other : (n : ℕ) (now : List (BTreeSet ℕ)) → to ≡ Some n → (n ≡ from → ⊥) → ((a b : ℕ) → IsStep now a b ↔ (IsStep old a b ⊎ ((a ≡ from) × (b ≡ n)))) → AddsSteps from (λ b. to ≡ Some b) old now
  step_to_other n now is other added = steps_one from n (λ b. to ≡ Some b) old now other (λ b. (λ h. one b n (sym h ∙ is), λ e. is ∙ ap Some (sym e))) added

pub steps_as : (from : ℕ) (P Q : ℕ → Type 0) (old now : List (BTreeSet ℕ)) → ((b : ℕ) → P b ↔ Q b) → AddsSteps from P old now → AddsSteps from Q old now
steps_as from P Q old now both is a b = (
  λ h. elim ((is a b).0 h) [ inl w ↦ inl w | inr w ↦ inr (w.0, w.1, (both b).0 w.2) ],
  λ h. (is a b).1 (elim h [ inl w ↦ inl w | inr w ↦ inr (w.0, w.1, (both b).1 w.2) ]),
)

pub steps_both : (from : ℕ) (P Q : ℕ → Type 0) (old mid now : List (BTreeSet ℕ)) → AddsSteps from P old mid → AddsSteps from Q mid now → AddsSteps from (λ b. P b ⊎ Q b) old now
steps_both from P Q old mid now first second a b = (
  λ h. elim ((second a b).0 h) [
    | inl w ↦ elim ((first a b).0 w) [ inl k ↦ inl k | inr k ↦ inr (k.0, k.1, inl k.2) ]
    | inr w ↦ inr (w.0, w.1, inr w.2)
  ],
  λ h. (second a b).1 (elim h [
    | inl w ↦ inl ((first a b).1 (inl w))
    | inr w ↦ elim w.2 [ inl p ↦ inl ((first a b).1 (inr (w.0, w.1, p))) | inr q ↦ inr (w.0, w.1, q) ]
  ]),
)

-- steps to the numbers of several
module _ {K : Type 0} (f : K → Option ℕ) (from : ℕ) where
  -- One of these has the number.
  abbrev pub HasNumber : List K → ℕ → Type 0
  HasNumber xs b = (k : K) × Contains xs k × (f k ≡ Some b)

  pub steps_first : (xs : List K) (old : List (BTreeSet ℕ)) → AddsSteps from (HasNumber (take 0 xs)) old old
  steps_first xs old = steps_none from (HasNumber (take 0 xs)) old (λ b other h. none_taken xs h.0 h.1)

  pub steps_next : (xs : List K) (n : ℕ) (x : K) (old before now : List (BTreeSet ℕ)) → slice_get xs n ≡ Some x → AddsSteps from (HasNumber (take n xs)) old before → AddsSteps from (λ b. f x ≡ Some b) before now
      → AddsSteps from (HasNumber (take (n + 1) xs)) old now
  steps_next xs n x old before now at was step =
      steps_as from (λ b. HasNumber (take n xs) b ⊎ (f x ≡ Some b)) (HasNumber (take (n + 1) xs)) old now (λ b. (
        λ h. elim h [ inl w ↦ (w.0, (taken_next xs n x w.0 at).1 (inl w.1), w.2) | inr e ↦ (x, (taken_next xs n x x at).1 (inr refl), e) ],
        λ h. elim ((taken_next xs n x h.0 at).0 h.1) [ inl w ↦ inl (h.0, w, h.2) | inr e ↦ inr (ap f (sym e) ∙ h.2) ],
      )) (steps_both from (HasNumber (take n xs)) (λ b. f x ≡ Some b) old before now was step)

  pub steps_all : (xs : List K) (n : ℕ) (old now : List (BTreeSet ℕ)) → length xs ≤ n → AddsSteps from (HasNumber (take n xs)) old now → AddsSteps from (HasNumber xs) old now
  steps_all xs n old now past is = subst (λ l. AddsSteps from (HasNumber l) old now) (take_all n xs past) is

-- steps from several numbers
-- Steps from the numbers below a bound are added.
abbrev pub AddsStepsBelow : ℕ → ℕ → (ℕ → ℕ → Type 0) → List (BTreeSet ℕ) → List (BTreeSet ℕ) → Type 0
AddsStepsBelow first count P old now = (a b : ℕ) → IsStep now a b ↔ (IsStep old a b ⊎ ((i : ℕ) × (i < count) × (a ≡ first + i) × (b ≡ a → ⊥) × P i b))

pub below_first : (first : ℕ) (P : ℕ → ℕ → Type 0) (old : List (BTreeSet ℕ)) → AddsStepsBelow first 0 P old old
below_first first P old a b = (λ h. inl h, λ h. elim h [ inl w ↦ w | inr w ↦ (let l = w.1 in absurd (omega (arith, l))) ])

pub below_next : (first count : ℕ) (P : ℕ → ℕ → Type 0) (old before now : List (BTreeSet ℕ)) → AddsStepsBelow first count P old before → AddsSteps (first + count) (P count) before now → AddsStepsBelow first (count + 1) P old now
below_next first count P old before now was step a b = (
  λ h. elim ((step a b).0 h) [
    | inl w ↦ elim ((was a b).0 w) [ inl k ↦ inl k | inr k ↦ inr (k.0, (let l = k.1 in omega (arith, l)), k.2, k.3, k.4) ]
    | inr w ↦ inr (count, omega arith, w.0, (λ e. w.1 (e ∙ w.0)), w.2)
  ],
  λ h. elim h [
    | inl w ↦ (step a b).1 (inl ((was a b).1 (inl w)))
    | inr w ↦ back w.0 w.1 w.2 w.3 w.4
  ],
)
  where
    back : (i : ℕ) → i < count + 1 → a ≡ first + i → (b ≡ a → ⊥) → P i b → IsStep now a b
    back i l here other p = elim (split i count l) [
      | inl k ↦ (step a b).1 (inl ((was a b).1 (inr (i, k, here, other, p))))
      | inr e ↦ (step a b).1 (inr (here ∙ ap (λ n. first + n) e, (λ x. other (x ∙ sym (here ∙ ap (λ n. first + n) e))), subst (λ (n : ℕ). P n b) e p))
    ]
