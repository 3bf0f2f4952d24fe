-- Steps between the items of one side, by their positions.
use Rattle.std.proofs.Common.{ℕ, zero, suc, ◌≡◌, ◌+◌, ◌-◌, ◌<◌, ◌≤◌, ◌⊎◌, ◌↔◌, true, List, [], ◌∷◌, length, take, slice_get, Some, Contains, refl, ap, sym, ◌∙◌, subst, inl, inr, arith}
use Rattle.std.specs.Prelude.{Result, Ok, Err, IfOk}
use Rattle.std.specs.BTreeSet.{BTreeSet, contains}
use Rattle.std.specs.Ordering.{nat_cmp}
use Rattle.wac_types_shapes.specs.primitives.Name.{Name}
use Rattle.wac_types_shapes.specs.declared.shapes.component.ItemKind.{ItemKind}
use Rattle.wac_types_collection.specs.collection.Collection.{Collection}
use Rattle.wac_types_collection.proofs.lemmas.wide.Members.{at_in}
use Rattle.wac_edges.specs.cycles.Cycles.{IsStep, Path, step, further, HasNoCycle, AreWithin}
use Rattle.wac_edges.specs.private.cycles.Numbers.{Has}
use Rattle.wac_edges.proofs.lemmas.cycles.Numbers.{has_head, has_tail, has_split}
use Rattle.wac_edges.proofs.lemmas.cycles.StepLemmas.{has_none}
use Rattle.wac_encode_order.specs.private.SideOrder.{IsSideOrder}
use Rattle.wac_encode_interfaces.specs.private.Ordered.{AddsMoved, AreMoved, IsOrdered}
use Rattle.wac_encode_interfaces.proofs.Bound.{one-some}
use Rattle.wac_encode_interfaces.proofs.Arranging.{ordered-after, ordered-among}

-- one step

-- A step to no number that is counted adds nothing.
pub moved-past : (from first to : ℕ) (ts : List (BTreeSet ℕ)) → ((b : ℕ) → b < length ts → first + b ≡ to → ⊥) → AddsMoved from first (λ b. b ≡ to) ts ts
moved-past from first to ts others a b = ((λ h. inl h), (λ h. elim h [ inl w ↦ w | inr w ↦ absurd (others b w.1 w.2) ]))

pub moved-one : (from first to moved : ℕ) (old new : List (BTreeSet ℕ)) → moved + first ≡ to → moved < length old → ((a b : ℕ) → IsStep new a b ↔ (IsStep old a b ⊎ ((a ≡ from) × (b ≡ moved)))) → AddsMoved from first (λ b. b ≡ to) old new
moved-one from first to moved old new is low adds a b = (
  λ h. elim ((adds a b).0 h) [ inl w ↦ inl w | inr w ↦ inr (w.0, subst (λ (n : ℕ). n < length old) (sym w.1) low, counted b (w.1)) ],
  λ h. elim h [ inl w ↦ (adds a b).1 (inl w) | inr w ↦ (adds a b).1 (inr (w.0, back b w.2)) ],
)
  where
    counted : (b : ℕ) → b ≡ moved → first + b ≡ to
    counted b e = omega (arith, e, is)

    back : (b : ℕ) → first + b ≡ to → b ≡ moved
    back b e = omega (arith, e, is)

-- all steps of a number

-- Steps to numbers of `done` were added, where `all` are `done` and `rest`.
abbrev pub MovedSoFar : ℕ → ℕ → ℕ → List ℕ → List ℕ → List (BTreeSet ℕ) → List (BTreeSet ℕ) → Type 0
MovedSoFar from first count all rest old now = (a b : ℕ) → (IsStep now a b ⊎ ((a ≡ from) × (b < count) × Has rest (first + b))) ↔ (IsStep old a b ⊎ ((a ≡ from) × (b < count) × Has all (first + b)))

pub moved-start : (from first count : ℕ) (all : List ℕ) (old : List (BTreeSet ℕ)) → MovedSoFar from first count all all old old
moved-start from first count all old a b = ((λ h. h), (λ h. h))

pub moved-next : (from first count to : ℕ) (all before rest : List ℕ) (old now new : List (BTreeSet ℕ)) → before ≡ to ∷ rest → length now ≡ count → AddsMoved from first (λ b. b ≡ to) now new → MovedSoFar from first count all before old now → MovedSoFar from first count all rest old new
moved-next from first count to all before rest old now new is counted adds was a b = (
  λ h. (was a b).0 (elim h [
    | inl w ↦ elim ((adds a b).0 w) [
      | inl v ↦ inl v
      | inr v ↦ inr (v.0, subst (λ (n : ℕ). b < n) counted v.1, subst (λ (ks : List ℕ). Has ks (first + b)) (sym is) (has_head (first + b) to rest v.2))
    ]
    | inr w ↦ inr (w.0, w.1, subst (λ (ks : List ℕ). Has ks (first + b)) (sym is) (has_tail (first + b) to rest w.2))
  ]),
  λ h. elim ((was a b).1 h) [
    | inl w ↦ inl ((adds a b).1 (inl w))
    | inr w ↦ elim (has_split (first + b) to rest (subst (λ (ks : List ℕ). Has ks (first + b)) is w.2)) [
      | inl e ↦ inl ((adds a b).1 (inr (w.0, subst (λ (n : ℕ). b < n) (sym counted) w.1, e)))
      | inr v ↦ inr (w.0, w.1, v)
    ]
  ],
)

pub moved-end : (from first count : ℕ) (steps : BTreeSet ℕ) (rest : List ℕ) (old new : List (BTreeSet ℕ)) → rest ≡ [] → length old ≡ count → MovedSoFar from first count steps.keys rest old new → AddsMoved from first (λ b. contains nat_cmp steps b ≡ true) old new
moved-end from first count steps rest old new is counted was a b = (
  λ h. elim ((was a b).0 (inl h)) [ inl w ↦ inl w | inr w ↦ inr (w.0, subst (λ (n : ℕ). b < n) (sym counted) w.1, w.2) ],
  λ h. elim ((was a b).1 (elim h [ inl w ↦ inl w | inr w ↦ inr (w.0, subst (λ (n : ℕ). b < n) counted w.1, w.2) ])) [
    | inl w ↦ w
    | inr w ↦ absurd (has_none rest (first + b) is w.2)
  ],
)

-- the steps of all numbers

-- The steps of the numbers below k are there.
abbrev pub MovedBelow : ℕ → ℕ → ℕ → List (BTreeSet ℕ) → List (BTreeSet ℕ) → Type 0
MovedBelow first count k steps now = (a b : ℕ) → IsStep now a b ↔ ((a < k) × (b < count) × IsStep steps (first + a) (first + b))

pub below-start : (first count : ℕ) (steps now : List (BTreeSet ℕ)) → ((a b : ℕ) → IsStep now a b → ⊥) → MovedBelow first count 0 steps now
below-start first count steps now none a b = ((λ h. absurd (none a b h)), (λ h. let low = h.0 in absurd (omega (arith, low))))

less-or-is : (a k : ℕ) → a < k + 1 → (a < k) ⊎ (a ≡ k)
less-or-is zero zero h = inr refl
less-or-is zero (suc k) h = inl (omega arith)
less-or-is (suc a) zero h = absurd (omega (arith, h))
less-or-is (suc a) (suc k) h = elim (less-or-is a k (omega (arith, h))) [ inl w ↦ inl (omega (arith, w)) | inr w ↦ inr (ap (λ (n : ℕ). suc n) w) ]

pub below-next : (first count k : ℕ) (steps : List (BTreeSet ℕ)) (s : BTreeSet ℕ) (now new : List (BTreeSet ℕ)) → slice_get steps (first + k) ≡ Some s → length now ≡ count → AddsMoved k first (λ b. contains nat_cmp s b ≡ true) now new → MovedBelow first count k steps now → MovedBelow first count (k + 1) steps new
below-next first count k steps s now new at counted adds was a b = (
  λ h. elim ((adds a b).0 h) [
    | inl w ↦ let v = (was a b).0 w in (later v.0, v.1, v.2)
    | inr w ↦ (here w.0, subst (λ (n : ℕ). b < n) counted w.1, (s, ap (λ (n : ℕ). slice_get steps (first + n)) w.0 ∙ at, w.2))
  ],
  λ h. elim (less-or-is a k h.0) [
    | inl w ↦ (adds a b).1 (inl ((was a b).1 (w, h.1, h.2)))
    | inr w ↦
        let (t, there, has) = h.2 in
        let same : t ≡ s = one-some t s (sym there ∙ ap (λ (n : ℕ). slice_get steps (first + n)) w ∙ at) in
        (adds a b).1 (inr (w, subst (λ (n : ℕ). b < n) (sym counted) h.1, subst (λ (z : BTreeSet ℕ). contains nat_cmp z (first + b) ≡ true) same has))
  ],
)
  where
    later : a < k → a < k + 1
    later h = omega (arith, h)

    here : a ≡ k → a < k + 1
    here h = omega (arith, h)

pub below-end : (first count k : ℕ) (steps now : List (BTreeSet ℕ)) → count ≤ k → k ≤ count → MovedBelow first count k steps now → AreMoved first steps count now
below-end first count k steps now low high was a b = ((λ h. let v = (was a b).0 h in (less v.0, v.1, v.2)), (λ h. (was a b).1 (more h.0, h.1, h.2)))
  where
    less : a < k → a < count
    less h = omega (arith, h, high)

    more : a < count → a < k
    more h = omega (arith, h, low)

-- the order

pub moved-within : (first count : ℕ) (steps now : List (BTreeSet ℕ)) → length now ≡ count → AreMoved first steps count now → AreWithin now
moved-within first count steps now counted moved a b h = subst (λ (n : ℕ). b < n) (sym counted) ((moved a b).0 h).1

moved-path : (first count : ℕ) (steps now : List (BTreeSet ℕ)) → AreMoved first steps count now → (a b : ℕ) → Path (IsStep now) a b → Path (IsStep steps) (first + a) (first + b)
moved-path first count steps now moved _ _ (step a b h) = step (first + a) (first + b) ((moved a b).0 h).2
moved-path first count steps now moved _ _ (further a b d h rest) = further (first + a) (first + b) (first + d) ((moved a b).0 h).2 (moved-path first count steps now moved b d rest)

pub moved-no-cycle : (first count : ℕ) (steps now : List (BTreeSet ℕ)) → AreMoved first steps count now → HasNoCycle steps → HasNoCycle now
moved-no-cycle first count steps now moved none n back = none (first + n) (moved-path first count steps now moved n n back)

pub are-ordered : (c : Collection) (es : List (Name × ItemKind)) (additional first count : ℕ) (steps now : List (BTreeSet ℕ)) (order : List ℕ) → count ≡ length es + additional → AreMoved first steps count now → IsSideOrder c es additional (IsStep now) order
    → ((k : ℕ) → Contains order k ↔ k < length es + additional) → ((i j k : ℕ) → slice_get order i ≡ Some k → slice_get order j ≡ Some k → i ≡ j) → IsOrdered steps first (length es + additional) order
are-ordered c es additional first count steps now order counted moved is each_one once_each = record {
  each = each_one;
  once = once_each;
  after = λ i p q at low leads.
      let here : p < length es + additional = (each_one p).0 (in-order i p at) in
      let there = (each_one q).1 low in
      let steps_now = (moved p q).1 (subst (λ (n : ℕ). p < n) (sym counted) here, subst (λ (n : ℕ). q < n) (sym counted) low, leads) in
      ordered-after (IsStep now) is.all order is.arranged i p q at steps_now (ordered-among (IsStep now) is.all order q is.arranged there);
}
  where
    in-order : (i p : ℕ) → slice_get order i ≡ Some p → Contains order p
    in-order i p at = at_in order i p at

pub ordered-as : (steps : List (BTreeSet ℕ)) (f g n m : ℕ) (o p : List ℕ) → f ≡ g → n ≡ m → o ≡ p → IsOrdered steps f n o → IsOrdered steps g m p
ordered-as steps f g n m o p a b d h = subst (λ (x : List ℕ). IsOrdered steps g m x) d (subst (λ (k : ℕ). IsOrdered steps g k o) b (subst (λ (k : ℕ). IsOrdered steps k n o) a h))

pub if-three : {A E : Type 0} (P Q R S : A → Type 0) (r : Result A E) → ((x : A) → P x → Q x → R x → S x) → IfOk r P → IfOk r Q → IfOk r R → IfOk r S
if-three P Q R S (Ok x) f p q t = f x p q t
if-three P Q R S (Err e) f p q t = tt
