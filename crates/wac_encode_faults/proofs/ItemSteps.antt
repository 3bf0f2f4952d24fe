-- Steps from one item to those on which it depends.
use Rattle.std.proofs.Common.{ℕ, zero, suc, ◌+◌, ◌<◌, ◌≤◌, arith, true, List, [], ◌∷◌, length, slice_get, ap, Contains, Some, ◌≡◌, ◌⊎◌, ◌↔◌, inl, inr, sym, ◌∙◌, subst}
use Rattle.std.specs.BTreeSet.{BTreeSet}
use Rattle.std.specs.Option.{option_map}
use Rattle.wac_edges.specs.cycles.Cycles.{IsStep}
use Rattle.wac_types_shapes.specs.primitives.Name.{Name}
use Rattle.wac_types_shapes.specs.shapes.Kinds.{kind_type}
use Rattle.wac_types_shapes.specs.declared.shapes.component.InterfaceId.{InterfaceId}
use Rattle.wac_types_shapes.specs.declared.shapes.component.ItemKind.{ItemKind}
use Rattle.wac_types_shapes.specs.declared.shapes.component.ItemKind.TheVariants as kind
use Rattle.wac_types_shapes.specs.declared.shapes.component.ResourceId.{ResourceId}
use Rattle.wac_types_collection.specs.collection.Collection.{Collection, IsWellFormed, holds_type}
use Rattle.wac_types_collection.specs.wide.Wide.{UsesWidely, wide_uses, interface_uses, used_interfaces, with_each, each_once}
use Rattle.wac_types_collection.proofs.lemmas.wide.Members.{in_none, at_in}
use Rattle.wac_types_collection.proofs.lemmas.wide.Once.{each_new, each_only}
use Rattle.wac_types_collection.proofs.lemmas.wide.Wide.{wide_law}
use Rattle.wac_encode_faults.specs.Free.{IsFree, IsFreeInTypes}
use Rattle.wac_encode_faults.specs.Cycle.{owner_of}
use Rattle.wac_encode_faults.specs.private.Owners.{AddsSteps, AddsImportSteps, IsTarget, KindUses, AdditionalUses, IsFreeInAddition}
use Rattle.wac_encode_faults.specs.private.Sets.{value_of}
use Rattle.wac_encode_faults.specs.private.Search.{AreHeld}
use Rattle.wac_encode_faults.proofs.Dependencies.{second_at}
use Rattle.wac_encode_faults.proofs.Steps.{AddsStepsBelow, below_next, steps_none, steps_as, steps_both}

-- ---- what an item uses
one_instance : (k i : InterfaceId) → kind.Instance k ≡ kind.Instance i → k ≡ i
one_instance k i e = cc

pub uses_instance : (c : Collection) → IsWellFormed c → (item : ItemKind) (i : InterfaceId) (keys : List InterfaceId) → item ≡ kind.Instance i → keys ≡ each_once (wide_uses c i) → (j : InterfaceId) → Contains keys j ↔ KindUses c item j
uses_instance c wf item i keys is e j = (
  λ h. (i, is, (wide_law c wf i j).1 (elim (each_only [] (wide_uses c i) j (subst (λ l. Contains l j) e h)) [ inl n ↦ absurd (in_none j n) | inr w ↦ w ])),
  λ h. subst (λ l. Contains l j) (sym e) (each_new [] (wide_uses c i) j ((wide_law c wf i j).0 (subst (λ z. UsesWidely c z j) (one_instance h.0 i (sym h.1 ∙ is)) h.2))),
)

pub uses_nothing : (c : Collection) (item : ItemKind) (keys : List InterfaceId) → ((i : InterfaceId) → item ≡ kind.Instance i → ⊥) → keys ≡ [] → (j : InterfaceId) → Contains keys j ↔ KindUses c item j
uses_nothing c item keys other none j = (λ h. absurd (in_none j (subst (λ l. Contains l j) none h)), λ h. absurd (other h.0 h.1))

-- ---- what an additional import uses, and what is free in it
pub uses_itself : (c : Collection) (item : ItemKind) (i : InterfaceId) (start keys : List InterfaceId) → item ≡ kind.Instance i → start ≡ [] → keys ≡ with_each start (used_interfaces (interface_uses c i)) → (j : InterfaceId)
    → Contains keys j ↔ AdditionalUses c item j
uses_itself c item i start keys is none e j = (
  λ h. (i, is, elim (each_only start (used_interfaces (interface_uses c i)) j (subst (λ l. Contains l j) e h)) [ inl n ↦ absurd (in_none j (subst (λ l. Contains l j) none n)) | inr w ↦ w ]),
  λ h. subst (λ l. Contains l j) (sym e) (each_new start (used_interfaces (interface_uses c i)) j (subst (λ z. Contains (used_interfaces (interface_uses c z)) j) (one_instance h.0 i (sym h.1 ∙ is)) h.2)),
)

pub free_itself : (c : Collection) (item : ItemKind) (i : InterfaceId) (start keys : List ResourceId) → item ≡ kind.Instance i → ((r : ResourceId) → Contains keys r ↔ (Contains start r ⊎ IsFreeInTypes c i r)) → (r : ResourceId)
    → Contains keys r ↔ (Contains start r ⊎ IsFreeInAddition c item r)
free_itself c item i start keys is all r = (
  λ h. elim ((all r).0 h) [ inl w ↦ inl w | inr w ↦ inr (i, is, w) ],
  λ h. (all r).1 (elim h [ inl w ↦ inl w | inr w ↦ inr (subst (λ z. IsFreeInTypes c z r) (one_instance w.0 i (sym w.1 ∙ is)) w.2) ]),
)

-- ---- steps to both
pub steps_target : (Uses : InterfaceId → Type 0) (Free : ResourceId → Type 0) (suppliers : List (InterfaceId × ℕ)) (owners : List (ResourceId × ℕ)) (from : ℕ) (used : List InterfaceId) (start free : List ResourceId) (old mid now : List (BTreeSet ℕ))
    → ((j : InterfaceId) → Contains used j ↔ Uses j) → start ≡ [] → ((r : ResourceId) → Contains free r ↔ (Contains start r ⊎ Free r))
    → AddsSteps from (λ b. (j : InterfaceId) × Contains used j × (value_of suppliers j ≡ Some b)) old mid → AddsSteps from (λ b. (r : ResourceId) × Contains free r × (owner_of owners r ≡ Some b)) mid now
    → AddsSteps from (IsTarget Uses Free suppliers owners) old now
steps_target Uses Free suppliers owners from used start free old mid now uses none frees first second =
    steps_as from (λ b. ((j : InterfaceId) × Contains used j × (value_of suppliers j ≡ Some b)) ⊎ ((r : ResourceId) × Contains free r × (owner_of owners r ≡ Some b))) (IsTarget Uses Free suppliers owners) old now (λ b. (
      λ h. elim h [
        | inl w ↦ inl (w.0, (uses w.0).0 w.1, w.2)
        | inr w ↦ inr (w.0, elim ((frees w.0).0 w.1) [ inl n ↦ absurd (in_none w.0 (subst (λ l. Contains l w.0) none n)) | inr f ↦ f ], w.2)
      ],
      λ h. elim h [ inl w ↦ inl (w.0, (uses w.0).1 w.1, w.2) | inr w ↦ inr (w.0, (frees w.0).1 (inr w.1), w.2) ],
    )) (steps_both from (λ b. (j : InterfaceId) × Contains used j × (value_of suppliers j ≡ Some b)) (λ b. (r : ResourceId) × Contains free r × (owner_of owners r ≡ Some b)) old mid now first second)

-- an additional import that is no instance needs nothing
pub steps_nothing : (c : Collection) (item : ItemKind) (suppliers : List (InterfaceId × ℕ)) (owners : List (ResourceId × ℕ)) (from : ℕ) (old : List (BTreeSet ℕ)) → ((i : InterfaceId) → item ≡ kind.Instance i → ⊥)
    → AddsSteps from (IsTarget (AdditionalUses c item) (IsFreeInAddition c item) suppliers owners) old old
steps_nothing c item suppliers owners from old other =
    steps_none from (IsTarget (AdditionalUses c item) (IsFreeInAddition c item) suppliers owners) old
    (λ b apart h. elim h [ inl w ↦ other w.1.0 w.1.1 | inr w ↦ other w.1.0 w.1.1 ])

-- one of two, by a number
pub steps_low : (number own : ℕ) (P Q : ℕ → Type 0) (old now : List (BTreeSet ℕ)) → number < own → AddsSteps number P old now → AddsSteps number (λ b. ((number < own) × P b) ⊎ ((own ≤ number) × Q b)) old now
steps_low number own P Q old now low steps =
    steps_as number P (λ b. ((number < own) × P b) ⊎ ((own ≤ number) × Q b)) old now (λ b. (λ p. inl (low, p), λ h. elim h [ inl w ↦ w.1 | inr w ↦ (let high = w.0 in absurd (omega (arith, low, high))) ])) steps

pub steps_high : (number own : ℕ) (P Q : ℕ → Type 0) (old now : List (BTreeSet ℕ)) → own ≤ number → AddsSteps number Q old now → AddsSteps number (λ b. ((number < own) × P b) ⊎ ((own ≤ number) × Q b)) old now
steps_high number own P Q old now high steps =
    steps_as number Q (λ b. ((number < own) × P b) ⊎ ((own ≤ number) × Q b)) old now (λ b. (λ q. inr (high, q), λ h. elim h [ inl w ↦ (let low = w.0 in absurd (omega (arith, low, high))) | inr w ↦ w.1 ])) steps

-- ---- steps of one item after the other
pub value_held : (c : Collection) (items : List (Name × ItemKind)) (i : ℕ) (k : ItemKind) → AreHeld c items → option_map (λ e. e.1) (slice_get items i) ≡ Some k → holds_type c (kind_type k) ≡ true
value_held c items i k held at = let (n, here) = second_at items i k at in held (n, k) (at_in items i (n, k) here)

-- The item needs that with the number.
abbrev pub ItemNeeds : Collection → List (InterfaceId × ℕ) → List (ResourceId × ℕ) → ℕ → ItemKind → ℕ → Type 0
ItemNeeds c suppliers owners i k b = IsTarget (KindUses c k) (IsFree c (kind_type k)) suppliers owners b

-- The import needs the item with the number. The imports from a number on are additional.
abbrev pub ImportNeeds : Collection → ℕ → List (InterfaceId × ℕ) → List (ResourceId × ℕ) → ℕ → ItemKind → ℕ → Type 0
ImportNeeds c own suppliers owners i k b =
    ((i < own) × IsTarget (KindUses c k) (IsFree c (kind_type k)) suppliers owners b) ⊎ ((own ≤ i) × IsTarget (AdditionalUses c k) (IsFreeInAddition c k) suppliers owners b)

module _ (U : ℕ → ItemKind → ℕ → Type 0) (items : List (Name × ItemKind)) where
  -- The item with this number needs that of the other.
  abbrev pub HasItem : ℕ → ℕ → Type 0
  HasItem i b = (e : Name × ItemKind) × (slice_get items i ≡ Some e) × U i e.1 b

  pub items_next : (first i number : ℕ) (k : ItemKind) (old before now : List (BTreeSet ℕ)) → option_map (λ e. e.1) (slice_get items i) ≡ Some k → number ≡ first + i → AddsStepsBelow first i HasItem old before
      → AddsSteps number (U i k) before now → AddsStepsBelow first (i + 1) HasItem old now
  items_next first i number k old before now at is was step =
      let (n, here) = second_at items i k at in
      below_next first i HasItem old before now was
      (steps_as (first + i) (U i k) (HasItem i) before now (λ b. (λ u. ((n, k), here, u), λ h. subst (λ z. U i z b) (same n h.0 here h.1) h.2)) (subst (λ m. AddsSteps m (U i k) before now) is step))
    where
      one : (d e : Name × ItemKind) → Some d ≡ Some e → d ≡ e
      one d e x = cc

      same : (n : Name) (e : Name × ItemKind) → slice_get items i ≡ Some (n, k) → slice_get items i ≡ Some e → e.1 ≡ k
      same n e here there = ap (λ z. z.1) (one e (n, k) (sym there ∙ here))

  within : (xs : List (Name × ItemKind)) (i : ℕ) (e : Name × ItemKind) → slice_get xs i ≡ Some e → i < length xs
  within [] i e h = cc
  within (x ∷ xs) zero e h = omega arith
  within (x ∷ xs) (suc i) e h = let l = within xs i e h in omega (arith, l)

  pub items_all : (first count : ℕ) (old now : List (BTreeSet ℕ)) → length items ≤ count → AddsStepsBelow first count HasItem old now
      → (a b : ℕ) → IsStep now a b ↔ (IsStep old a b ⊎ ((i : ℕ) × (e : Name × ItemKind) × (slice_get items i ≡ Some e) × (a ≡ first + i) × (b ≡ a → ⊥) × U i e.1 b))
  items_all first count old now past all a b = (
    λ h. elim ((all a b).0 h) [ inl w ↦ inl w | inr w ↦ inr (w.0, w.4.0, w.4.1, w.2, w.3, w.4.2) ],
    λ h. (all a b).1 (elim h [ inl w ↦ inl w | inr w ↦ inr (w.0, (let l = within items w.0 w.1 w.2 in omega (arith, l, past)), w.3, w.4, (w.1, w.2, w.5)) ]),
  )

pub imports_all : (c : Collection) (own : ℕ) (imports : List (Name × ItemKind)) (suppliers : List (InterfaceId × ℕ)) (owners : List (ResourceId × ℕ)) (count : ℕ) (old now : List (BTreeSet ℕ)) → length imports ≤ count
    → AddsStepsBelow 0 count (HasItem (ImportNeeds c own suppliers owners) imports) old now → AddsImportSteps c own imports suppliers owners old now
imports_all c own imports suppliers owners count old now past all a b = (
  λ h. elim ((items_all (ImportNeeds c own suppliers owners) imports 0 count old now past all a b).0 h) [
    | inl w ↦ inl w
    | inr w ↦ inr (w.1, at_number w.0 w.1 w.2 w.3, w.4, subst (λ (i : ℕ). ImportNeeds c own suppliers owners i w.1.1 b) (number w.0 w.3) w.5)
  ],
  λ h. (items_all (ImportNeeds c own suppliers owners) imports 0 count old now past all a b).1 (elim h [ inl w ↦ inl w | inr w ↦ inr (a, w.0, w.1, omega arith, w.2, w.3) ]),
)
  where
    number : (i : ℕ) → a ≡ 0 + i → i ≡ a
    number i e = omega (arith, e)

    at_number : (i : ℕ) (e : Name × ItemKind) → slice_get imports i ≡ Some e → a ≡ 0 + i → slice_get imports a ≡ Some e
    at_number i e at is = subst (λ (n : ℕ). slice_get imports n ≡ Some e) (number i is) at
