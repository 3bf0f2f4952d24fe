-- What a map from interfaces has after changes, and which positions it has.
use Rattle.std.proofs.Common.{ℕ, ◌+◌, ◌≤◌, Bool, true, false, cond, List, length, take, Contains, Option, Some, ◌≡◌, ◌⊎◌, ◌↔◌, inl, inr, refl, ap, sym, ◌∙◌, subst, arith, slice_get}
use Rattle.std.proofs.lemmas.List.{take_all}
use Rattle.wac_types_shapes.specs.contracts.shapes.component.InterfaceIdPartialEq.TheImpl as IdEq
use Rattle.wac_types_shapes.specs.declared.shapes.component.InterfaceId.{InterfaceId}
use Rattle.wac_types_collection.specs.collection.Collection.{Collection}
use Rattle.wac_types_collection.specs.wide.Wide.{is_among}
use Rattle.wac_types_collection.proofs.lemmas.wide.Once.{same_id, id_itself, among_in, in_among}
use Rattle.wac_encode_faults.specs.private.Order.{children}
use Rattle.wac_encode_faults.specs.private.Sets.{value_of, AreLast}
use Rattle.wac_encode_faults.proofs.Reached.{split}
use Rattle.wac_encode_faults.proofs.Taken.{none_taken, taken_next}

-- ---- one change
-- The value of one interface is changed.
abbrev pub IsChanged : {X : Type 0} → InterfaceId → Option X → List (InterfaceId × X) → List (InterfaceId × X) → Type 0
IsChanged {X} k w old now = (q : InterfaceId) → value_of now q ≡ cond ((IdEq.ghosts).eq k q) w (value_of old q)

module _ {X : Type 0} (k : InterfaceId) (w : Option X) (old now : List (InterfaceId × X)) (all : IsChanged k w old now) where
  pub value_changed : value_of now k ≡ w
  value_changed = all k ∙ ap (λ b. cond b w (value_of old k)) (id_itself k)

  pub value_kept : (j : InterfaceId) → (j ≡ k → ⊥) → value_of now j ≡ value_of old j
  value_kept j other = by ((IdEq.ghosts).eq k j) refl
    where
      by : (b : Bool) → (IdEq.ghosts).eq k j ≡ b → value_of now j ≡ value_of old j
      by true same = absurd (other (sym (same_id k j same)))
      by false same = all j ∙ ap (λ b. cond b w (value_of old j)) same

-- ---- a position for each of several interfaces
pub record AreNoted (is : List InterfaceId) (p n : ℕ) (old now : List (InterfaceId × ℕ)) : Type 0 where
  pub noted : (j : InterfaceId) → Contains (take n is) j → value_of now j ≡ Some p
  pub others : (j : InterfaceId) → (Contains (take n is) j → ⊥) → value_of now j ≡ value_of old j

pub noted_first : (is : List InterfaceId) (p : ℕ) (old : List (InterfaceId × ℕ)) → AreNoted is p 0 old old
noted_first is p old = record { noted = λ j h. absurd (none_taken is j h); others = λ j h. refl }

pub noted_next : (is : List InterfaceId) (p n : ℕ) (i : InterfaceId) (old before now : List (InterfaceId × ℕ)) → slice_get is n ≡ Some i → IsChanged i (Some p) before now → AreNoted is p n old before
    → AreNoted is p (n + 1) old now
noted_next is p n i old before now at all a = record {
  noted = λ j h. is_noted j ((IdEq.ghosts).eq i j) refl ((taken_next is n i j at).0 h);
  others = λ j h. value_kept i (Some p) before now all j (λ e. h ((taken_next is n i j at).1 (inr e))) ∙ a.others j (λ w. h ((taken_next is n i j at).1 (inl w)));
}
  where
    is_noted : (j : InterfaceId) (b : Bool) → (IdEq.ghosts).eq i j ≡ b → Contains (take n is) j ⊎ (j ≡ i) → value_of now j ≡ Some p
    is_noted j true e h = all j ∙ ap (λ b. cond b (Some p) (value_of before j)) e
    is_noted j false e (inl w) = all j ∙ ap (λ b. cond b (Some p) (value_of before j)) e ∙ a.noted j w
    is_noted j false e (inr same) = let wrong : true ≡ false = sym (subst (λ (z : InterfaceId). (IdEq.ghosts).eq i z ≡ true) (sym same) (id_itself i)) ∙ e in cc

module _ (is : List InterfaceId) (p n : ℕ) (old now : List (InterfaceId × ℕ)) (past : length is ≤ n) (a : AreNoted is p n old now) where
  pub noted_all : (j : InterfaceId) → Contains is j → value_of now j ≡ Some p
  noted_all j h = a.noted j (subst (λ l. Contains l j) (sym (take_all n is past)) h)

  pub others_all : (j : InterfaceId) → (Contains is j → ⊥) → value_of now j ≡ value_of old j
  others_all j h = a.others j (λ w. h (subst (λ l. Contains l j) (take_all n is past) w))

-- ---- the last position of each
one : (i j : InterfaceId) → Some i ≡ Some j → i ≡ j
one i j e = cc

pub last_next : (c : Collection) (order kids : List InterfaceId) (n : ℕ) (i : InterfaceId) (old now : List (InterfaceId × ℕ)) → slice_get order n ≡ Some i → ((j : InterfaceId) → Contains kids j ↔ Contains (children c i) j)
    → ((j : InterfaceId) → Contains kids j → value_of now j ≡ Some n) → ((j : InterfaceId) → (Contains kids j → ⊥) → value_of now j ≡ value_of old j) → AreLast c order n old → AreLast c order (n + 1) now
last_next c order kids n i old now at same noted others was q j l read = by (is_among kids j) refl
  where
    not_in : is_among kids j ≡ false → Contains kids j → ⊥
    not_in e h = let wrong : false ≡ true = sym e ∙ in_among kids j h in cc

    kid : q ≡ n → Contains (children c i) j
    kid here =
        let (k, there, h) = read in
        subst (λ z. Contains (children c z) j) (one k i (sym (subst (λ p. slice_get order p ≡ Some k) here there) ∙ at)) h

    by : (b : Bool) → is_among kids j ≡ b → (m : ℕ) × (value_of now j ≡ Some m) × (q ≤ m)
    by true e = (n, noted j (among_in kids j e), omega (arith, l))
    by false e = elim (split q n l) [
      | inl less ↦ let (m, here, low) = was q j less read in (m, others j (not_in e) ∙ here, low)
      | inr here ↦ absurd (not_in e ((same j).1 (kid here)))
    ]
