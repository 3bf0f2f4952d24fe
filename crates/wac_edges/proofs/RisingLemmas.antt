-- Where each edge leads to a higher number, nodes are written by rising numbers.
use Rattle.std.proofs.Common.{◌≡◌, ◌<◌, ◌≤◌, ℕ, ◌+◌, Bool, true, false, not, ◌&&◌, List, length, refl, ap, ◌∙◌, ◌⊎◌, inl, inr, arith, eqb}
use Rattle.std.specs.Prelude.{nat_lt}
use Rattle.std.proofs.Math.Path.{fun_ext}
use Rattle.std.proofs.lemmas.Bool.{cases_lt, cases_eq, false_from_ne_true}
use Rattle.std.proofs.lemmas.Bool.Decides.{nat_tests}
use Rattle.wac_edges.specs.declared.node.NodeId.{NodeId}
use Rattle.wac_edges.specs.Edge.{is_left, node_number}
use Rattle.wac_edges.specs.Order.{Edges, IsLowestReady, without}
use Rattle.wac_edges.specs.private.Ready.{AllRise, is_set}
use Rattle.wac_edges.proofs.CycleLemmas.{within}

-- those that are left from number k on
abbrev pub left_from : List Bool → ℕ → NodeId → Bool
left_from flags k m = is_left flags m && not (nat_lt m.0 k)

both : (a b : Bool) → (a && b) ≡ true → (a ≡ true) × (b ≡ true)
both true b h = (refl, h)
both false b h = cc

neither : (b : Bool) → b ≡ false → (a : Bool) → (a && b) ≡ false
neither b h true = h
neither b h false = refl

low : (m k : ℕ) → m < k → nat_lt m k ≡ true
low m k h = grind (arith, nat_tests)

high : (m k : ℕ) → k ≤ m → nat_lt m k ≡ false
high m k h = grind (arith, nat_tests)

-- at first all are left
pub left_all : (flags : List Bool) → left_from flags 0 ≡ is_left flags
left_all flags = fun_ext (λ m. from (is_left flags m) (nat_lt m.0 0) (high m.0 0 (omega arith))) where
  from : (a b : Bool) → b ≡ false → (a && not b) ≡ a
  from true true h = cc
  from true false h = refl
  from false b h = refl

-- in the end none is
pub left_none : (flags : List Bool) (k : ℕ) → length flags ≤ k → (m : NodeId) → left_from flags k m ≡ false
left_none flags k far m = elim (cases_lt m.0 k) [
  | inl below ↦ neither (not (nat_lt m.0 k)) (ap not (low m.0 k below)) (is_left flags m)
  | inr above ↦ false_from_ne_true (left_from flags k m) (λ h. let short = within flags m.0 (both (is_left flags m) (not (nat_lt m.0 k)) h).0 in absurd (omega (arith, short, far, above)))
]

-- the number is not left: those from the next on are
pub left_skip : (flags : List Bool) (k : ℕ) → is_set flags k ≡ false → left_from flags (k + 1) ≡ left_from flags k
left_skip flags k gone = fun_ext (λ m. at m (cases_eq m.0 k)) where
  at : (m : NodeId) → (m.0 ≡ k) ⊎ (m.0 ≡ k → ⊥) → left_from flags (k + 1) m ≡ left_from flags k m
  at m (inl e) = let off : is_left flags m ≡ false = ap (is_set flags) e ∙ gone in rw off refl
  at m (inr other) = ap (λ b. is_left flags m && not b) (grind (arith, nat_tests))

-- the number is written: those from the next on are left
pub left_after : (flags : List Bool) (k : ℕ) → without (left_from flags k) (node_number k) ≡ left_from flags (k + 1)
left_after flags k = fun_ext (λ m. at (is_left flags m) m.0 (cases_eq m.0 k)) where
  at : (b : Bool) (m : ℕ) → (m ≡ k) ⊎ (m ≡ k → ⊥) → ((b && not (nat_lt m k)) && not (eqb m k)) ≡ (b && not (nat_lt m (k + 1)))
  at b m s = grind (arith, nat_tests)

-- the lowest that is left is ready
pub first_ready : (edges : Edges) (flags : List Bool) (k : ℕ) → AllRise edges → is_set flags k ≡ true → IsLowestReady edges (left_from flags k) (node_number k)
first_ready edges flags k rising here = record {
  here = rw (here, high k k (omega arith)) refl;
  free = λ e has to. false_from_ne_true (left_from flags k e.source) (λ h.
      let from = (both (is_left flags e.source) (not (nat_lt e.source.0 k)) h).1 in
      let up = rising e has in
      let at : e.target.0 ≡ k = ap (λ (n : NodeId). n.0) to in
      let below : nat_lt e.source.0 k ≡ true = low e.source.0 k (omega (arith, up, at)) in
      clash (nat_lt e.source.0 k) below from);
  lower = λ m small left.
      let from = (both (is_left flags m) (not (nat_lt m.0 k)) left).1 in
      absurd (clash (nat_lt m.0 k) (low m.0 k small) from);
} where
  clash : (b : Bool) → b ≡ true → not b ≡ true → ⊥
  clash true _ h = cc
  clash false h _ = cc
