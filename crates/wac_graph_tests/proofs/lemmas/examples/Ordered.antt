-- The order in which nodes are written is by number where edges lead to higher numbers.
use Rattle.std.proofs.Common.{◌≡◌, ℕ, zero, suc, ◌+◌, ◌<◌, ◌≤◌, Bool, true, false, not, ◌&&◌, ◌||◌, eqb, List, [], ◌∷◌, refl, ap, sym, ◌∙◌, subst, arith}
use Rattle.std.specs.FinSet as set
use Rattle.std.specs.FinSet.{IsAntisymmetric, slice_cmp-IsAntisymmetric, nat_cmp-IsAntisymmetric}
use Rattle.std.specs.List.{list_any, AllByRecursion}
use Rattle.std.specs.Ordering.{eq_by_cmp}
use Rattle.std.specs.Cmp.{IsTotalOrder}
use Rattle.std.specs.Cmp.Lexicographic.{nat_list_cmp_total}
use Rattle.std.proofs.lemmas.Bool.Decides.{nat_tests}
use Rattle.std.proofs.lemmas.Cmp.{on_total}
use Rattle.std.proofs.lemmas.Map.Views.{tells_apart}
use Rattle.wac_edges.specs.declared.edges.Edge.{Edge}
use Rattle.wac_edges.specs.declared.node.NodeId.{NodeId}
use Rattle.wac_edges.specs.Edge.{edge_cmp, edge_key, edge_of, edge_of-edge_key, node_number}
use Rattle.wac_edges.specs.Order.{Edges, Writes, without}

-- ---- sets of edges that a list gives
pub edge_cmp_total : IsTotalOrder edge_cmp
edge_cmp_total = on_total edge_key nat_list_cmp_total

edge_cmp-IsAntisymmetric : IsAntisymmetric edge_cmp
edge_cmp-IsAntisymmetric x y e =
    sym (edge_of-edge_key x) ∙ ap edge_of (slice_cmp-IsAntisymmetric nat_cmp-IsAntisymmetric (edge_key x) (edge_key y) e) ∙ edge_of-edge_key y

pub exact_edges : (e f : Edge) → eq_by_cmp edge_cmp e f ≡ true → e ≡ f
exact_edges = tells_apart edge_cmp-IsAntisymmetric

-- what holds of each edge of the list holds of each edge of the set
pub by_edge : (P : Edge → Type 0) (es : List Edge) → AllByRecursion P es → (e : Edge) → set.contains (set.from_list {R = edge_cmp} es) e ≡ true → P e
by_edge P es all e stands = among es all (sym (set.contains-from_list edge_cmp_total es e) ∙ stands) where
  among : (es : List Edge) → AllByRecursion P es → list_any (eq_by_cmp edge_cmp e) es ≡ true → P e
  among [] _ h = let wrong : false ≡ true = h in absurd (cc)
  among (x ∷ es) all h = split (eq_by_cmp edge_cmp e x) refl h (among es all.1) where
    split : (b : Bool) → eq_by_cmp edge_cmp e x ≡ b → (b || list_any (eq_by_cmp edge_cmp e) es) ≡ true → (list_any (eq_by_cmp edge_cmp e) es ≡ true → P e) → P e
    split true is _ _ = subst P (sym (exact_edges e x is)) all.0
    split false _ h later = later h

-- ---- by number
not_both : {b : Bool} → b ≡ true → b ≡ false → ⊥
not_both h k = cc

-- so many nodes, from the one of this number on
abbrev pub counting : ℕ → ℕ → List NodeId
counting k zero = []
counting k (suc count) = node_number k ∷ counting (suc k) count

-- the nodes that are left are those of the numbers from k on, so many
pub record Range (left : NodeId → Bool) (k count : ℕ) : Type 0 where
  pub below : (m : NodeId) → m.0 < k → left m ≡ false
  pub within : (m : NodeId) → k ≤ m.0 → m.0 < k + count → left m ≡ true
  pub above : (m : NodeId) → k + count ≤ m.0 → left m ≡ false

-- the same without the first
range_after : (left : NodeId → Bool) (k count : ℕ) → Range left k (suc count) → Range (without left (node_number k)) (suc k) count
range_after left k count r = record {
  below = λ m small. below m small (eqb m.0 k) refl;
  within = λ m from to. rw (r.within m (omega arith) (omega arith)) (other m.0 from);
  above = λ m from. rw (r.above m (omega arith)) refl;
} where
  other : (m : ℕ) → suc k ≤ m → not (eqb m k) ≡ true
  other m from = grind (arith, nat_tests)

  below : (m : NodeId) → m.0 < suc k → (b : Bool) → eqb m.0 k ≡ b → (left m && not b) ≡ false
  below m small true _ = none (left m) where
    none : (b : Bool) → (b && false) ≡ false
    none true = refl
    none false = refl
  below m small false is = rw (r.below m (lower (grind (arith, nat_tests)))) refl where
    lower : (m.0 ≡ k → ⊥) → m.0 < k
    lower differ = omega (arith, differ)

-- where edges lead to higher numbers
pub by_number : (edges : Edges) → ((e : Edge) → set.contains edges e ≡ true → e.source.0 < e.target.0) → (k count : ℕ) (left : NodeId → Bool) → Range left k count → Writes edges left (counting k count)
by_number edges upward k zero left r = λ m. none m (left m) refl where
  none : (m : NodeId) (b : Bool) → left m ≡ b → left m ≡ false
  none m false is = is
  none m true is =
      let not_below : m.0 < k → ⊥ = λ small. not_both is (r.below m small) in
      r.above m (omega (arith, not_below))
by_number edges upward k (suc count) left r = (
  record {
    here = r.within (node_number k) (omega arith) (omega arith);
    free = λ e stands leads. (let up : e.source.0 < e.target.0 = upward e stands in let at : e.target.0 ≡ k = ap (λ (n : NodeId). n.0) leads in r.below e.source (omega (arith, up, at)));
    lower = λ m small is. absurd (not_both is (r.below m small));
  },
  by_number edges upward (suc k) count (without left (node_number k)) (range_after left k count r),
)
