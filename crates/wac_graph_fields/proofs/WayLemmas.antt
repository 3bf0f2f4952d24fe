-- The way along edges from a node that is taken out to where its removal stands, and what goes with the node while edges are taken.
use Rattle.std.proofs.Common.{◌≡◌, ◌≢◌, ℕ, zero, suc, ◌<◌, ◌≤◌, true, false, Bool, List, [], ◌∷◌, length, refl, ap, ◌∙◌, sym, subst, arith, eqb, ◌||◌, ◌⊎◌, inl, inr}
use Rattle.std.specs.List.{list_any, IsDistinct, AllByRecursion}
use Rattle.std.specs.FinSet as set
use Rattle.std.proofs.lemmas.Bool.{eqb-true}
use Rattle.std.proofs.lemmas.Bool.Decides.{nat_tests}
use Rattle.std.proofs.lemmas.Map.Steps.{length-le_from_distinct_below}
use Rattle.wac_edges.specs.declared.edges.Edge.{Edge}
use Rattle.wac_edges.specs.declared.node.NodeId.{NodeId}
use Rattle.wac_edges.specs.Order.{Edges}
use Rattle.wac_graph_fields.specs.Removal.{Follows, GoesWith, itself, behind}
use Rattle.wac_graph_fields.specs.private.Removing.{IsWay}

abbrev pub IsIn : Edges → Edge → Type 0
IsIn edges e = set.contains edges e ≡ true

pub by_eq : {P : Type 0} (m n : ℕ) → (m ≡ n → P) → (m ≢ n → P) → P
by_eq {P} m n same other = elim (eqb m n) as (λ b. eqb m n ≡ b → P) [ true ↦ λ e. same (eqb-true m n e) | false ↦ λ e. other (grind (arith, nat_tests)) ] refl

pub same_id : (m n : NodeId) → m.0 ≡ n.0 → m ≡ n
same_id m n e = λ j. record { 0 = e j }

pub by_node : {P : Type 0} (m n : NodeId) → (m ≡ n → P) → ((m ≡ n → ⊥) → P) → P
by_node m n same other = by_eq m.0 n.0 (λ e. same (same_id m n e)) (λ differ. other (λ e. differ (ap (λ (x : NodeId). x.0) e)))

-- ---- the way
module _ (edges : Edges) (root : NodeId) where
  -- no node is on it twice
  pub one_depth : (k l : ℕ) (x : NodeId) → IsWay edges root k x → IsWay edges root l x → k ≡ l
  one_depth zero zero x v w = refl
  one_depth zero (suc l) x v w = absurd (v.1 w.0 w.1 (w.3 ∙ v.0))
  one_depth (suc k) zero x v w = absurd (w.1 v.0 v.1 (v.3 ∙ w.0))
  one_depth (suc k) (suc l) x v w =
      let same : w.0 ≡ v.0 = v.4 w.0 w.1 w.3 in
      ap suc (one_depth k l (v.0).source v.5 (subst (λ (e : Edge). IsWay edges root l e.source) same w.5))

  -- an edge from its end leads to no node on it
  pub fresh : (j k : ℕ) (e : Edge) → IsIn edges e → IsWay edges root k e.source → IsWay edges root j e.target → j ≤ k → ⊥
  fresh zero k e stands here there small = there.1 e stands there.0
  fresh (suc i) k e stands here there small =
      let same : e ≡ there.0 = there.4 e stands refl in
      let depth : i ≡ k = one_depth i k e.source (subst (λ (x : Edge). IsWay edges root i x.source) (sym same) there.5) here in
      omega (arith, small, depth)

  -- what is on it goes with the root
  pub way_goes : (k : ℕ) (x : NodeId) → IsWay edges root k x → GoesWith edges root x
  way_goes zero x w = subst (GoesWith edges root) (sym w.0) itself
  way_goes (suc k) x w = subst (GoesWith edges root) w.3 (behind w.0 (way_goes k (w.0).source w.5) w.1 w.2)

  -- it is a way still where its edges are kept, and none is added
  pub way_kept : (now : Edges) → ((e : Edge) → IsIn now e → IsIn edges e) → (k : ℕ) (x : NodeId) → IsWay edges root k x
      → ((j : ℕ) (e : Edge) → j ≤ k → IsIn edges e → Follows e.label → ((other : Edge) → IsIn edges other → other.target ≡ e.target → other ≡ e) → IsWay edges root j e.target → IsIn now e)
      → IsWay now root k x
  way_kept now less zero x w keep = (w.0, λ e stands to. w.1 e (less e stands) to)
  way_kept now less (suc k) x w keep =
      let to : (w.0).target ≡ x = w.3 in (
        w.0,
        keep (suc k) w.0 (omega arith) w.1 w.2 (λ other stands at. w.4 other stands (at ∙ to)) (subst (IsWay edges root (suc k)) (sym to) w),
        w.2,
        to,
        λ other stands at. w.4 other (less other stands) at,
        way_kept now less k (w.0).source w.5 (λ j e small. keep j e (omega (arith, small))),
      )

  -- the numbers of the nodes on it
  abbrev numbers : (k : ℕ) (x : NodeId) → IsWay edges root k x → List ℕ
  numbers zero x w = x.0 ∷ []
  numbers (suc k) x w = x.0 ∷ numbers k (w.0).source w.5

  length-numbers : (k : ℕ) (x : NodeId) (w : IsWay edges root k x) → length (numbers k x w) ≡ suc k
  length-numbers zero x w = refl
  length-numbers (suc k) x w = ap suc (length-numbers k (w.0).source w.5)

  on_way : (k : ℕ) (x : NodeId) (w : IsWay edges root k x) (q : ℕ) → list_any (eqb q) (numbers k x w) ≡ true → (j : ℕ) × (j ≤ k) × (y : NodeId) × (y.0 ≡ q) × IsWay edges root j y
  on_way zero x w q h = split (eqb q x.0) refl h where
    split : (b : Bool) → eqb q x.0 ≡ b → (b || false) ≡ true → (j : ℕ) × (j ≤ zero) × (y : NodeId) × (y.0 ≡ q) × IsWay edges root j y
    split true is _ = (zero, omega arith, x, sym (eqb-true q x.0 is), w)
    split false is h = cc
  on_way (suc k) x w q h = split (eqb q x.0) (list_any (eqb q) (numbers k (w.0).source w.5)) refl h (on_way k (w.0).source w.5 q) where
    split : (b c : Bool) → eqb q x.0 ≡ b → (b || c) ≡ true → (c ≡ true → (j : ℕ) × (j ≤ k) × (y : NodeId) × (y.0 ≡ q) × IsWay edges root j y) → (j : ℕ) × (j ≤ suc k) × (y : NodeId) × (y.0 ≡ q) × IsWay edges root j y
    split true c is _ _ = (suc k, omega arith, x, sym (eqb-true q x.0 is), w)
    split false true is h more = let (j, small, y, same, way) = more refl in (j, omega (arith, small), y, same, way)
    split false false is h more = cc

  not_on : (k : ℕ) (x : NodeId) (w : IsWay edges root (suc k) x) (b : Bool) → list_any (eqb x.0) (numbers k (w.0).source w.5) ≡ b → b ≡ false
  not_on k x w false is = refl
  not_on k x w true is =
      let (j, small, y, same, way) = on_way k (w.0).source w.5 x.0 is in
      let depth : j ≡ suc k = one_depth j (suc k) x (subst (IsWay edges root j) (same_id y x same) way) w in
      absurd (omega (arith, small, depth))

  none_of : (q : ℕ) (xs : List ℕ) → list_any (eqb q) xs ≡ false → AllByRecursion (λ y. eqb q y ≡ false) xs
  none_of q [] h = tt
  none_of q (x ∷ xs) h = split (eqb q x) refl h (none_of q xs) where
    split : (b : Bool) → eqb q x ≡ b → (b || list_any (eqb q) xs) ≡ false → (list_any (eqb q) xs ≡ false → AllByRecursion (λ y. eqb q y ≡ false) xs) → AllByRecursion (λ y. eqb q y ≡ false) (x ∷ xs)
    split true is h more = cc
    split false is h more = (is, more h)

  distinct : (k : ℕ) (x : NodeId) (w : IsWay edges root k x) → IsDistinct eqb (numbers k x w)
  unfolding IsDistinct
  distinct zero x w = (tt, tt)
  distinct (suc k) x w = (none_of x.0 (numbers k (w.0).source w.5) (not_on k x w (list_any (eqb x.0) (numbers k (w.0).source w.5)) refl), distinct k (w.0).source w.5)

  -- it is no longer than there are numbers of nodes
  pub way_short : (n k : ℕ) (x : NodeId) → IsWay edges root k x → ((j : ℕ) (y : NodeId) → IsWay edges root j y → y.0 < n) → k < n
  way_short n k x w below =
      let few : length (numbers k x w) ≤ n = length-le_from_distinct_below (numbers k x w) n (distinct k x w) (λ q h. let (j, _, y, same, way) = on_way k x w q h in subst (λ m. m < n) same (below j y way)) in
      let count = length-numbers k x w in
      omega (arith, few, count)

-- ---- what goes
-- edges that follow are kept
pub goes_kept : (edges now : Edges) (root x : NodeId) → ((e : Edge) → IsIn edges e → Follows e.label → IsIn now e) → GoesWith edges root x → GoesWith now root x
goes_kept edges now root x keep itself = itself
goes_kept edges now root x keep (behind e from stands follows) = behind e (goes_kept edges now root e.source keep from) (keep e stands follows) follows

-- edges into a node that goes are taken
pub goes_into : (edges now : Edges) (root x node : NodeId) → GoesWith now root node → ((e : Edge) → IsIn edges e → (e.target ≡ node → ⊥) → IsIn now e) → GoesWith edges root x → GoesWith now root x
goes_into edges now root x node still keep itself = itself
goes_into edges now root x node still keep (behind e from stands follows) = by_node e.target node
    (λ same. subst (GoesWith now root) (sym same) still)
    (λ differ. behind e (goes_into edges now root e.source node still keep from) (keep e stands differ) follows)

-- the edges into a node are taken from which no edge leads
pub goes_or_is : (edges now : Edges) (root x node : NodeId) → ((e : Edge) → IsIn edges e → e.source ≡ node → ⊥) → ((e : Edge) → IsIn edges e → (e.target ≡ node → ⊥) → IsIn now e) → GoesWith edges root x → (x ≡ node) ⊎ GoesWith now root x
goes_or_is edges now root x node none keep itself = inr itself
goes_or_is edges now root x node none keep (behind e from stands follows) = split (goes_or_is edges now root e.source node none keep from) where
  split : (e.source ≡ node) ⊎ GoesWith now root e.source → (e.target ≡ node) ⊎ GoesWith now root e.target
  split (inl wrong) = absurd (none e stands wrong)
  split (inr goes) = by_node e.target node (λ same. inl same) (λ differ. inr (behind e goes (keep e stands differ) follows))

-- nothing goes with a node from which no edge leads
pub goes_alone : (edges : Edges) (root x : NodeId) → ((e : Edge) → IsIn edges e → e.source ≡ root → ⊥) → GoesWith edges root x → x ≡ root
goes_alone edges root x none itself = refl
goes_alone edges root x none (behind e from stands follows) = absurd (none e stands (goes_alone edges root e.source none from))
