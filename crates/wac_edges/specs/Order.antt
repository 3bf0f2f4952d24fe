-- Topological order: each node is the lowest of those left to which no edge leads from one that is left.
use Rattle.std.specs.Prelude.{◌≡◌, ◌<◌, ◌≤◌, Bool, true, false, not, ◌&&◌, ◌==◌, List, [], ◌∷◌}
use Rattle.std.specs.FinSet as set
use Rattle.wac_edges.specs.declared.edges.Edge.{Edge}
use Rattle.wac_edges.specs.declared.node.NodeId.{NodeId}
use Rattle.wac_edges.specs.Edge.{edge_cmp, IsBlocked, IsFree}

-- A set of edges.
abbrev pub Edges : Type 0
Edges = set.FinSet edge_cmp

-- The node n is the lowest of those left to which no edge leads from one that is left.
pub record IsLowestReady (edges : Edges) (left : NodeId → Bool) (n : NodeId) : Type 0 where
  pub here : left n ≡ true
  pub free : IsFree edges left n
  pub lower : (m : NodeId) → m.0 < n.0 → left m ≡ true → IsBlocked edges left m

-- An edge leads to each node that is left from one that is left.
abbrev pub IsStuck : Edges → (NodeId → Bool) → Type 0
IsStuck edges left = (m : NodeId) → left m ≡ true → IsBlocked edges left m

-- No node is left.
abbrev pub IsDone : (NodeId → Bool) → Type 0
IsDone left = (m : NodeId) → left m ≡ false

-- The nodes that are left, except n.
abbrev pub without : (NodeId → Bool) → NodeId → NodeId → Bool
without left n m = left m && not (m.0 == n.0)

-- The list has the nodes that are left, each the lowest that is ready then.
abbrev pub Writes : Edges → (NodeId → Bool) → List NodeId → Type 0
Writes edges left [] = IsDone left
Writes edges left (n ∷ ns) = IsLowestReady edges left n × Writes edges (without left n) ns

-- An edge leads from a to b.
abbrev pub IsEdge : Edges → NodeId → NodeId → Type 0
IsEdge edges a b = (e : Edge) × (set.contains edges e ≡ true) × (e.source ≡ a) × (e.target ≡ b)

-- A path of edges leads from a over these nodes to b.
abbrev pub Leads : Edges → NodeId → List NodeId → NodeId → Type 0
Leads edges a [] b = IsEdge edges a b
Leads edges a (c ∷ cs) b = IsEdge edges a c × Leads edges c cs b

-- The node is on a cycle.
abbrev pub IsOnCycle : Edges → NodeId → Type 0
IsOnCycle edges n = (ns : List NodeId) × Leads edges n ns n

-- No node is on a cycle.
abbrev pub IsAcyclic : Edges → Type 0
IsAcyclic edges = (n : NodeId) → IsOnCycle edges n → ⊥

-- The node is the lowest on a cycle.
pub record IsLowestOnCycle (edges : Edges) (n : NodeId) : Type 0 where
  pub here : IsOnCycle edges n
  pub lowest : (m : NodeId) → IsOnCycle edges m → n.0 ≤ m.0
