-- Nodes and edges during a removal. Only private functions use these definitions.
use Rattle.std.specs.Prelude.{◌≡◌, ◌⊎◌, ℕ, zero, suc, true, None, IsSome}
use Rattle.std.specs.Option.{option_map}
use Rattle.std.specs.FinSet as set
use Rattle.slab.specs.Slab.{Slab, get}
use Rattle.wac_edges.specs.declared.edges.Edge.{Edge}
use Rattle.wac_edges.specs.declared.node.NodeId.{NodeId}
use Rattle.wac_edges.specs.Edge.{argument_edge}
use Rattle.wac_edges.specs.Order.{Edges}
use Rattle.wac_graph_model.specs.declared.nodes.node.Node.{Node}
use Rattle.wac_graph_model.specs.nodes.Nodes.{node_of, satisfied_at, IsInstantiationAt}
use Rattle.wac_graph_fields.specs.Removal.{Follows}

-- Edges join existing nodes, and the satisfied positions are exactly those with an argument, at most one each.
pub record AreTied (nodes : Slab Node) (edges : Edges) : Type 0 where
  pub ends : (e : Edge) → set.contains edges e ≡ true → IsSome (get nodes e.source.0) × IsSome (get nodes e.target.0)
  pub consumers : (source target : NodeId) (position : ℕ) → set.contains edges (argument_edge source target position) ≡ true → IsInstantiationAt (get nodes target.0)
  pub one_argument : (source other target : NodeId) (position : ℕ) → set.contains edges (argument_edge source target position) ≡ true → set.contains edges (argument_edge other target position) ≡ true → source ≡ other
  pub marked : (source target : NodeId) (position : ℕ) → set.contains edges (argument_edge source target position) ≡ true → satisfied_at (get nodes target.0) position ≡ true
  pub edged : (target : NodeId) (position : ℕ) → satisfied_at (get nodes target.0) position ≡ true → (source : NodeId) × (set.contains edges (argument_edge source target position) ≡ true)

-- The nodes that go, and only edges at them, are removed. All other nodes are unchanged.
pub record AreTaken (Goes : NodeId → Type 0) (nodes : Slab Node) (edges : Edges) (nodes' : Slab Node) (edges' : Edges) : Type 0 where
  pub gone : (n : NodeId) → Goes n → get nodes' n.0 ≡ None
  pub others : (n : NodeId) → (option_map node_of (get nodes' n.0) ≡ option_map node_of (get nodes n.0)) ⊎ ((get nodes' n.0 ≡ None) × Goes n)
  pub less : (e : Edge) → set.contains edges' e ≡ true → set.contains edges e ≡ true
  pub taken : (e : Edge) → set.contains edges e ≡ true → (set.contains edges' e ≡ true) ⊎ (Goes e.source ⊎ Goes e.target)

-- A path of k edges leads from the root to here, and no other edge leads to a node of the path.
abbrev pub IsWay : Edges → NodeId → ℕ → NodeId → Type 0
IsWay edges root zero here = (here ≡ root) × ((e : Edge) → set.contains edges e ≡ true → e.target ≡ root → ⊥)
IsWay edges root (suc k) here =
    (e : Edge) × (set.contains edges e ≡ true) × Follows e.label × (e.target ≡ here)
    × ((other : Edge) → set.contains edges other ≡ true → other.target ≡ here → other ≡ e) × IsWay edges root k e.source
