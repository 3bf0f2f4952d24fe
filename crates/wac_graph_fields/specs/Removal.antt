-- The removal of nodes from a graph.
use Rattle.std.specs.Prelude.{◌≡◌, ◌↔◌, Bool, true, not, ◌&&◌, None, if◌then◌else◌}
use Rattle.std.specs.FinSet as set
use Rattle.wac_edges.specs.declared.edges.Edge.{Edge}
use Rattle.wac_edges.specs.declared.edges.Label.{Label}
use Rattle.wac_edges.specs.declared.edges.Label.TheVariants.{Alias, Argument, Dependency}
use Rattle.wac_edges.specs.declared.node.NodeId.{NodeId}
use Rattle.wac_edges.specs.Order.{Edges}
use Rattle.wac_graph_model.specs.nodes.Graph.{Graph, node_at}
use Rattle.wac_graph_model.specs.nodes.TakenOut.{without}

-- The target of such an edge is removed with its source: an alias or a dependent definition, but no instantiation.
abbrev pub Follows : Label → Type 0
Follows (Alias _) = Unit {0}
Follows Dependency = Unit {0}
Follows (Argument _) = ⊥

-- The node is removed with another: it is that node, or follows a removed node by an alias or dependency edge.
pub data GoesWith (edges : Edges) (id : NodeId) : NodeId → Type 0 where
  itself : GoesWith edges id id
  behind : (e : Edge) → GoesWith edges id e.source → set.contains edges e ≡ true → Follows e.label → GoesWith edges id e.target

-- The graph without these nodes and their edges; all other nodes and edges are unchanged.
pub record IsWithout (gone : NodeId → Bool) (old new : Graph) : Type 0 where
  pub types : new.types ≡ old.types
  pub nodes : (n : NodeId) → node_at new n ≡ (if gone n then None else node_at old n)
  pub edges : (e : Edge) → set.contains new.edges e ≡ (set.contains old.edges e && (not (gone e.source) && not (gone e.target)))

-- `remove_node`: removes the node and all that goes with it, with their names, edges and exports.
--
-- Exports are removed from the last to the first, and each time the last one takes the freed place.
-- The next node gets the removed node's number.
pub record Removes (old : Graph) (id : NodeId) (new : Graph) : Type 0 where
  pub gone : NodeId → Bool
  pub goes : (n : NodeId) → (gone n ≡ true) ↔ GoesWith old.edges id n
  pub rest : IsWithout gone old new
  pub exports : new.exports ≡ without gone old.exports
  pub slots : new.slots ≡ old.slots
  pub vacant : new.vacant ≡ old.vacant
  pub next : new.next ≡ id.0
