-- Clones of nodes.
use Rattle.std.specs.Prelude.{ℕ, ◌≡◌}
use Rattle.wac_graph_model.specs.declared.nodes.node.Node.{Node}
use Rattle.wac_graph_model.specs.declared.nodes.node.NodeKind.{NodeKind}
use Rattle.wac_graph_model.specs.nodes.Nodes.{kind_of, node_of, satisfied}

-- The clone has the same kind, and the same import name or satisfied positions.
pub record IsKindClone (kind copy : NodeKind) : Type 0 where
  pub same : kind_of copy ≡ kind_of kind
  pub marks : (i : ℕ) → satisfied copy i ≡ satisfied kind i

-- The clone is the same node of a graph, with the same satisfied positions.
pub record IsNodeClone (node copy : Node) : Type 0 where
  pub same : node_of copy ≡ node_of node
  pub marks : (i : ℕ) → satisfied copy.kind i ≡ satisfied node.kind i
