-- The nodes to which edges of a list lead. No public contract cites this.
use Rattle.std.specs.Prelude.{◌≡◌, List, Contains}
use Rattle.wac_edges.specs.declared.edges.Edge.{Edge}
use Rattle.wac_edges.specs.declared.node.NodeId.{NodeId}

-- An edge of the list leads to b.
abbrev pub LeadsTo : List Edge → NodeId → Type 0
LeadsTo es b = (e : Edge) × Contains es e × (e.target ≡ b)
