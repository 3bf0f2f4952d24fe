-- Changes of a node's names. Only private functions use these definitions.
use Rattle.std.specs.Prelude.{◌≡◌, ℕ, Option, Some, IfSome}
use Rattle.slab.specs.Slab.{Slab, get, with_value}
use Rattle.wac_types_shapes.specs.primitives.Name.{Name}
use Rattle.wac_graph_model.specs.declared.nodes.node.Node.{Node}
use Rattle.wac_graph_model.specs.nodes.Graph.{GraphNode}
use Rattle.wac_graph_model.specs.nodes.Nodes.{node_of}

-- The node with this number is replaced by one of the same kind, whose value is changed like this.
abbrev pub Renames : (GraphNode → GraphNode) → Slab Node → Slab Node → ℕ → Type 0
Renames change old new number = IfSome (get old number) (λ n. (m : Node) × (new ≡ with_value old number m) × (m.kind ≡ n.kind) × (node_of m ≡ change (node_of n)))

-- The node with this name.
abbrev pub with_name : Name → GraphNode → GraphNode
with_name name n = record n { name = Some name }

-- The node with this latest export name, or without one.
abbrev pub with_export_name : Option Name → GraphNode → GraphNode
with_export_name name n = record n { export_name = name }
