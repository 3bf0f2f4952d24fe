-- Imports of instantiations by name, and the nodes that fit them. Only private functions use these definitions.
use Rattle.std.specs.Prelude.{◌≡◌, ℕ, Some, IfSome, IsSomeAnd}
use Rattle.wac_types_shapes.specs.primitives.Name.{Name}
use Rattle.wac_types_collection.specs.subtyping.Subtype.{IsSubtype}
use Rattle.wac_types_shapes.specs.declared.shapes.component.ItemKind.{ItemKind}
use Rattle.wac_edges.specs.declared.node.NodeId.{NodeId}
use Rattle.wac_edges.specs.declared.edges.Label.TheVariants.{Argument}
use Rattle.wac_graph_model.specs.nodes.Graph.{Graph, GraphNode, node_at, instantiation, IsUnsatisfied}
use Rattle.wac_graph_model.specs.nodes.Sound.{Joins}
use Rattle.wac_graph_model.specs.nodes.Steps.{import_named}

-- The node is an instantiation.
abbrev pub IsInstantiation : Graph → NodeId → Type 0
IsInstantiation g id = IsSomeAnd (node_at g id) (λ n. n.kind ≡ instantiation)

-- The node is an instantiation, and its import with this name has this position and type.
abbrev pub HasImport : Graph → NodeId → Name → ℕ → ItemKind → Type 0
HasImport g id name position kind = IsSomeAnd (node_at g id) (λ n. (n.kind ≡ instantiation) × (import_named g n name ≡ Some (position, kind)))

-- The import is unsatisfied, and the argument's type is a subtype of the import's.
abbrev pub Fits : Graph → NodeId → ℕ → ItemKind → NodeId → Type 0
Fits g id position kind argument = IsUnsatisfied g id position × IfSome (node_at g argument) (λ given. IsSubtype g.types given.item_kind g.types kind)

-- The import is unsatisfied, and an edge from the node to it fits.
pub record CanBeGiven (g : Graph) (id : NodeId) (position : ℕ) (argument : NodeId) : Type 0 where
  pub given : GraphNode
  pub consumer : GraphNode
  pub there : node_at g argument ≡ Some given
  pub here : node_at g id ≡ Some consumer
  pub joins : Joins g (Argument position) given consumer
  pub unset : IsUnsatisfied g id position
