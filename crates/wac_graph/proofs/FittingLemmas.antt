-- What fits the import of a name fits it where it is.
use Rattle.std.proofs.Common.{◌≡◌, ℕ, subst, Option, Some, None, IfSome, IsSomeAnd}
use Rattle.wac_types_shapes.specs.primitives.Name.{Name}
use Rattle.wac_types_shapes.specs.declared.shapes.component.ItemKind.{ItemKind}
use Rattle.wac_types_collection.specs.subtyping.Subtype.{IsSubtype}
use Rattle.wac_edges.specs.declared.node.NodeId.{NodeId}
use Rattle.wac_graph_model.specs.nodes.Graph as graph
use Rattle.wac_graph_model.specs.nodes.Graph.{Graph, GraphNode, node_at, IsUnsatisfied}
use Rattle.wac_graph_model.specs.nodes.Steps.{import_named}
use Rattle.wac_graph_fields.specs.private.Arguments.{HasImport, Fits}
use Rattle.wac_graph.specs.private.plugs.Positions.{FitsImport}

pub fits_named : (g : Graph) (id argument : NodeId) (name : Name) (position : ℕ) (kind : ItemKind) → HasImport g id name position kind → IsUnsatisfied g id position → FitsImport g id name argument → Fits g id position kind argument
fits_named g id argument name position kind import unset fits = split (node_at g id) import fits where
  split : (o : Option GraphNode) → IsSomeAnd o (λ m. (m.kind ≡ graph.instantiation) × (import_named g m name ≡ Some (position, kind)))
      → IfSome o (λ n. IfSome (node_at g argument) (λ given. IfSome (import_named g n name) (λ e. IsSubtype g.types given.item_kind g.types e.1))) → Fits g id position kind argument
  split None h f = absurd h
  split (Some n) h f = (unset, subst (λ o. IfSome (node_at g argument) (λ given. IfSome o (λ e. IsSubtype g.types given.item_kind g.types e.1))) h.1 f)
