-- The imports, definitions and packages of a graph of which none has a fault. Only private functions use this definition.
use Rattle.std.specs.Prelude.{ℕ, ◌≡◌, Bool, false, Some, slice_get}
use Rattle.wac_types_shapes.specs.shapes.Kinds.{kind_type}
use Rattle.wac_types_shapes.specs.declared.shapes.component.ItemKind.TheVariants.{Component}
use Rattle.wac_types_collection.specs.collection.Bound.{Bindings}
use Rattle.wac_types_collection.specs.collection.Package.{PackageParts}
use Rattle.wac_encode_faults.specs.declared.fault.WriteFault.{WriteFault}
use Rattle.wac_encode_faults.specs.Faults.{IsImportFault, IsDefinitionFault}
use Rattle.wac_edges.specs.declared.node.NodeId.{NodeId}
use Rattle.wac_graph_model.specs.nodes.Graph as graph
use Rattle.wac_graph_model.specs.nodes.Graph.{Graph, GraphNode, node_at, package_of}
use Rattle.wac_graph_model.specs.nodes.Asked.{Entry}
use Rattle.wac_graph_model.specs.nodes.Entries.{asked_entries}

-- Under these bindings of the root no import has a fault, no definition, and no package, if packages are imported.
pub record IsFaultless (g : Graph) (define_components : Bool) (m : Bindings) : Type 0 where
  pub imports : (i : ℕ) (e : Entry) (f : WriteFault) → slice_get (asked_entries g) i ≡ Some e → IsImportFault g.types m e.kind f → ⊥
  pub definitions : (n : NodeId) (node : GraphNode) (f : WriteFault) → node_at g n ≡ Some node → node.kind ≡ graph.definition → IsDefinitionFault g.types m (kind_type node.item_kind) f → ⊥
  pub packages : define_components ≡ false → (n : NodeId) (node : GraphNode) (p : PackageParts) (f : WriteFault) → node_at g n ≡ Some node → node.kind ≡ graph.instantiation → package_of g node ≡ Some p
      → IsImportFault g.types m (Component p.world) f → ⊥
