-- What a call that only adds leaves in a graph.
use Rattle.std.specs.Prelude.{◌≡◌, ◌⊎◌, ℕ, Some, true, Result, Ok, Err}
use Rattle.std.specs.FinSet as set
use Rattle.wac_types_shapes.specs.primitives.Name.{Name}
use Rattle.wac_types_collection.specs.collection.Collection.{item_at}
use Rattle.wac_types_collection.specs.collection.Package.{PackageParts}
use Rattle.wac_types_shapes.specs.declared.shapes.component.Interface.{Interface}
use Rattle.wac_types_shapes.specs.declared.shapes.component.ItemKind.{ItemKind}
use Rattle.wac_types_shapes.specs.declared.shapes.component.World.{World}
use Rattle.wac_edges.specs.declared.edges.Edge.{Edge}
use Rattle.wac_edges.specs.declared.node.NodeId.{NodeId}
use Rattle.wac_graph_model.specs.declared.nodes.packages.PackageId.{PackageId}
use Rattle.wac_graph_model.specs.nodes.Graph.{Graph, GraphNode, node_at, package_at, IsAliasOf, IsArgumentOf}
use Rattle.wac_graph_model.specs.nodes.Steps.{export_named, import_named}

-- Every node, edge, package, interface and world of the old graph is in the new one.
pub record Stays (old new : Graph) : Type 0 where
  pub nodes : (n : NodeId) (node : GraphNode) → node_at old n ≡ Some node → node_at new n ≡ Some node
  pub edges : (e : Edge) → set.contains old.edges e ≡ true → set.contains new.edges e ≡ true
  pub packages : (id : PackageId) (p : PackageParts) → package_at old id ≡ Some p → package_at new id ≡ Some p
  pub interfaces : (i : ℕ) (interface : Interface) → item_at old.types.interfaces i ≡ Some interface → item_at new.types.interfaces i ≡ Some interface
  pub worlds : (i : ℕ) (world : World) → item_at old.types.worlds i ≡ Some world → item_at new.types.worlds i ≡ Some world

-- The node is the alias of the instance's export with this name.
abbrev pub IsAliasBy : Graph → NodeId → Name → NodeId → Type 0
IsAliasBy g instance name node = (n : GraphNode) × (e : ℕ × ItemKind) × (node_at g instance ≡ Some n) × (export_named g n name ≡ Some e) × IsAliasOf g instance e.0 node

-- The node is the argument for the instantiation's import with this name.
abbrev pub IsArgumentBy : Graph → NodeId → Name → NodeId → Type 0
IsArgumentBy g consumer name node = (n : GraphNode) × (e : ℕ × ItemKind) × (node_at g consumer ≡ Some n) × (import_named g n name ≡ Some e) × IsArgumentOf g consumer e.0 node

-- Nothing changes, and the result is this one or that memory ran out.
abbrev pub GivesAgain : {X E : Type 0} → Graph → X → E → Result X E → Graph → Type 0
GivesAgain old x lack r new = (new ≡ old) × ((r ≡ Ok x) ⊎ (r ≡ Err lack))
