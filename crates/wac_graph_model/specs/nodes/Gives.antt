-- What a graph has under an id.
use Rattle.std.specs.Prelude.{ℕ, ◌≡◌, true, Some, IsSome}
use Rattle.wac_types_collection.specs.collection.Package.{PackageParts}
use Rattle.wac_graph_model.specs.declared.nodes.node.Node.{Node}
use Rattle.wac_edges.specs.declared.node.NodeId.{NodeId}
use Rattle.wac_graph_model.specs.declared.nodes.packages.PackageId.{PackageId}
use Rattle.wac_graph_model.specs.nodes.Graph.{Graph, node_at, package_at, IsSatisfied}
use Rattle.wac_graph_model.specs.nodes.Nodes.{node_of, satisfied}

-- The id is that of a node.
abbrev pub HasNode : Graph → NodeId → Type 0
HasNode g id = IsSome (node_at g id)

-- The stored node is the node of the graph, and its positions are those of the satisfied imports.
pub record GivesNode (g : Graph) (id : NodeId) (node : Node) : Type 0 where
  pub there : node_at g id ≡ Some (node_of node)
  pub set : (i : ℕ) → satisfied node.kind i ≡ true → IsSatisfied g id i
  pub only : (i : ℕ) → IsSatisfied g id i → satisfied node.kind i ≡ true

-- The id is that of a registered package.
abbrev pub HasPackage : Graph → PackageId → Type 0
HasPackage g id = IsSome (package_at g id)

-- The package is registered under the id.
abbrev pub GivesPackage : Graph → PackageId → PackageParts → Type 0
GivesPackage g id p = package_at g id ≡ Some p
