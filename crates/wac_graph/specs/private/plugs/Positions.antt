-- Exports and imports by position, and arguments that fit.
use Rattle.std.specs.Prelude.{◌≡◌, ℕ, List, [], Some, IfSome, IsSome, slice_get}
use Rattle.wac_types_shapes.specs.primitives.Name.{Name, option_case}
use Rattle.wac_types_shapes.specs.shapes.Named.{named_at}
use Rattle.wac_types_shapes.specs.declared.shapes.component.ItemKind.{ItemKind}
use Rattle.wac_types_collection.specs.collection.Collection.{interface_exports}
use Rattle.wac_types_collection.specs.subtyping.Subtype.{IsSubtype}
use Rattle.wac_edges.specs.declared.node.NodeId.{NodeId}
use Rattle.wac_graph_model.specs.declared.nodes.packages.PackageId.{PackageId}
use Rattle.wac_graph_model.specs.nodes.Graph.{Graph, node_at, package_at, interface_of}
use Rattle.wac_graph_model.specs.nodes.Steps.{import_named, export_named}
use Rattle.wac_graph.specs.plugs.Matching.{exports_of_package}

-- The node is an instance, and its export with this name has this position and type.
abbrev pub HasExport : Graph → NodeId → Name → ℕ → ItemKind → Type 0
HasExport g id name position kind = IfSome (node_at g id) (λ n. IsSome (interface_of n.item_kind) × (export_named g n name ≡ Some (position, kind)))

-- The node's import with this name has this position and type.
abbrev pub HasNamed : Graph → NodeId → Name → ℕ → ItemKind → Type 0
HasNamed g id name position kind = IfSome (node_at g id) (λ n. import_named g n name ≡ Some (position, kind))

-- The argument's type is a subtype of the import with this name, if it exists.
abbrev pub FitsImport : Graph → NodeId → Name → NodeId → Type 0
FitsImport g id name argument = IfSome (node_at g id) (λ n. IfSome (node_at g argument) (λ given. IfSome (import_named g n name) (λ e. IsSubtype g.types given.item_kind g.types e.1)))

-- The exports of a package's instances.
abbrev pub instance_exports : Graph → PackageId → List (Name × ItemKind)
instance_exports g id = option_case (package_at g id) [] (λ p. interface_exports g.types p.instance_type)

-- What the package's world exports at the one position, its instances export at the other.
abbrev pub IsInstancePosition : Graph → PackageId → ℕ → ℕ → Type 0
IsInstancePosition g id export position = (e : Name × ItemKind) → slice_get (exports_of_package g id) export ≡ Some e → named_at 0 e.0 (instance_exports g id) ≡ Some (position, e.1)
