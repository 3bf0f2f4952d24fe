-- The value of a graph that contracts speak of.
--
-- It has a collection of types, numbered nodes, a set of edges, exports in order and packages in slots.
use Rattle.std.specs.Prelude.{◌≡◌, ℕ, true, List, [], Option, Some, None, slice_get, if◌then◌else◌, ◌==◌, IsSomeAnd}
use Rattle.std.specs.Option.{option_and_then}
use Rattle.std.specs.Ordering.{nat_cmp}
use Rattle.std.specs.FinMap as map
use Rattle.std.specs.FinSet as set
use Rattle.wac_types_shapes.specs.primitives.Name.{Name, find_name}
use Rattle.wac_types_collection.specs.collection.Collection.{Collection, interface_exports, world_imports}
use Rattle.wac_types_collection.specs.collection.Package.{PackageParts}
use Rattle.wac_types_shapes.specs.keys.Key.{Key}
use Rattle.wac_types_shapes.specs.declared.shapes.component.InterfaceId.{InterfaceId}
use Rattle.wac_types_shapes.specs.declared.shapes.component.ItemKind.{ItemKind}
use Rattle.wac_types_shapes.specs.declared.shapes.component.ItemKind.TheVariants.{Instance}
use Rattle.wac_edges.specs.declared.node.NodeId.{NodeId}
use Rattle.wac_graph_model.specs.declared.nodes.packages.PackageId.{PackageId}
use Rattle.wac_graph_model.specs.declared.nodes.packages.Slot.{Slot}
use Rattle.wac_edges.specs.Edge.{edge_cmp, alias_edge, argument_edge}

-- The kind of a node; the arguments of an instantiation are not part of it, because the edges give them.
pub data Kind : Type 0 where
  definition : Kind
  import : Name → Kind
  instantiation : Kind
  alias : Kind

-- A node: its kind, the item it provides, its package and its names.
pub record GraphNode : Type 0 where
  pub kind : Kind
  pub item_kind : ItemKind
  pub owner : Option PackageId
  pub name : Option Name
  -- The latest export name.
  pub export_name : Option Name
  -- The first export name of a definition.
  pub first_name : Option Name

-- A graph: its types, nodes, edges, exports and package slots.
pub record Graph : Type 0 where
  pub types : Collection
  pub nodes : map.FinMap nat_cmp GraphNode
  -- The number that the next node gets.
  pub next : ℕ
  pub edges : set.FinSet edge_cmp
  pub exports : List (Name × NodeId)
  pub slots : List Slot
  -- The free slots that may be used again, the one freed last at the head.
  pub vacant : List ℕ

-- The node with this number.
abbrev pub node_at : Graph → NodeId → Option GraphNode
node_at g n = map.get g.nodes n.0

-- The node that is exported under the name.
abbrev pub export_at : Graph → Name → Option NodeId
export_at g name = find_name g.exports name

-- The name of an import node.
abbrev pub import_name : Kind → Option Name
import_name definition = None
import_name (import name) = Some name
import_name instantiation = None
import_name alias = None

-- The node is an import with this name.
abbrev pub IsImportOf : Graph → Name → NodeId → Type 0
IsImportOf g name n = IsSomeAnd (node_at g n) (λ node. node.kind ≡ import name)

-- The node is the definition of this type.
abbrev pub IsDefinitionOf : Graph → ItemKind → NodeId → Type 0
IsDefinitionOf g kind n = IsSomeAnd (node_at g n) (λ node. (node.kind ≡ definition) × (node.item_kind ≡ kind))

-- The package in the slot, if the id has the slot's generation.
abbrev pub package_in : Option Slot → PackageId → Option PackageParts
package_in None id = None
package_in (Some slot) id = if slot.generation == id.generation then slot.«package» else None

-- The package with this id.
abbrev pub package_at : Graph → PackageId → Option PackageParts
package_at g id = package_in (slice_get g.slots id.slot) id

-- The package of the node: the one that it instantiates, or that of an alias's source.
abbrev pub package_of : Graph → GraphNode → Option PackageParts
package_of g n = option_and_then (package_at g) n.owner

-- The interface of an instance.
abbrev pub interface_of : ItemKind → Option InterfaceId
interface_of (Instance i) = Some i
interface_of _ = None

-- The exports of an instance.
abbrev pub exports_of : Graph → GraphNode → List (Name × ItemKind)
exports_of g n = of_interface (interface_of n.item_kind)
  where
    of_interface : Option InterfaceId → List (Name × ItemKind)
    of_interface None = []
    of_interface (Some i) = interface_exports g.types i

-- The imports of the instantiated package's world.
abbrev pub imports_of : Graph → GraphNode → List (Name × ItemKind)
imports_of g n = of_package (package_of g n)
  where
    of_package : Option PackageParts → List (Name × ItemKind)
    of_package None = []
    of_package (Some p) = world_imports g.types p.world

-- The node is the alias of the instance's export at this position.
abbrev pub IsAliasOf : Graph → NodeId → ℕ → NodeId → Type 0
IsAliasOf g instance position node = set.contains g.edges (alias_edge instance node position) ≡ true

-- The node is the alias of the instance's export with this name.
abbrev pub IsSourceOf : Graph → NodeId → NodeId → Name → Type 0
IsSourceOf g node instance name =
    (source : GraphNode) × (position : ℕ) × (kind : ItemKind)
    × (node_at g instance ≡ Some source) × (slice_get (exports_of g source) position ≡ Some (name, kind)) × IsAliasOf g instance position node

-- The node is the argument for the instantiation's import at this position.
abbrev pub IsArgumentOf : Graph → NodeId → ℕ → NodeId → Type 0
IsArgumentOf g consumer position node = set.contains g.edges (argument_edge node consumer position) ≡ true

-- An argument satisfies the instantiation's import at this position.
abbrev pub IsSatisfied : Graph → NodeId → ℕ → Type 0
IsSatisfied g consumer position = (node : NodeId) × IsArgumentOf g consumer position node

-- No argument satisfies the instantiation's import at this position.
abbrev pub IsUnsatisfied : Graph → NodeId → ℕ → Type 0
IsUnsatisfied g consumer position = (node : NodeId) → IsArgumentOf g consumer position node → ⊥

-- A package with this key is registered under the id.
abbrev pub IsRegistered : Graph → Key → PackageId → Type 0
IsRegistered g key id = (p : PackageParts) × (package_at g id ≡ Some p) × ((p.name, p.version) ≡ key)
