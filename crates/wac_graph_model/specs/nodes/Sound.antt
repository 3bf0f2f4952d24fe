-- The invariant of graphs: what holds of every graph that a caller can have.
use Rattle.std.specs.Prelude.{ℕ, ◌≡◌, true, Some, None, IsSome, IsSomeAnd, slice_get}
use Rattle.std.specs.FinSet as set
use Rattle.wac_types_shapes.specs.primitives.Name.{Name}
use Rattle.wac_types_collection.specs.collection.Package.{PackageParts, HoldsPackage}
use Rattle.wac_types_shapes.specs.keys.Key.{Key}
use Rattle.wac_types_collection.specs.collection.Collection.{holds_type}
use Rattle.wac_types_collection.specs.subtyping.Subtype.{IsSubtype}
use Rattle.wac_types_shapes.specs.shapes.Kinds.{kind_type}
use Rattle.wac_types_shapes.specs.declared.shapes.component.ItemKind.{ItemKind}
use Rattle.wac_types_shapes.specs.declared.shapes.component.ItemKind.TheVariants.{Instance, TypeItem}
use Rattle.wac_types_shapes.specs.declared.shapes.component.«Type».{«Type» as AnyType}
use Rattle.wac_edges.specs.declared.edges.Edge.{Edge}
use Rattle.wac_edges.specs.declared.edges.Label.{Label}
use Rattle.wac_edges.specs.declared.edges.Label.TheVariants.{Alias, Argument, Dependency}
use Rattle.wac_edges.specs.declared.node.NodeId.{NodeId}
use Rattle.wac_graph_model.specs.declared.nodes.packages.PackageId.{PackageId}
use Rattle.wac_graph_model.specs.nodes.Definitions.{IsResource}
use Rattle.wac_graph_model.specs.nodes.Graph.{Graph, GraphNode, definition, instantiation, alias, node_at, package_at, exports_of, imports_of, IsAliasOf, IsArgumentOf, IsImportOf, IsDefinitionOf, IsRegistered, export_at}

-- The node is an instance of a registered package.
pub record IsInstance (g : Graph) (node : GraphNode) : Type 0 where
  pub id : PackageId
  pub parts : PackageParts
  pub owned : node.owner ≡ Some id
  pub registered : package_at g id ≡ Some parts
  pub typed : node.item_kind ≡ Instance parts.instance_type

-- The node is the alias of an instance's export and has the instance's package.
pub record IsAlias (g : Graph) (n : NodeId) (node : GraphNode) : Type 0 where
  pub instance : NodeId
  pub source : GraphNode
  pub position : ℕ
  pub name : Name
  pub aliased : IsAliasOf g instance position n
  pub there : node_at g instance ≡ Some source
  pub exported : slice_get (exports_of g source) position ≡ Some (name, node.item_kind)
  pub owned : node.owner ≡ source.owner

-- The node defines a type, which is no resource, and has a first export name.
pub record IsTypeUnderName (node : GraphNode) : Type 0 where
  pub defined : AnyType
  pub name : Name
  pub typed : node.item_kind ≡ TypeItem defined
  pub no_resource : IsResource defined → ⊥
  pub named : node.first_name ≡ Some name

-- The nodes fit the edge's label; no label fits an edge into an import.
--
-- - Alias: an instance, and an alias with the type of its export at this position.
-- - Argument: an item that is a subtype of the instantiation's import at this position.
-- - Dependency: two definitions.
abbrev pub Joins : Graph → Label → GraphNode → GraphNode → Type 0
Joins g (Alias i) source target = (target.kind ≡ alias) × IsSomeAnd (slice_get (exports_of g source) i) (λ e. target.item_kind ≡ e.1)
Joins g (Argument i) source target = (target.kind ≡ instantiation) × IsSomeAnd (slice_get (imports_of g target) i) (λ e. IsSubtype g.types source.item_kind g.types e.1)
Joins g Dependency source target = (source.kind ≡ definition) × (target.kind ≡ definition)

-- The invariant.
pub record IsSound (g : Graph) : Type 0 where
  -- Both ends of an edge are nodes that fit its label.
  pub ends : (e : Edge) → set.contains g.edges e ≡ true → IsSome (node_at g e.source) × IsSome (node_at g e.target)
  pub joins : (e : Edge) (source target : GraphNode) → set.contains g.edges e ≡ true → node_at g e.source ≡ Some source → node_at g e.target ≡ Some target → Joins g e.label source target
  -- Exported nodes exist, and the types of nodes and packages are of the collection.
  pub exported : (i : ℕ) (name : Name) (n : NodeId) → slice_get g.exports i ≡ Some (name, n) → IsSome (node_at g n)
  pub held : (n : NodeId) (node : GraphNode) → node_at g n ≡ Some node → holds_type g.types (kind_type node.item_kind) ≡ true
  pub packages : (id : PackageId) (p : PackageParts) → package_at g id ≡ Some p → HoldsPackage g.types p
  -- The package of an instantiation is registered, and the source of an alias exists.
  pub instances : (n : NodeId) (node : GraphNode) → node_at g n ≡ Some node → node.kind ≡ instantiation → IsInstance g node
  pub aliases : (n : NodeId) (node : GraphNode) → node_at g n ≡ Some node → node.kind ≡ alias → IsAlias g n node
  -- An import of an instantiation has at most one argument.
  pub one_argument : (consumer : NodeId) (position : ℕ) (n other : NodeId) → IsArgumentOf g consumer position n → IsArgumentOf g consumer position other → n ≡ other
  -- An export of an instance has at most one alias, and an alias has one source.
  pub one_alias : (instance : NodeId) (position : ℕ) (n other : NodeId) → IsAliasOf g instance position n → IsAliasOf g instance position other → n ≡ other
  pub one_source : (n instance other : NodeId) (i j : ℕ) → IsAliasOf g instance i n → IsAliasOf g other j n → (instance ≡ other) × (i ≡ j)
  -- A name has at most one import node, and a type at most one definition.
  pub one_import : (name : Name) (n other : NodeId) → IsImportOf g name n → IsImportOf g name other → n ≡ other
  pub one_definition : (kind : ItemKind) (n other : NodeId) → IsDefinitionOf g kind n → IsDefinitionOf g kind other → n ≡ other
  -- A name is exported at most once.
  pub one_export : (name : Name) (i j : ℕ) (n other : NodeId) → slice_get g.exports i ≡ Some (name, n) → slice_get g.exports j ≡ Some (name, other) → i ≡ j
  -- Only a definition has a first export name, and it is exported under it.
  pub first_names : (n : NodeId) (node : GraphNode) (name : Name) → node_at g n ≡ Some node → node.first_name ≡ Some name → (node.kind ≡ definition) × (export_at g name ≡ Some n)
  -- A definition has a type, which is no resource, and a first export name.
  pub definitions : (n : NodeId) (node : GraphNode) → node_at g n ≡ Some node → node.kind ≡ definition → IsTypeUnderName node
  -- A key belongs to at most one registered package.
  pub one_package : (key : Key) (id other : PackageId) → IsRegistered g key id → IsRegistered g key other → id ≡ other
  -- A free slot exists, has no package, and is noted once.
  pub vacant : (i s : ℕ) → slice_get g.vacant i ≡ Some s → IsSomeAnd (slice_get g.slots s) (λ slot. slot.«package» ≡ None)
  pub vacant_once : (i j s : ℕ) → slice_get g.vacant i ≡ Some s → slice_get g.vacant j ≡ Some s → i ≡ j
