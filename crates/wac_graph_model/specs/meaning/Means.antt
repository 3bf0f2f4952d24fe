-- When component items mean a graph: the statement that `encode` proves about its result.
--
-- `meaning` reads items back: the imports, nested components, instantiations and exports, and what each index refers to.
-- `Means` says that exactly the graph is read back, for given options.
use Rattle.std.specs.Prelude.{ℕ, suc, ◌+◌, ◌<◌, ◌≤◌, ◌≡◌, ◌↔◌, Bool, true, false, not, ◌&&◌, ◌==◌, if◌then◌else◌, List, [], ◌∷◌, ◌++◌, length, map, filter, Option, Some, None, IsSome, slice_get, codes}
use Rattle.std.specs.List.{list_any, flat_map}
use Rattle.semver.specs.Identifiers.{parts_text}
use Rattle.wac_types_shapes.specs.primitives.Name.{Name, same_name, option_case}
use Rattle.wac_types_shapes.specs.primitives.Tree.{Tree, component_item}
use Rattle.wac_types_collection.specs.collection.Bound.{Bindings, held_tree}
use Rattle.wac_types_shapes.specs.keys.Key.{Key}
use Rattle.wac_types_shapes.specs.declared.shapes.component.«Type».{«Type» as AnyType}
use Rattle.wac_types_shapes.specs.declared.shapes.component.«Type».TheVariants.{World}
use Rattle.wac_types_shapes.specs.declared.shapes.component.ItemKind.{ItemKind}
use Rattle.wac_types_shapes.specs.declared.shapes.component.ItemKind.TheVariants as item
use Rattle.wac_types_shapes.specs.declared.shapes.component.ItemKind.TheVariants.{TypeItem}
use Rattle.wac_binary.specs.declared.sorts.Sort.{Sort}
use Rattle.wac_binary.specs.declared.sorts.Sort.TheVariants as sort
use Rattle.wac_binary.specs.Items.{Item, custom, instantiate, alias_item, export_alias, import_item, export_item}
use Rattle.wac_binary.specs.Customs as custom_section
use Rattle.wac_binary.specs.Customs.{of_sort, AreRising, names_bytes, producers_bytes}
use Rattle.wac_binary.specs.Indexes.{space, indexes, sort_added}
use Rattle.wac_binary.specs.Meaning.{Thing, import_at, projection, instance_at, component_at, Instantiation, Export, meaning, stands_for}
use Rattle.wac_binary.specs.HasMeaning.{HasMeaning}
use Rattle.wac_edges.specs.declared.node.NodeId.{NodeId}
use Rattle.wac_encode_faults.specs.Trees.{definition_tree}
use Rattle.wac_graph_model.specs.declared.nodes.packages.PackageId.{PackageId}
use Rattle.wac_graph_model.specs.nodes.Graph.{Graph, GraphNode, Kind, import, instantiation, alias, node_at, package_at, imports_of, exports_of, IsAliasOf, IsArgumentOf, IsUnsatisfied, definition}
use Rattle.wac_edges.specs.Order.{Writes}
use Rattle.wac_graph_model.specs.nodes.OuterImports.{AreOuterImports, IsImportPlace, outer_bindings}
use Rattle.wac_graph_model.specs.meaning.Defined.{IsDefined}
use Rattle.wac_graph_model.specs.declared.nodes.options.EncodeOptions.{EncodeOptions}
use Rattle.wac_graph_model.specs.declared.nodes.options.Processor.{Processor}

-- The sort of an item (Binary.md, `sort`).
abbrev pub sort_of_kind : ItemKind → Sort
sort_of_kind (item.TypeItem t) = sort.«Type»
sort_of_kind (item.Func f) = sort.Func
sort_of_kind (item.Instance i) = sort.Instance
sort_of_kind (item.Component w) = sort.Component
sort_of_kind (item.Module m) = sort.CoreModule
sort_of_kind (item.Value v) = sort.Value

-- The node is an import.
abbrev pub is_import : Kind → Bool
is_import (import name) = true
is_import _ = false

-- The node is an instantiation.
abbrev pub is_instantiation : Kind → Bool
is_instantiation instantiation = true
is_instantiation _ = false

-- The node exists and passes the test.
abbrev pub node_is : Graph → (GraphNode → Bool) → NodeId → Bool
node_is g test n = option_case (node_at g n) false test

-- The node exists.
abbrev pub is_there : Graph → NodeId → Bool
is_there g = node_is g (λ node. true)

-- The node is written as an item of its own, which holds for all nodes except imports.
abbrev pub is_written : Graph → NodeId → Bool
is_written g = node_is g (λ node. not (is_import node.kind))

-- The instantiations, in the order in which nodes are written.
abbrev pub instantiations : Graph → List NodeId → List NodeId
instantiations g order = filter (node_is g (λ node. is_instantiation node.kind)) order

-- The ids are equal.
abbrev pub same_package : PackageId → PackageId → Bool
same_package p q = (p.slot == q.slot) && (p.generation == q.generation)

-- The packages, with one more at the end if it is not among them.
abbrev pub with_package : List PackageId → Option PackageId → List PackageId
with_package used None = used
with_package used (Some p) = if list_any (same_package p) used then used else used ++ p ∷ []

-- The packages, with those of these instantiations appended in order of first use.
abbrev pub used_after : Graph → List PackageId → List NodeId → List PackageId
used_after g used [] = used
used_after g used (n ∷ ns) = used_after g (with_package used (option_case (node_at g n) None (λ node. node.owner))) ns

-- The packages of all instantiations, in order of first use.
abbrev pub used_packages : Graph → List NodeId → List PackageId
used_packages g order = used_after g [] (instantiations g order)

-- The bytes of a package.
abbrev pub package_bytes : Graph → PackageId → List ℕ
package_bytes g p = option_case (package_at g p) [] (λ it. it.bytes)

-- The nested components: the bytes of the instantiated packages in order of first use, if packages are defined.
abbrev pub package_components : Graph → EncodeOptions → List NodeId → List (List ℕ)
package_components g o order = if o.define_components then map (package_bytes g) (used_packages g order) else []

-- A package's import name: `unlocked-dep=<name>` or `unlocked-dep=<name@{>=version}>` (Explainer.md, `depname`).
abbrev pub dependency_name : Key → Name
dependency_name (name, None) = codes "unlocked-dep=<" ++ name ++ codes ">"
dependency_name (name, Some version) = codes "unlocked-dep=<" ++ name ++ codes "@{>=" ++ parts_text version ++ codes "}>"

-- The import of a package: a component of the type of the package's world.
abbrev pub package_import : Graph → PackageId → List (Name × Tree)
package_import g id = option_case (package_at g id) [] (λ p. (dependency_name (p.name, p.version), component_item (held_tree g.types (λ _. None) (World p.world))) ∷ [])

-- The imports of the instantiated packages in order of first use, if packages are not defined.
abbrev pub package_imports : Graph → EncodeOptions → List NodeId → List (Name × Tree)
package_imports g o order = if o.define_components then [] else flat_map (package_import g) (used_packages g order)

-- The component of a package by its position of first use: a nested one, or an import after the graph's own imports.
abbrev pub package_thing : EncodeOptions → (imports place : ℕ) → Thing
package_thing o imports place = if o.define_components then component_at place else import_at (imports + place)

-- An argument for import e, with its sort and what its index refers to.
--
-- - A set argument: the node that was set, with the sort of its item.
-- - An unsatisfied import: the import of its name's class, with the sort of the import.
pub data IsArgument (g : Graph) (at : NodeId → Thing) (n : NodeId) (i : ℕ) (e : Name × ItemKind) : Sort → Thing → Type 0 where
  given : (source : NodeId) (node : GraphNode) → IsArgumentOf g n i source → node_at g source ≡ Some node → IsArgument g at n i e (sort_of_kind node.item_kind) (at source)
  asked : (p : ℕ) → IsUnsatisfied g n i → IsImportPlace g e.0 p → IsArgument g at n i e (sort_of_kind e.1) (import_at p)

-- There is one argument for each import of the world, in world order and under the import's name.
abbrev pub AreArguments : Graph → (NodeId → Thing) → NodeId → ℕ → List (Name × ItemKind) → List (Name × Sort × Thing) → Type 0
AreArguments g at n i [] [] = Unit {0}
AreArguments g at n i (e ∷ imports) (a ∷ arguments) = (a.0 ≡ e.0) × IsArgument g at n i e a.1 a.2 × AreArguments g at n (suc i) imports arguments
AreArguments g at n i _ _ = ⊥

-- The instantiation is node n: an instance of its package's component with its arguments.
pub record IsInstantiationOf (g : Graph) (o : EncodeOptions) (imports : ℕ) (at : NodeId → Thing) (order : List NodeId) (n : NodeId) (it : Instantiation) : Type 0 where
  pub node : GraphNode
  pub there : node_at g n ≡ Some node
  pub owner : PackageId
  pub owned : node.owner ≡ Some owner
  pub place : ℕ
  pub used : slice_get (used_packages g order) place ≡ Some owner
  pub component : it.component ≡ package_thing o imports place
  pub arguments : AreArguments g at n 0 (imports_of g node) it.arguments

-- There is one instantiation for each instantiation node, in order.
abbrev pub AreInstantiations : Graph → EncodeOptions → ℕ → (NodeId → Thing) → List NodeId → List NodeId → List Instantiation → Type 0
AreInstantiations g o imports at order [] [] = Unit {0}
AreInstantiations g o imports at order (n ∷ ns) (it ∷ its) = IsInstantiationOf g o imports at order n it × AreInstantiations g o imports at order ns its
AreInstantiations g o imports at order _ _ = ⊥

-- What a node's index refers to, depending on the node's kind.
--
-- - An import node: the import of its name's class.
-- - An instantiation: the instance at the node's position among the instantiations.
-- - A definition: a new type, or the same type as an import has it.
-- - An alias: the export of the instance's item with the alias's name.
pub data IsThing (g : Graph) (imports : List (Name × Tree)) (bindings : Bindings) (at : NodeId → Thing) (order : List NodeId) (n : NodeId) (node : GraphNode) : Type 0 where
  as_import : (name : Name) (p : ℕ) → node.kind ≡ import name → IsImportPlace g name p → at n ≡ import_at p → IsThing g imports bindings at order n node
  as_instantiation : (k : ℕ) → node.kind ≡ instantiation → slice_get (instantiations g order) k ≡ Some n → at n ≡ instance_at k → IsThing g imports bindings at order n node
  as_definition : (t : AnyType) → node.kind ≡ definition → node.item_kind ≡ TypeItem t → IsDefined imports (definition_tree g.types bindings t) (at n) → IsThing g imports bindings at order n node
  as_alias : (instance : NodeId) (source : GraphNode) (i : ℕ) (name : Name) → node.kind ≡ alias → IsAliasOf g instance i n → node_at g instance ≡ Some source → slice_get (exports_of g source) i ≡ Some (name, node.item_kind) → at n ≡ projection (at instance) name → IsThing g imports bindings at order n node

-- The name is the first export name of a definition.
abbrev pub is_first : GraphNode → Name → Bool
is_first node name = option_case node.first_name false (same_name name)

-- The item is the one that the node is written as: of an import the import, of a definition its first name's export.
abbrev pub is_own_item : GraphNode → Kind → Item → Bool
is_own_item node (import name) (import_item text d) = true
is_own_item node definition (export_item name sort.«Type» i) = is_first node name
is_own_item node instantiation (instantiate c arguments) = true
is_own_item node alias (alias_item (export_alias t i name)) = true
is_own_item node _ _ = false

-- The item at position k is the node's own and adds the node's index (Explainer.md, "Index Spaces").
pub record HasItem (items : List Item) (node : GraphNode) (index k : ℕ) : Type 0 where
  pub it : Item
  pub before : List Item
  pub after : List Item
  pub split : items ≡ before ++ it ∷ after
  pub here : length before ≡ k
  pub own : is_own_item node node.kind it ≡ true
  pub adds : sort_added it ≡ Some (sort_of_kind node.item_kind)
  pub counted : index ≡ indexes (space (sort_of_kind node.item_kind)) before

-- An export as name, sort, and what its index refers to.
abbrev pub shown : Export → Name × Sort × Thing
shown e = (e.name, e.sort, e.thing)

-- The export of a node under a name.
abbrev pub export_of : Graph → (NodeId → Thing) → Name × NodeId → List (Name × Sort × Thing)
export_of g at e = option_case (node_at g e.1) [] (λ node. (e.0, sort_of_kind node.item_kind, at e.1) ∷ [])

-- The item that exports a node under a name.
abbrev pub export_item_of : Graph → (NodeId → ℕ) → Name × NodeId → List Item
export_item_of g index e = option_case (node_at g e.1) [] (λ node. export_item e.0 (sort_of_kind node.item_kind) (index e.1) ∷ [])

-- The export of a definition under its first name.
abbrev pub first_export : Graph → (NodeId → Thing) → NodeId → List (Name × Sort × Thing)
first_export g at n = option_case (node_at g n) [] (λ node. option_case node.first_name [] (λ name. (name, sort_of_kind node.item_kind, at n) ∷ []))

-- The entry is not a definition's first export name.
abbrev pub is_further : Graph → Name × NodeId → Bool
is_further g e = not (option_case (node_at g e.1) false (λ node. is_first node e.0))

-- The exports without definitions' first names, in the graph's order.
abbrev pub further_exports : Graph → List (Name × NodeId)
further_exports g = filter (is_further g) g.exports

-- The index has this name: that of the lowest named node with the index.
pub record IsNameOf (g : Graph) (index : NodeId → ℕ) (t : Sort) (i : ℕ) (name : Name) : Type 0 where
  pub n : NodeId
  pub node : GraphNode
  pub there : node_at g n ≡ Some node
  pub named : node.name ≡ Some name
  pub sorted : sort_of_kind node.item_kind ≡ t
  pub placed : index n ≡ i
  pub lowest : (m : NodeId) (other : GraphNode) → node_at g m ≡ Some other → IsSome other.name → sort_of_kind other.item_kind ≡ t → index m ≡ i → n.0 ≤ m.0

-- The names of all indexes, each sort's in order of index (Binary.md, "Name Section").
pub record AreNames (g : Graph) (index : NodeId → ℕ) (names : List (Sort × ℕ × Name)) : Type 0 where
  pub each : (t : Sort) (i : ℕ) (name : Name) → ((k : ℕ) × (slice_get (of_sort t names) k ≡ Some (i, name))) ↔ IsNameOf g index t i name
  pub rising : AreRising names

-- The `component-name` section, if any node has a name.
abbrev pub name_customs : List (Sort × ℕ × Name) → List (Name × List ℕ)
name_customs [] = []
name_customs (e ∷ names) = (custom_section.component_name, names_bytes (e ∷ names)) ∷ []

-- The `producers` section, if a processor is given.
abbrev pub processor_customs : Option Processor → List (Name × List ℕ)
processor_customs None = []
processor_customs (Some p) = (custom_section.producers, producers_bytes p.name.now p.version.now) ∷ []

-- The custom section as an item.
abbrev pub custom_item : Name × List ℕ → Item
custom_item e = custom e.0 e.1

-- The items mean the graph, encoded with the options: `index n` is node n's index, and `at n` is what it refers to.
pub record Means (items : List Item) (g : Graph) (o : EncodeOptions) : Type 0 where
  -- The written nodes in order: each is the lowest one whose edge sources are all written or imports.
  pub order : List NodeId
  pub in_order : Writes g.edges (is_written g) order
  pub at : NodeId → Thing
  pub index : NodeId → ℕ
  -- The items are well-formed: each index exists when it is used, and no name is exported twice.
  pub meant : HasMeaning items
  -- The imports are the merged classes under their canonical names, followed by the packages that are not defined.
  pub classes : List (Name × Tree)
  pub outer : AreOuterImports g classes
  pub imports : (meaning items).imports ≡ classes ++ package_imports g o order
  -- The nested components are the bytes of the instantiated packages, in order of first use.
  pub components : (meaning items).nested_bytes ≡ package_components g o order
  -- Each instantiation node is instantiated once, in order, with exactly its arguments.
  pub instances : AreInstantiations g o (length classes) at order (instantiations g order) (meaning items).instantiations
  -- Each node's index refers to what the node is.
  pub things : (n : NodeId) (node : GraphNode) → node_at g n ≡ Some node → IsThing g classes (outer_bindings g outer.order) at order n node
  pub stand : (n : NodeId) (node : GraphNode) → node_at g n ≡ Some node → stands_for (meaning items) (sort_of_kind node.item_kind) (index n) ≡ at n
  -- The exports are exactly the graph's: definitions' first names in written order, then the rest in the graph's order.
  pub exports : map shown (meaning items).exports ≡ flat_map (first_export g at) order ++ flat_map (export_of g at) (further_exports g)
  -- Each node has an item of its own, which adds its index: an import node its import, the others in written order.
  pub place : NodeId → ℕ
  pub own_items : (n : NodeId) (node : GraphNode) → node_at g n ≡ Some node → HasItem items node (index n) (place n)
  pub in_place : (i j : ℕ) (n m : NodeId) → i < j → slice_get order i ≡ Some n → slice_get order j ≡ Some m → place n < place m
  -- The custom sections are the names of the nodes and the processor.
  pub names : List (Sort × ℕ × Name)
  pub named : AreNames g index names
  pub customs : (meaning items).customs ≡ name_customs names ++ processor_customs o.processor
  -- The exports under further names come last, followed only by the custom sections.
  pub body : List Item
  pub last : items ≡ body ++ flat_map (export_item_of g index) (further_exports g) ++ map custom_item (meaning items).customs
