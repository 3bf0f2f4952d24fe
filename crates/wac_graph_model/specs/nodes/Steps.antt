-- The calls on a graph as steps from the old graph to the new one, with the call's result.
--
-- On an error the graph is unchanged. `OutOfMemory` may replace any other result, unless the step excludes it.
use Rattle.std.specs.Prelude.{◌≡◌, ℕ, Option, Some, None, Result, Ok, Err, IfSome, IsSome, IsSomeAnd, List, [], ◌∷◌, ◌++◌, string_bytes, length, slice_get, slice_set, ◌⊎◌, ◌==◌}
use Rattle.std.specs.FinMap as map
use Rattle.std.specs.FinSet as set
use Rattle.std.specs.declared.alloc.AllocError.{AllocError}
use Rattle.wac_names.specs.Faults.{HasFault}
use Rattle.wac_types_shapes.specs.primitives.Name.{Name}
use Rattle.wac_types_shapes.specs.shapes.Named.{named_at}
use Rattle.wac_types_collection.specs.collection.Collection.{Collection, empty}
use Rattle.wac_types_collection.specs.collection.Package.{PackageParts}
use Rattle.wac_types_collection.specs.subtyping.Subtype.{IsSubtype}
use Rattle.wac_types_shapes.specs.shapes.Words.{kind_text}
use Rattle.wac_types_shapes.specs.declared.shapes.component.ItemKind.{ItemKind}
use Rattle.wac_types_shapes.specs.declared.shapes.component.ItemKind.TheVariants.{Instance, TypeItem}
use Rattle.wac_types_shapes.specs.declared.shapes.component.«Type».{«Type» as AnyType}
use Rattle.wac_types.specs.declared.comparison.fault.TypeFault.TheVariants.{Mismatch}
use Rattle.wac_types_collection.specs.declared.collection.collection.AddTypeError.{AddTypeError}
use Rattle.wac_graph_model.specs.declared.nodes.errors.RegisterPackageError.{RegisterPackageError}
use Rattle.wac_graph_model.specs.declared.nodes.errors.RegisterPackageError.TheVariants as register
use Rattle.wac_graph_model.specs.declared.nodes.errors.AliasError.{AliasError}
use Rattle.wac_graph_model.specs.declared.nodes.errors.AliasError.TheVariants as alias_error
use Rattle.wac_graph_model.specs.declared.nodes.errors.ExportError.{ExportError}
use Rattle.wac_graph_model.specs.declared.nodes.errors.ExportError.TheVariants as export_error
use Rattle.wac_graph_model.specs.declared.nodes.errors.UnexportError.{UnexportError}
use Rattle.wac_graph_model.specs.declared.nodes.errors.UnexportError.TheVariants as unexport
use Rattle.wac_graph_model.specs.declared.nodes.errors.DefineTypeError.{DefineTypeError}
use Rattle.wac_graph_model.specs.declared.nodes.errors.DefineTypeError.TheVariants as define_error
use Rattle.wac_graph_model.specs.declared.nodes.errors.ImportError.{ImportError}
use Rattle.wac_graph_model.specs.declared.nodes.errors.ImportError.TheVariants as import_error
use Rattle.wac_graph_model.specs.declared.nodes.errors.InstantiationArgumentError.{InstantiationArgumentError}
use Rattle.wac_graph_model.specs.declared.nodes.errors.InstantiationArgumentError.TheVariants as argument_error
use Rattle.wac_edges.specs.declared.node.NodeId.{NodeId}
use Rattle.wac_graph_model.specs.declared.nodes.packages.PackageId.{PackageId}
use Rattle.wac_edges.specs.Edge.{alias_edge, argument_edge}
use Rattle.wac_graph_model.specs.nodes.ExternName.{IsImportName, IsExportName, HasExportFault}
use Rattle.wac_graph_model.specs.nodes.TakenOut.{without}
use Rattle.wac_graph_model.specs.nodes.Definitions.{definition_node, IsUndefined, IsResource, WithDependencies}
use Rattle.wac_graph_model.specs.nodes.Graph as graph
use Rattle.wac_graph_model.specs.nodes.Graph.{Graph, GraphNode, node_at, package_at, export_at, package_of, interface_of, exports_of, imports_of, IsAliasOf, IsArgumentOf, IsDefinitionOf, IsSatisfied, IsUnsatisfied, IsRegistered, IsImportOf}

-- The graph is empty: no types, nodes, edges, exports or packages, and node numbers start at 0.
abbrev pub IsEmpty : Graph → Type 0
IsEmpty g = g ≡ record { types = empty; nodes = map.empty; next = 0; edges = set.empty; exports = []; slots = []; vacant = [] }

-- Adds an item to the collection, as the last argument describes, and returns its id.
abbrev pub Adds : {Id : Type 0} → Graph → Result Id AddTypeError → Graph → (Id → Collection → Type 0) → Type 0
Adds old (Ok id) new changes = changes id new.types × (new ≡ record old { types = new.types })
Adds old (Err _) new changes = new ≡ old

-- Adds the node under the next number, which no node has.
abbrev pub AddsNode : Graph → NodeId → GraphNode → Graph → Type 0
AddsNode old id node new =
    (id.0 ≡ old.next) × (node_at old id ≡ None)
    × (new ≡ record old { nodes = map.insert old.nodes id.0 node; next = new.next })

-- The node that imports an item under a name.
abbrev pub import_node : Name → ItemKind → GraphNode
import_node name kind = record { kind = graph.import name; item_kind = kind; owner = None; name = None; export_name = None; first_name = None }

-- No node imports the name.
abbrev pub IsFreeImport : Graph → Name → Type 0
IsFreeImport g name = (n : NodeId) → IsImportOf g name n → ⊥

-- `import`: adds an import of a name that is a component name and not imported yet.
abbrev pub Imports : Graph → Name → ItemKind → Result NodeId ImportError → Graph → Type 0
Imports old name kind (Ok n) new = IsFreeImport old name × IsImportName name × AddsNode old n (import_node name kind) new
Imports old name kind (Err (import_error.ImportAlreadyExists text node)) new =
    (new ≡ old) × (string_bytes text ≡ name) × IsImportOf old name node
Imports old name kind (Err (import_error.InvalidImportName text source)) new =
    (new ≡ old) × (string_bytes text ≡ name) × IsFreeImport old name × HasFault name source
Imports old name kind (Err import_error.OutOfMemory) new = new ≡ old

-- `define_type`: adds a definition with its dependency edges, and exports it, last in order.
--
-- The checks of the type do not allocate.
abbrev pub Defines : Graph → Name → AnyType → Result NodeId DefineTypeError → Graph → Type 0
Defines old name t (Ok n) new =
    IsUndefined old t × (IsResource t → ⊥) × (export_at old name ≡ None) × IsImportName name
    × (n.0 ≡ old.next) × (node_at old n ≡ None) × WithDependencies old t n new.edges
    × (new ≡ record old {
      nodes = map.insert old.nodes n.0 (definition_node name t);
      next = new.next;
      edges = new.edges;
      exports = old.exports ++ (name, n) ∷ [];
    })
Defines old name t (Err define_error.TypeAlreadyDefined) new = (new ≡ old) × ((n : NodeId) × IsDefinitionOf old (TypeItem t) n)
Defines old name t (Err define_error.CannotDefineResource) new = (new ≡ old) × IsUndefined old t × IsResource t
Defines old name t (Err (define_error.ExportConflict text)) new =
    (new ≡ old) × (string_bytes text ≡ name) × IsUndefined old t × (IsResource t → ⊥) × IsSome (export_at old name)
Defines old name t (Err (define_error.InvalidExternName text source)) new =
    (new ≡ old) × (string_bytes text ≡ name) × IsUndefined old t × (IsResource t → ⊥) × (export_at old name ≡ None) × HasFault name source
Defines old name t (Err define_error.OutOfMemory) new = (new ≡ old) × IsUndefined old t × (IsResource t → ⊥)

-- The package takes the slot that was freed last, or a new slot after all others if none is free.
pub data TakesSlot (old : Graph) (p : PackageParts) (id : PackageId) (new : Graph) : Type 0 where
  freed : (s generation : ℕ) (rest : List ℕ) → old.vacant ≡ s ∷ rest → slice_get old.slots s ≡ Some (record { generation = generation; «package» = None })
      → id ≡ record { slot = s; generation = generation }
      → new ≡ record old { slots = slice_set old.slots s (record { generation = generation; «package» = Some p }); vacant = rest } → TakesSlot old p id new
  added : old.vacant ≡ [] → id ≡ record { slot = length old.slots; generation = 0 }
      → new ≡ record old { slots = old.slots ++ (record { generation = 0; «package» = Some p }) ∷ [] } → TakesSlot old p id new

-- `register_package`: puts the package into a slot unless its key is already registered.
abbrev pub Registers : Graph → PackageParts → Result PackageId RegisterPackageError → Graph → Type 0
Registers old p (Ok id) new =
    ((other : PackageId) → IsRegistered old (p.name, p.version) other → ⊥)
    × TakesSlot old p id new
Registers old p (Err (register.PackageAlreadyRegistered key)) new =
    (new ≡ old) × (key ≡ (p.name, p.version)) × ((other : PackageId) × IsRegistered old key other)
Registers old p (Err register.OutOfMemory) new = new ≡ old

-- The node that instantiates a package.
abbrev pub instance_node : PackageId → PackageParts → GraphNode
instance_node id p = record { kind = graph.instantiation; item_kind = Instance p.instance_type; owner = Some id; name = None; export_name = None; first_name = None }

-- `instantiate`: adds an instance of the package without arguments.
abbrev pub Instantiates : Graph → PackageId → Result NodeId AllocError → Graph → Type 0
Instantiates old id (Ok n) new = IfSome (package_at old id) (λ p. AddsNode old n (instance_node id p) new)
Instantiates old id (Err _) new = new ≡ old

-- The node that aliases an export of the source node, with the source's package.
abbrev pub alias_node : GraphNode → ItemKind → GraphNode
alias_node source kind = record { kind = graph.alias; item_kind = kind; owner = source.owner; name = None; export_name = None; first_name = None }

-- Returns the alias of this export, or adds one if there is none.
abbrev pub GivesAlias : Graph → NodeId → GraphNode → ℕ → ItemKind → NodeId → Graph → Type 0
GivesAlias old id source position kind alias new =
    (IsAliasOf old id position alias × (new ≡ old))
    ⊎ (((other : NodeId) → IsAliasOf old id position other → ⊥)
    × (alias.0 ≡ old.next) × (node_at old alias ≡ None)
    × (new ≡ record old {
      nodes = map.insert old.nodes alias.0 (alias_node source kind);
      edges = set.insert old.edges (alias_edge id alias position);
      next = new.next;
    }))

-- The position and type of the instance's export with this name.
abbrev pub export_named : Graph → GraphNode → Name → Option (ℕ × ItemKind)
export_named g n name = named_at 0 name (exports_of g n)

-- `alias_instance_export` for a node of the graph: the alias of the instance's export with this name.
abbrev pub AliasesOf : Graph → NodeId → GraphNode → Name → Result NodeId AliasError → Graph → Type 0
AliasesOf old id n name (Ok alias) new =
    IsSome (interface_of n.item_kind) × IsSomeAnd (export_named old n name) (λ e. GivesAlias old id n e.0 e.1 alias new)
AliasesOf old id n name (Err (alias_error.NodeIsNotAnInstance node kind)) new =
    (new ≡ old) × (node ≡ id) × (kind.now ≡ kind_text n.item_kind) × (interface_of n.item_kind ≡ None)
AliasesOf old id n name (Err (alias_error.InstanceMissingExport node text)) new =
    (new ≡ old) × (node ≡ id) × (string_bytes text ≡ name) × IsSome (interface_of n.item_kind) × (export_named old n name ≡ None)
AliasesOf old id n name (Err alias_error.OutOfMemory) new = new ≡ old

-- `alias_instance_export`.
abbrev pub Aliases : Graph → NodeId → Name → Result NodeId AliasError → Graph → Type 0
Aliases old id name result new = IfSome (node_at old id) (λ n. AliasesOf old id n name result new)

-- `export`: adds an export name that is valid and not used yet, last in order.
abbrev pub Exports : Graph → NodeId → Name → Result (Unit {0}) ExportError → Graph → Type 0
Exports old id name (Ok _) new =
    (export_at old name ≡ None) × IsExportName name
    × IfSome (node_at old id) (λ n. new ≡ record old {
      nodes = map.insert old.nodes id.0 (record n { export_name = Some name });
      exports = old.exports ++ (name, id) ∷ [];
    })
Exports old id name (Err (export_error.ExportAlreadyExists text node)) new =
    (new ≡ old) × (string_bytes text ≡ name) × (export_at old name ≡ Some node)
Exports old id name (Err (export_error.InvalidExportName text source)) new =
    (new ≡ old) × (string_bytes text ≡ name) × (export_at old name ≡ None) × HasExportFault name source
Exports old id name (Err export_error.OutOfMemory) new = new ≡ old

-- The position and type of the instantiation's import with this name.
abbrev pub import_named : Graph → GraphNode → Name → Option (ℕ × ItemKind)
import_named g n name = named_at 0 name (imports_of g n)

-- The argument is already set, or the import has no argument and the edge is added.
abbrev pub GivesArgument : Graph → NodeId → NodeId → ItemKind → ℕ → ItemKind → Graph → Type 0
GivesArgument old id argument given position kind new =
    (IsArgumentOf old id position argument × (new ≡ old))
    ⊎ (IsUnsatisfied old id position × IsSubtype old.types given old.types kind × (new ≡ record old { edges = set.insert old.edges (argument_edge argument id position) }))

-- `set_instantiation_argument` for nodes of the graph.
--
-- Neither an argument that is already set nor the error for a node that is no instantiation needs memory.
abbrev pub SetsOn : Graph → NodeId → GraphNode → Name → NodeId → GraphNode → Result (Unit {0}) InstantiationArgumentError → Graph → Type 0
SetsOn old id n name argument given (Ok _) new =
    (n.kind ≡ graph.instantiation) × IsSomeAnd (import_named old n name) (λ e. GivesArgument old id argument given.item_kind e.0 e.1 new)
SetsOn old id n name argument given (Err (argument_error.NodeIsNotAnInstantiation node)) new =
    (new ≡ old) × (node ≡ id) × (n.kind ≡ graph.instantiation → ⊥)
SetsOn old id n name argument given (Err (argument_error.InvalidArgumentName node text of_package)) new =
    (new ≡ old) × (node ≡ id) × (string_bytes text ≡ name) × IsSomeAnd (package_of old n) (λ p. string_bytes of_package ≡ p.name)
    × (n.kind ≡ graph.instantiation) × (import_named old n name ≡ None)
SetsOn old id n name argument given (Err (argument_error.ArgumentAlreadyPassed node text)) new =
    (new ≡ old) × (node ≡ id) × (string_bytes text ≡ name) × (n.kind ≡ graph.instantiation)
    × IsSomeAnd (import_named old n name) (λ e. (IsArgumentOf old id e.0 argument → ⊥) × IsSatisfied old id e.0)
SetsOn old id n name argument given (Err (argument_error.ArgumentTypeMismatch text source)) new =
    (new ≡ old) × (string_bytes text ≡ name) × (n.kind ≡ graph.instantiation) × (source ≡ Mismatch)
    × IsSomeAnd (import_named old n name) (λ e. IsUnsatisfied old id e.0 × (IsSubtype old.types given.item_kind old.types e.1 → ⊥))
SetsOn old id n name argument given (Err argument_error.OutOfMemory) new =
    (new ≡ old) × (n.kind ≡ graph.instantiation) × IfSome (import_named old n name) (λ e. IsArgumentOf old id e.0 argument → ⊥)

-- `set_instantiation_argument`: an argument must be a subtype of the import that it satisfies.
abbrev pub SetsArgument : Graph → NodeId → Name → NodeId → Result (Unit {0}) InstantiationArgumentError → Graph → Type 0
SetsArgument old id name argument result new =
    IfSome (node_at old id) (λ n. IfSome (node_at old argument) (λ given. SetsOn old id n name argument given result new))

-- `unset_instantiation_argument` for a node of the graph: removes the argument's edge, if it exists.
--
-- Only the strings of an `InvalidArgumentName` are allocated.
abbrev pub UnsetsOn : Graph → NodeId → GraphNode → Name → NodeId → Result (Unit {0}) InstantiationArgumentError → Graph → Type 0
UnsetsOn old id n name argument (Ok _) new =
    (n.kind ≡ graph.instantiation) × IsSomeAnd (import_named old n name) (λ e. new ≡ record old { edges = set.remove old.edges (argument_edge argument id e.0) })
UnsetsOn old id n name argument (Err (argument_error.NodeIsNotAnInstantiation node)) new =
    (new ≡ old) × (node ≡ id) × (n.kind ≡ graph.instantiation → ⊥)
UnsetsOn old id n name argument (Err (argument_error.InvalidArgumentName node text of_package)) new =
    (new ≡ old) × (node ≡ id) × (string_bytes text ≡ name) × IsSomeAnd (package_of old n) (λ p. string_bytes of_package ≡ p.name)
    × (n.kind ≡ graph.instantiation) × (import_named old n name ≡ None)
UnsetsOn old id n name argument (Err argument_error.OutOfMemory) new =
    (new ≡ old) × (n.kind ≡ graph.instantiation) × (import_named old n name ≡ None)
UnsetsOn old id n name argument (Err (argument_error.ArgumentAlreadyPassed _ _)) new = ⊥
UnsetsOn old id n name argument (Err (argument_error.ArgumentTypeMismatch _ _)) new = ⊥

-- `unset_instantiation_argument`.
abbrev pub UnsetsArgument : Graph → NodeId → Name → NodeId → Result (Unit {0}) InstantiationArgumentError → Graph → Type 0
UnsetsArgument old id name argument result new = IfSome (node_at old id) (λ n. UnsetsOn old id n name argument result new)

-- `set_node_name`: replaces the node's name.
abbrev pub SetsName : Graph → NodeId → Name → Result (Unit {0}) AllocError → Graph → Type 0
SetsName old id name (Ok _) new = IfSome (node_at old id) (λ n. new ≡ record old { nodes = map.insert old.nodes id.0 (record n { name = Some name }) })
SetsName old id name (Err _) new = new ≡ old

-- `unexport`: removes all export names of a node that is not a definition.
--
-- The entries are removed from the last to the first. Each time, the last entry of the list takes the freed place.
abbrev pub Unexports : Graph → NodeId → Result (Unit {0}) UnexportError → Graph → Type 0
Unexports old id (Ok _) new = IfSome (node_at old id) (λ n. (n.kind ≡ graph.definition → ⊥) × (new ≡ record old {
  nodes = map.insert old.nodes id.0 (record n { export_name = None });
  exports = without (λ m. m.0 == id.0) old.exports;
}))
Unexports old id (Err unexport.MustExportDefinition) new = (new ≡ old) × IfSome (node_at old id) (λ n. n.kind ≡ graph.definition)
Unexports old id (Err unexport.OutOfMemory) new = ⊥
