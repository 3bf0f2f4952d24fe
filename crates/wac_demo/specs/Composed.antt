-- The compositions.
use Rattle.std.specs.Prelude.{◌≡◌, ℕ, List, [], ◌∷◌, Some, None, IsSomeAnd, true, false, codes, ◌⊎◌}
use Rattle.wac_types_shapes.specs.primitives.Name.{Name}
use Rattle.wac_types_shapes.specs.declared.shapes.component.DefinedType.TheVariants as def
use Rattle.wac_types_shapes.specs.declared.shapes.component.DefinedTypeId.{DefinedTypeId}
use Rattle.wac_types_shapes.specs.declared.shapes.component.InterfaceId.{InterfaceId}
use Rattle.wac_types_shapes.specs.declared.shapes.component.ResourceId.{ResourceId}
use Rattle.wac_types_shapes.specs.declared.shapes.component.«Type».TheVariants as ty
use Rattle.wac_types_shapes.specs.declared.shapes.component.UsedType.{UsedType}
use Rattle.wac_types_shapes.specs.declared.shapes.component.ValueType.TheVariants as val
use Rattle.wac_types_collection.specs.collection.Collection.{Collection, item_at, world_imports, world_exports}
use Rattle.wac_types_collection.specs.collection.Package.{PackageParts}
use Rattle.wac_types_shapes.specs.declared.shapes.component.ItemKind.{ItemKind}
use Rattle.wac_types_shapes.specs.declared.shapes.component.ItemKind.TheVariants as kind
use Rattle.wac_binary.specs.Items.{Item}
use Rattle.wac_binary.specs.Bytes.{preamble, bytes_of}
use Rattle.wac_edges.specs.declared.node.NodeId.{NodeId}
use Rattle.wac_edges.specs.Order.{IsLowestOnCycle}
use Rattle.wac_graph_model.specs.declared.nodes.options.EncodeOptions.{EncodeOptions}
use Rattle.wac_graph_model.specs.declared.nodes.packages.PackageId.{PackageId}
use Rattle.wac_graph_model.specs.nodes.Graph.{Graph, import, node_at, package_at, export_at}
use Rattle.wac_graph_model.specs.nodes.Options.{default_options}
use Rattle.wac_graph_model.specs.nodes.Definitions.{definition_node}
use Rattle.wac_graph_model.specs.meaning.Means.{Means}
use Rattle.wac_graph_model.specs.nodes.Steps.{IsEmpty, instance_node}
use Rattle.wac_graph_model.specs.nodes.Stays.{IsAliasBy, IsArgumentBy}
use Rattle.wac_graph_model.specs.declared.causes.errors.EncodeError.{EncodeError}
use Rattle.wac_graph_model.specs.declared.causes.errors.EncodeError.TheVariants as error

-- The bytes are those of items that mean such a graph, encoded with such options.
abbrev pub Compose : List ℕ → (EncodeOptions → Type 0) → (Graph → Type 0) → Type 0
Compose bytes O P = (items : List Item) × (options : EncodeOptions) × (graph : Graph) × (bytes ≡ bytes_of items) × O options × Means items graph options × P graph

-- The options are the default ones.
abbrev pub AreDefault : EncodeOptions → Type 0
AreDefault options = options ≡ default_options

-- The options are the default ones with a processor of this name and version.
abbrev pub NameProcessor : Name → Name → EncodeOptions → Type 0
NameProcessor name version options =
    (options.define_components ≡ true) × (options.validate ≡ true) × IsSomeAnd options.processor (λ p. (p.name.now ≡ name) × (p.version.now ≡ version))

-- The node is an instance of a package with this name.
abbrev pub IsInstanceOf : Graph → Name → NodeId → Type 0
IsInstanceOf g name n = (id : PackageId) × (p : PackageParts) × (node_at g n ≡ Some (instance_node id p)) × (package_at g id ≡ Some p) × (p.name ≡ name)

-- An export of an instance of the first package is the argument for an import of an instance of the second.
abbrev pub GivesExport : Graph → Name → Name → Name → Name → Type 0
GivesExport g first exported second imported =
    (giver : NodeId) × (given : NodeId) × (taker : NodeId)
    × IsInstanceOf g first giver × IsAliasBy g giver exported given × IsInstanceOf g second taker × IsArgumentBy g taker imported given

-- The composition `readme`: `a` of `my:package1` is the argument `b` of `my:package2`.
abbrev pub IsReadme : Graph → Type 0
IsReadme g = GivesExport g (codes "my:package1") (codes "a") (codes "my:package2") (codes "b")

-- A plug's export is the argument of the same name of a socket, and the socket's export is exported.
abbrev pub IsPluggedInto : Graph → Name → Name → Name → Name → Type 0
IsPluggedInto g plug given_name socket passed_name =
    (giver : NodeId) × (given : NodeId) × (taker : NodeId) × (passed : NodeId)
    × IsInstanceOf g plug giver × IsAliasBy g giver given_name given × IsInstanceOf g socket taker × IsArgumentBy g taker given_name given
    × IsAliasBy g taker passed_name passed × (export_at g passed_name ≡ Some passed)

-- The composition `plug`: `a` of `my:plug` is the argument `a` of `my:socket`, whose `run` is exported.
abbrev pub IsPlugged : Graph → Type 0
IsPlugged g = IsPluggedInto g (codes "my:plug") (codes "a") (codes "my:socket") (codes "run")

-- The composition `precedence`: the same with `my:first` in place of `my:plug`.
abbrev pub IsPrecedence : Graph → Type 0
IsPrecedence g = IsPluggedInto g (codes "my:first") (codes "a") (codes "my:socket") (codes "run")

-- The package has this name and no version, these imports and exports, and the bytes of an empty component.
abbrev pub HasPackageParts : Collection → PackageParts → Name → List (Name × ItemKind) → List (Name × ItemKind) → Type 0
HasPackageParts types p name imports exports =
    (p.name ≡ name) × (p.version ≡ None) × (p.bytes ≡ preamble) × (world_imports types p.world ≡ imports) × (world_exports types p.world ≡ exports)

-- The same for the package with an id.
abbrev pub IsEmptyPackage : Graph → PackageId → Name → List (Name × ItemKind) → List (Name × ItemKind) → Type 0
IsEmptyPackage g id name imports exports = IsSomeAnd (package_at g id) (λ p. HasPackageParts g.types p name imports exports)

-- The item is a function without parameters and result.
abbrev pub IsPlainFunction : Collection → ItemKind → Type 0
IsPlainFunction types (kind.Func f) = item_at types.funcs f.0 ≡ Some (record { params = []; result = None; is_async = false })
IsPlainFunction types _ = ⊥

-- A function without parameters and result is imported and exported under these names, and its node has this name.
abbrev pub PassesFunction : Graph → Name → Name → Name → Type 0
PassesFunction g imported exported name =
    (n : NodeId) × IsSomeAnd (node_at g n) (λ node. (node.kind ≡ import imported) × IsPlainFunction g.types node.item_kind × (node.name ≡ Some name)) × (export_at g exported ≡ Some n)

-- The composition `function`: the import `x` is exported as `y`, and its node is named `n`.
abbrev pub IsFunction : Graph → Type 0
IsFunction g = PassesFunction g (codes "x") (codes "y") (codes "n")

-- The item is a function that takes this resource as its own under this name, and has no result.
abbrev pub TakesResource : Collection → ResourceId → Name → ItemKind → Type 0
TakesResource types r name (kind.Func f) = item_at types.funcs f.0 ≡ Some (record { params = (name, val.Own r) ∷ []; result = None; is_async = false })
TakesResource types r name _ = ⊥

-- The interface with this number has this id, these used types and these exports.
abbrev pub IsInterfaceOf : Collection → InterfaceId → Name → List (Name × UsedType) → List (Name × ItemKind) → Type 0
IsInterfaceOf types i id uses exports = IsSomeAnd (item_at types.interfaces i.0) (λ it. (it.id ≡ Some id) × (it.uses ≡ uses) × (it.exports ≡ exports))

-- The composition `resource`: the interface `n:p/i` is imported. It exports a resource `r` and a function `f` that takes one as `x`.
abbrev pub IsResourceImport : Graph → Type 0
IsResourceImport g =
    (n : NodeId) × (i : InterfaceId) × (r : ResourceId) × (f : ItemKind)
    × IsSomeAnd (node_at g n) (λ node. (node.kind ≡ import (codes "n:p/i")) × (node.item_kind ≡ kind.Instance i))
    × IsInterfaceOf g.types i (codes "n:p/i") [] ((codes "r", kind.TypeItem (ty.Resource r)) ∷ (codes "f", f) ∷ [])
    × (item_at g.types.resources r.0 ≡ Some (record { name = codes "r"; alias = None }))
    × TakesResource g.types r (codes "x") f

-- The item is this defined type.
abbrev pub item_of : DefinedTypeId → ItemKind
item_of t = kind.TypeItem (ty.Value (val.Defined t))

-- The composition `dependency`: the interface `n:p/i` is defined as `d`. It uses and exports the enum `t` of `n:p/j`, which has the case `a`.
-- `n:p/j` also exports a function `g`.
abbrev pub IsUserDefinition : Graph → Type 0
IsUserDefinition g =
    (n : NodeId) × (i : InterfaceId) × (j : InterfaceId) × (t : DefinedTypeId) × (f : ItemKind)
    × (node_at g n ≡ Some (definition_node (codes "d") (ty.Interface i)))
    × IsInterfaceOf g.types i (codes "n:p/i") ((codes "t", record { interface = j; name = None }) ∷ []) ((codes "t", item_of t) ∷ [])
    × IsInterfaceOf g.types j (codes "n:p/j") [] ((codes "t", item_of t) ∷ (codes "g", f) ∷ [])
    × (item_at g.types.defined t.0 ≡ Some (def.Enum (record { 0 = codes "a" ∷ [] })))
    × IsPlainFunction g.types f

-- An instance of the package is its own argument for this import.
abbrev pub IsItsOwnArgument : Graph → Name → Name → Type 0
IsItsOwnArgument g name imported = (n : NodeId) × IsInstanceOf g name n × IsArgumentBy g n imported n

-- The composition `cycle`: an instance of `my:package` is its own argument `i`.
abbrev pub IsCycle : Graph → Type 0
IsCycle g = IsItsOwnArgument g (codes "my:package") (codes "i")

-- The error names the lowest node on a cycle, or memory ran out.
abbrev pub RefusesCycle : Graph → EncodeError → Type 0
RefusesCycle g e = ((n : NodeId) × IsLowestOnCycle g.edges n × (e ≡ error.GraphContainsCycle n)) ⊎ (e ≡ error.OutOfMemory)

-- The words of the compositions.
abbrev pub empty_word : List ℕ
empty_word = codes "empty"

abbrev pub readme_word : List ℕ
readme_word = codes "readme"

abbrev pub plug_word : List ℕ
plug_word = codes "plug"

abbrev pub processor_word : List ℕ
processor_word = codes "processor"

abbrev pub cycle_word : List ℕ
cycle_word = codes "cycle"

abbrev pub function_word : List ℕ
function_word = codes "function"

abbrev pub resource_word : List ℕ
resource_word = codes "resource"

abbrev pub dependency_word : List ℕ
dependency_word = codes "dependency"

abbrev pub precedence_word : List ℕ
precedence_word = codes "precedence"

-- The word has a composition.
abbrev pub IsWord : List ℕ → Type 0
IsWord word = (word ≡ empty_word) ⊎ ((word ≡ processor_word) ⊎ ((word ≡ function_word) ⊎ ((word ≡ readme_word) ⊎ ((word ≡ cycle_word) ⊎ ((word ≡ plug_word) ⊎ ((word ≡ resource_word) ⊎ ((word ≡ dependency_word) ⊎ (word ≡ precedence_word))))))))

-- The bytes are those of the word's composition, if its line alone is printed; `cycle` has none.
pub data IsComposed (word bytes : List ℕ) : Type 0 where
  of_empty : word ≡ empty_word → Compose bytes AreDefault IsEmpty → IsComposed word bytes
  of_processor : word ≡ processor_word → Compose bytes (NameProcessor (codes "x") (codes "1")) IsEmpty → IsComposed word bytes
  of_function : word ≡ function_word → Compose bytes AreDefault IsFunction → IsComposed word bytes
  of_readme : word ≡ readme_word → Compose bytes AreDefault IsReadme → IsComposed word bytes
  of_plug : word ≡ plug_word → Compose bytes AreDefault IsPlugged → IsComposed word bytes
  of_resource : word ≡ resource_word → Compose bytes AreDefault IsResourceImport → IsComposed word bytes
  of_dependency : word ≡ dependency_word → Compose bytes AreDefault IsUserDefinition → IsComposed word bytes
