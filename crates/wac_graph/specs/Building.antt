-- Types and packages that are built and added by one call.
use Rattle.std.specs.Prelude.{ℕ, ◌≡◌, ◌⊎◌, List, [], ◌∷◌, ◌++◌, Option, None, IsSome, Result, Ok, Err, length, string_bytes}
use Rattle.wac_types_shapes.specs.primitives.Name.{Name, find_name}
use Rattle.wac_types_shapes.specs.keys.Key.{VersionParts}
use Rattle.wac_types_shapes.specs.shapes.Named.{NoNameTwice, labelled, names_of}
use Rattle.wac_types_shapes.specs.declared.shapes.component.DefinedType.{DefinedType}
use Rattle.wac_types_shapes.specs.declared.shapes.component.DefinedType.TheVariants as def
use Rattle.wac_types_shapes.specs.declared.shapes.component.FuncType.{FuncType}
use Rattle.wac_types_shapes.specs.declared.shapes.component.Interface.{Interface}
use Rattle.wac_types_shapes.specs.declared.shapes.component.ItemKind.{ItemKind}
use Rattle.wac_types_shapes.specs.declared.shapes.component.ItemKind.TheVariants as kind
use Rattle.wac_types_shapes.specs.declared.shapes.component.ValueType.{ValueType}
use Rattle.wac_types_shapes.specs.declared.shapes.component.ValueType.TheVariants as val
use Rattle.wac_types_shapes.specs.declared.shapes.component.World.{World}
use Rattle.wac_types_shapes.specs.declared.shapes.component.WorldId.{WorldId}
use Rattle.wac_types_collection.specs.collection.Collection.{Collection, defined_mentions, func_mentions, with_defined, with_func, with_interface, with_world}
use Rattle.wac_types_collection.specs.collection.Package.{PackageParts, package_fault, with_instance_of}
use Rattle.wac_types_collection.specs.collection.Uses.{AnswersBy, interface_fault, mention_fault, world_fault}
use Rattle.wac_types_collection.specs.declared.collection.collection.AddTypeError.{AddTypeError}
use Rattle.wac_graph_model.specs.declared.nodes.packages.PackageId.{PackageId}
use Rattle.wac_graph_model.specs.nodes.Graph.{Graph}
use Rattle.wac_graph_model.specs.nodes.Steps.{Adds, Registers}
use Rattle.wac_graph.specs.declared.errors.Error.{Error}
use Rattle.wac_graph.specs.declared.errors.Error.TheVariants as error

-- The name is the first that occurs twice: no name before it does, and it is one of those before it.
pub record IsFirstTwice (names : List Name) (name : Name) : Type 0 where
  pub before : List Name
  pub after : List Name
  pub place : names ≡ before ++ name ∷ after
  pub distinct : NoNameTwice (labelled before)
  pub again : IsSome (find_name (labelled before) name)

-- An item with these names is built and added as the changes say, unless a name occurs twice or the item has the fault.
-- The result is made of its id. On an error the graph is unchanged, and a name that the error gives is the first such one.
abbrev pub AddsBuilt : {I X : Type 0} → Graph → (names : List Name) → (fault : Option AddTypeError) → (I → X) → (I → Collection → Type 0) → Result X Error → Graph → Type 0
AddsBuilt {I = I} old names fault of changes (Ok x) new = NoNameTwice (labelled names) × (fault ≡ None) × ((id : I) × (x ≡ of id) × Adds old (Ok id) new changes)
AddsBuilt old names fault of changes (Err (error.NameTwice text)) new = (new ≡ old) × IsFirstTwice names (string_bytes text)
AddsBuilt {I = I} old names fault of changes (Err (error.AddType e)) new = (new ≡ old) × NoNameTwice (labelled names) × AnswersBy {Id = I} fault (Err e)
AddsBuilt old names fault of changes (Err error.OutOfMemory) new = new ≡ old
AddsBuilt old names fault of changes (Err e) new = ⊥

-- The names in a definition: those of fields, cases or flags.
abbrev pub value_names : DefinedType → List Name
value_names (def.Record r) = names_of r.fields
value_names (def.Variant v) = names_of v.cases
value_names (def.Enum e) = e.0
value_names (def.Flags f) = f.0
value_names _ = []

-- A value type with this definition is built and added; these names are distinct.
abbrev pub AddsNamedValue : Graph → (names : List Name) → DefinedType → Result ValueType Error → Graph → Type 0
AddsNamedValue old names d = AddsBuilt old names (mention_fault old.types (defined_mentions d)) val.Defined (λ id types. (id.0 ≡ length old.types.defined) × (types ≡ with_defined old.types d))

-- A value type with this definition is built and added; its names are distinct.
abbrev pub AddsValue : Graph → DefinedType → Result ValueType Error → Graph → Type 0
AddsValue old d = AddsNamedValue old (value_names d) d

-- A function of this type is built and added; its parameters have distinct names.
abbrev pub AddsFunc : Graph → FuncType → Result ItemKind Error → Graph → Type 0
AddsFunc old f = AddsBuilt old (names_of f.params) (mention_fault old.types (func_mentions f)) kind.Func (λ id types. (id.0 ≡ length old.types.funcs) × (types ≡ with_func old.types f))

-- An instance of this interface is built and added; its exports have distinct names.
abbrev pub AddsInstance : Graph → Interface → Result ItemKind Error → Graph → Type 0
AddsInstance old i = AddsBuilt old (names_of i.exports) (interface_fault old.types i) kind.Instance (λ id types. (id.0 ≡ length old.types.interfaces) × (types ≡ with_interface old.types i))

-- The world without an id that uses no type, and imports and exports these.
abbrev pub plain_world : List (Name × ItemKind) → List (Name × ItemKind) → World
plain_world imports exports = record { id = None; uses = []; imports = imports; exports = exports }

-- That world is added.
abbrev pub AddsWorld : Graph → List (Name × ItemKind) → List (Name × ItemKind) → Result WorldId AddTypeError → Graph → Type 0
AddsWorld old imports exports r new = Adds old r new (λ id types. (id.0 ≡ length old.types.worlds) × (types ≡ with_world old.types (plain_world imports exports)))

-- No name occurs twice among the imports, and none among the exports.
abbrev pub HaveDistinctNames : (imports exports : List (Name × ItemKind)) → Type 0
HaveDistinctNames imports exports = NoNameTwice imports × NoNameTwice exports

-- A package of that world is made, with this name, version and bytes.
pub record MakesPackage (old : Graph) (name : Name) (version : Option VersionParts) (bytes : List ℕ) (imports exports : List (Name × ItemKind)) (p : PackageParts) (new : Graph) : Type 0 where
  pub world : WorldId
  pub between : Graph
  pub distinct : HaveDistinctNames imports exports
  pub world_added : AddsWorld old imports exports (Ok world) between
  pub instance_added : Adds between (Ok p) new (λ _ types. types ≡ with_instance_of between.types world)
  pub parts : p ≡ record { name = name; version = version; bytes = bytes; world = world; instance_type = record { 0 = length between.types.interfaces } }

-- `add_package`: the package is made and registered, unless a name occurs twice.
-- On an error the types that were added before it remain.
abbrev pub AddsPackage : Graph → Name → Option VersionParts → List ℕ → List (Name × ItemKind) → List (Name × ItemKind) → Result PackageId Error → Graph → Type 0
AddsPackage old name version bytes imports exports (Ok id) new =
    (p : PackageParts) × (made : Graph) × MakesPackage old name version bytes imports exports p made × Registers made p (Ok id) new
AddsPackage old name version bytes imports exports (Err (error.RegisterPackage e)) new =
    (p : PackageParts) × (made : Graph) × MakesPackage old name version bytes imports exports p made × Registers made p (Err e) new
AddsPackage old name version bytes imports exports (Err (error.NameTwice text)) new =
    (new ≡ old)
    × (IsFirstTwice (names_of imports) (string_bytes text)
    ⊎ (NoNameTwice (labelled (names_of imports)) × IsFirstTwice (names_of exports) (string_bytes text)))
AddsPackage old name version bytes imports exports (Err error.OutOfMemory) new = new ≡ old
AddsPackage old name version bytes imports exports (Err (error.AddType e)) new =
    HaveDistinctNames imports exports
    × ((AddsWorld old imports exports (Err e) new × AnswersBy {Id = WorldId} (world_fault old.types (plain_world imports exports)) (Err e))
    ⊎ ((world : WorldId) × AddsWorld old imports exports (Ok world) new × AnswersBy {Id = PackageParts} (package_fault new.types world) (Err e)))
AddsPackage old name version bytes imports exports (Err e) new = ⊥
