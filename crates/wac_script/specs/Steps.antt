-- What calls make of a graph.
use Rattle.std.specs.Prelude.{◌≡◌, ◌≢◌, ◌⊎◌, ◌++◌, ℕ, List, Option, Some, None, Result, Ok, codes, length, true, false}
use Rattle.hex.specs.Hex.{decode_of}
use Rattle.semver.specs.Parse.{version_parts}
use Rattle.wac_types_shapes.specs.primitives.Name.{Name}
use Rattle.wac_types_shapes.specs.keys.Key.{VersionParts}
use Rattle.wac_types_shapes.specs.shapes.Kinds.{kind_type}
use Rattle.wac_types_shapes.specs.declared.shapes.component.DefinedType.{DefinedType}
use Rattle.wac_types_shapes.specs.declared.shapes.component.FuncType.{FuncType}
use Rattle.wac_types_shapes.specs.declared.shapes.component.Interface.{Interface}
use Rattle.wac_types_shapes.specs.declared.shapes.component.ItemKind.{ItemKind}
use Rattle.wac_types_shapes.specs.declared.shapes.component.Resource.{Resource}
use Rattle.wac_types_shapes.specs.declared.shapes.component.ValueType.TheVariants as val
use Rattle.wac_types_shapes.specs.declared.shapes.component.World.{World}
use Rattle.wac_types_shapes.specs.declared.shapes.component.WorldId.{WorldId}
use Rattle.wac_types_shapes.specs.declared.shapes.core_types.CoreExtern.{CoreExtern}
use Rattle.wac_types_shapes.specs.declared.shapes.core_types.ModuleType.{ModuleType}
use Rattle.wac_types_collection.specs.collection.Collection.{Collection, with_resource, with_func, with_defined, with_interface, with_world, with_module}
use Rattle.wac_types_collection.specs.collection.Package.{PackageParts, with_instance_of, package_fault}
use Rattle.wac_edges.specs.declared.node.NodeId.{NodeId}
use Rattle.wac_graph_model.specs.declared.nodes.packages.PackageId.{PackageId}
use Rattle.wac_graph_model.specs.declared.nodes.errors.RegisterPackageError.{RegisterPackageError}
use Rattle.wac_graph_model.specs.nodes.Graph.{Graph}
use Rattle.wac_graph_model.specs.nodes.Steps.{Registers, Instantiates, Aliases, Imports, Defines, SetsArgument, Exports, SetsName}
use Rattle.wac_graph.specs.declared.plugs.errors.PlugError.{PlugError}
use Rattle.wac_graph.specs.plugs.Plugging.{PlugsAll}
use Rattle.wac_script.specs.lines.Words.{Word, spelled, HasNoPrefix}
use Rattle.wac_script.specs.declared.lines.calls.Call.{Call}
use Rattle.wac_script.specs.declared.lines.calls.Call.TheVariants as said
use Rattle.wac_script.specs.declared.lines.calls.PackageWords.{PackageWords}
use Rattle.wac_script.specs.declared.lines.calls.Change.{Change}
use Rattle.wac_script.specs.declared.lines.calls.Change.TheVariants as change
use Rattle.wac_script.specs.declared.labels.things.Thing.{Thing}
use Rattle.wac_script.specs.declared.labels.things.Thing.TheVariants as thing
use Rattle.wac_script.specs.labels.Things.{Labelling}
use Rattle.wac_script.specs.labels.Shapes.{IsShape, IsAliasOf, IsOwnedAliasOf, IsFunc}
use Rattle.wac_script.specs.labels.Items.{IsInterface, IsWorld}
use Rattle.wac_script.specs.labels.Cores.{IsModule}
use Rattle.wac_script.specs.labels.There.{IsNode, IsPackage, ArePackages, IsWorldThere, IsItemThere}

-- The graph with this collection of types.
abbrev pub with_types : Graph → Collection → Graph
with_types g types = record g { types = types }

-- The version that a word is; `_` is none.
abbrev pub IsVersion : Word → Option VersionParts → Type 0
IsVersion word None = word ≡ codes "_"
IsVersion word (Some v) = (word ≢ codes "_") × (version_parts word ≡ Ok v)

-- The bytes of a component: those after `hex:`, or else those of the file that the word names.
abbrev pub AreBytes : Word → List ℕ → List ℕ → Type 0
AreBytes word of_file bytes =
    ((digits : Word) × (word ≡ codes "hex:" ++ digits) × (decode_of digits ≡ Ok bytes))
    ⊎ (HasNoPrefix (codes "hex:") word × (bytes ≡ of_file))

-- The package of a name, a version, bytes and a world, in a collection with this many interfaces.
abbrev pub package_parts : Name → Option VersionParts → List ℕ → WorldId → ℕ → PackageParts
package_parts name version bytes world interfaces =
    record { name = name; version = version; bytes = bytes; world = world; instance_type = record { 0 = interfaces } }

-- The words of a package are this version, these bytes and this world.
abbrev pub ArePackageWords : Labelling → List ℕ → Graph → PackageWords → Option VersionParts → List ℕ → WorldId → Type 0
ArePackageWords labels of_file g p v bytes w = IsVersion p.version.now v × AreBytes p.file.now of_file bytes × IsWorldThere labels g p.world.now w

-- The call to register a package that these words say has this result. The package's instance type is there before.
abbrev pub RegistersPackage : Labelling → List ℕ → Graph → PackageWords → Result PackageId RegisterPackageError → Graph → Type 0
RegistersPackage labels of_file old p result new =
    (v : Option VersionParts) × (bytes : List ℕ) × (w : WorldId) × ArePackageWords labels of_file old p v bytes w × (package_fault old.types w ≡ None)
    × Registers (with_types old (with_instance_of old.types w)) (package_parts p.name.now v bytes w (length old.types.interfaces)) result new

-- A call that has a label, but no package, makes this thing, and this graph of the old one.
abbrev pub Adds : Labelling → List CoreExtern → Graph → Call → Thing → Graph → Type 0
Adds labels cores old (said.Shape s) (thing.Value (val.Defined id)) new =
    (d : DefinedType) × IsShape labels s d × (id.0 ≡ length old.types.defined) × (new ≡ with_types old (with_defined old.types d))
Adds labels cores old (said.Resource name) (thing.Resource id) new =
    (id.0 ≡ length old.types.resources) × (new ≡ with_types old (with_resource old.types (record { name = name.now; alias = None })))
Adds labels cores old (said.ResourceAlias name source) (thing.Resource id) new =
    (r : Resource) × IsAliasOf labels name.now source.now r × (id.0 ≡ length old.types.resources) × (new ≡ with_types old (with_resource old.types r))
Adds labels cores old (said.OwnedAlias name source owner) (thing.Resource id) new =
    (r : Resource) × IsOwnedAliasOf labels name.now source.now owner.now r × (id.0 ≡ length old.types.resources) × (new ≡ with_types old (with_resource old.types r))
Adds labels cores old (said.Func params results) (thing.Func id) new =
    (f : FuncType) × IsFunc labels (spelled params.now) (spelled results.now) false f × (id.0 ≡ length old.types.funcs) × (new ≡ with_types old (with_func old.types f))
Adds labels cores old (said.AsyncFunc params results) (thing.Func id) new =
    (f : FuncType) × IsFunc labels (spelled params.now) (spelled results.now) true f × (id.0 ≡ length old.types.funcs) × (new ≡ with_types old (with_func old.types f))
Adds labels cores old (said.Interface name items) (thing.Interface id) new =
    (i : Interface) × IsInterface labels name.now (spelled items.now) i × (id.0 ≡ length old.types.interfaces) × (new ≡ with_types old (with_interface old.types i))
Adds labels cores old (said.World imports exports) (thing.World id) new =
    (w : World) × IsWorld labels (spelled imports.now) (spelled exports.now) w × (id.0 ≡ length old.types.worlds) × (new ≡ with_types old (with_world old.types w))
Adds labels cores old (said.Module imports exports) (thing.Module id) new =
    (m : ModuleType) × IsModule labels cores (spelled imports.now) (spelled exports.now) m × (id.0 ≡ length old.types.modules) × (new ≡ with_types old (with_module old.types m))
Adds labels cores old (said.New label) (thing.Node n) new =
    (p : PackageId) × IsPackage labels old label.now p × Instantiates old p (Ok n) new
Adds labels cores old (said.Alias label exported) (thing.Node n) new =
    (instance : NodeId) × IsNode labels old label.now instance × Aliases old instance exported.now (Ok n) new
Adds labels cores old (said.Import name item) (thing.Node n) new = (k : ItemKind) × IsItemThere labels old item.now k × Imports old name.now k (Ok n) new
Adds labels cores old (said.Define name item) (thing.Node n) new = (k : ItemKind) × IsItemThere labels old item.now k × Defines old name.now (kind_type k) (Ok n) new
Adds labels cores old _ _ new = ⊥

-- A call that has a label, with the bytes of its file.
abbrev pub Makes : Labelling → List CoreExtern → List ℕ → Graph → Call → Thing → Graph → Type 0
Makes labels cores of_file old (said.Package p) (thing.Package id) new = RegistersPackage labels of_file old p (Ok id) new
Makes labels cores of_file old call t new = Adds labels cores old call t new

-- The packages of labels are plugged into that of a label, with this result.
abbrev pub PlugsIn : Labelling → Word → List Word → Graph → Result (Unit {0}) PlugError → Graph → Type 0
PlugsIn labels socket plugs old result new =
    (s : PackageId) × (ps : List PackageId) × IsPackage labels old socket s × ArePackages labels old plugs ps × PlugsAll old ps s result new

-- A call that has no label makes this graph of the old one.
abbrev pub Alters : Labelling → Graph → Change → Graph → Type 0
Alters labels old (change.Set node name argument) new =
    (n : NodeId) × (a : NodeId) × IsNode labels old node.now n × IsNode labels old argument.now a × SetsArgument old n name.now a (Ok tt) new
Alters labels old (change.Export node name) new = (n : NodeId) × IsNode labels old node.now n × Exports old n name.now (Ok tt) new
Alters labels old (change.Name node name) new = (n : NodeId) × IsNode labels old node.now n × SetsName old n name.now (Ok tt) new
Alters labels old (change.Plug socket plugs) new = PlugsIn labels socket.now (spelled plugs.now) old (Ok tt) new
