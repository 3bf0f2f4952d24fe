-- Why calls are refused, and what a refusal leaves of the graph.
use Rattle.std.specs.Prelude.{◌≡◌, ◌⊎◌, ℕ, List, Option, Some, None, Result, Ok, Err, true, false}
use Rattle.wac_types_shapes.specs.shapes.Kinds.{kind_type}
use Rattle.wac_types_shapes.specs.keys.Key.{VersionParts}
use Rattle.wac_types_shapes.specs.declared.shapes.component.DefinedType.{DefinedType}
use Rattle.wac_types_shapes.specs.declared.shapes.component.FuncType.{FuncType}
use Rattle.wac_types_shapes.specs.declared.shapes.component.Interface.{Interface}
use Rattle.wac_types_shapes.specs.declared.shapes.component.ItemKind.{ItemKind}
use Rattle.wac_types_shapes.specs.declared.shapes.component.Resource.{Resource}
use Rattle.wac_types_shapes.specs.declared.shapes.component.World.{World}
use Rattle.wac_types_shapes.specs.declared.shapes.component.WorldId.{WorldId}
use Rattle.wac_types_shapes.specs.declared.shapes.core_types.CoreExtern.{CoreExtern}
use Rattle.wac_types_shapes.specs.declared.shapes.core_types.ModuleType.{ModuleType}
use Rattle.wac_types_collection.specs.collection.Collection.{resource_mentions, func_mentions, defined_mentions}
use Rattle.wac_types_collection.specs.collection.Package.{package_fault}
use Rattle.wac_types_collection.specs.collection.Uses.{mention_fault, interface_fault, world_fault}
use Rattle.wac_types_collection.specs.declared.collection.collection.AddTypeError.{AddTypeError}
use Rattle.wac_types_collection.specs.declared.collection.collection.AddTypeError.TheVariants as add_type_error
use Rattle.wac_edges.specs.declared.node.NodeId.{NodeId}
use Rattle.wac_graph_model.specs.declared.nodes.packages.PackageId.{PackageId}
use Rattle.wac_graph_model.specs.nodes.Graph.{Graph}
use Rattle.wac_graph_model.specs.nodes.Steps.{Aliases, Imports, Defines, SetsArgument, Exports}
use Rattle.wac_script.specs.lines.Words.{spelled}
use Rattle.wac_script.specs.declared.lines.calls.Call.{Call}
use Rattle.wac_script.specs.declared.lines.calls.Call.TheVariants as said
use Rattle.wac_script.specs.declared.lines.calls.Change.{Change}
use Rattle.wac_script.specs.declared.lines.calls.Change.TheVariants as change
use Rattle.wac_script.specs.declared.lines.calls.PackageWords.{PackageWords}
use Rattle.wac_script.specs.declared.labels.faults.WordError.{WordError}
use Rattle.wac_script.specs.declared.labels.faults.WordError.TheVariants as word_error
use Rattle.wac_script.specs.declared.labels.things.Thing.{Thing}
use Rattle.wac_script.specs.declared.refusal.Refusal.{Refusal}
use Rattle.wac_script.specs.declared.refusal.Refusal.TheVariants as refusal
use Rattle.wac_script.specs.labels.Things.{Labelling, SayNone, SayNoSuch}
use Rattle.wac_script.specs.labels.Shapes.{IsShape, HasFieldsOnce, IsAliasOf, IsOwnedAliasOf, IsFunc, HasParamsOnce}
use Rattle.wac_script.specs.labels.Items.{IsItem, IsInterface, HasExportsOnce, IsWorld, HasItemsOnce}
use Rattle.wac_script.specs.labels.Cores.{IsModule}
use Rattle.wac_script.specs.labels.There.{IsNode, IsPackage, ArePackages, IsHeld, IsItemThere}
use Rattle.wac_script.specs.Steps.{ArePackageWords, RegistersPackage, PlugsIn, Adds, Makes, Alters}

-- The refusal of a call for an error of its words.
abbrev pub refused_by : WordError → Refusal
refused_by word_error.OutOfMemory = refusal.OutOfMemory
refused_by e = refusal.Words e

-- The collection answers an item of this fault with the error: with its fault, or for want of memory if it has none.
abbrev pub IsErrorFor : Option AddTypeError → AddTypeError → Type 0
IsErrorFor fault add_type_error.OutOfMemory = fault ≡ None
IsErrorFor fault e = fault ≡ Some e

-- What the words say is a type that cannot be added: it has this fault, and the collection's error is for that.
abbrev pub IsTypeRefused : {X : Type 0} → (X → Type 0) → (X → Option AddTypeError) → AddTypeError → Type 0
IsTypeRefused {X = X} Say fault e = (x : X) × Say x × IsErrorFor (fault x) e

-- The words of a call that has a label, but no package, stand for nothing that it takes.
abbrev pub SaysNothing : Labelling → List CoreExtern → Graph → Call → Type 0
SaysNothing labels cores g (said.Shape s) = SayNoSuch (IsShape labels s) HasFieldsOnce
SaysNothing labels cores g (said.ResourceAlias name source) = SayNone (IsAliasOf labels name.now source.now)
SaysNothing labels cores g (said.OwnedAlias name source owner) = SayNone (IsOwnedAliasOf labels name.now source.now owner.now)
SaysNothing labels cores g (said.Func params results) = SayNoSuch (IsFunc labels (spelled params.now) (spelled results.now) false) HasParamsOnce
SaysNothing labels cores g (said.AsyncFunc params results) = SayNoSuch (IsFunc labels (spelled params.now) (spelled results.now) true) HasParamsOnce
SaysNothing labels cores g (said.Interface id items) = SayNoSuch (IsInterface labels id.now (spelled items.now)) HasExportsOnce
SaysNothing labels cores g (said.World imports exports) = SayNoSuch (IsWorld labels (spelled imports.now) (spelled exports.now)) HasItemsOnce
SaysNothing labels cores g (said.Module imports exports) = SayNone (IsModule labels cores (spelled imports.now) (spelled exports.now))
SaysNothing labels cores g (said.New label) = SayNone (IsPackage labels g label.now)
SaysNothing labels cores g (said.Alias label exported) = SayNone (IsNode labels g label.now)
SaysNothing labels cores g (said.Import name item) = SayNoSuch (IsItem labels item.now) (IsHeld g)
SaysNothing labels cores g (said.Define name item) = SayNoSuch (IsItem labels item.now) (IsHeld g)
SaysNothing labels cores g _ = ⊥

-- What the call takes is refused by the graph: the step has this error, and leaves this graph.
abbrev pub IsStepRefused : Labelling → List CoreExtern → Graph → Call → Refusal → Graph → Type 0
IsStepRefused labels cores old (said.Shape s) (refusal.Type e) new =
    IsTypeRefused (IsShape labels s) (λ d. mention_fault old.types (defined_mentions d)) e × (new ≡ old)
IsStepRefused labels cores old (said.Resource name) (refusal.Type e) new =
    IsErrorFor (mention_fault old.types (resource_mentions (record { name = name.now; alias = None }))) e × (new ≡ old)
IsStepRefused labels cores old (said.ResourceAlias name source) (refusal.Type e) new =
    IsTypeRefused (IsAliasOf labels name.now source.now) (λ r. mention_fault old.types (resource_mentions r)) e × (new ≡ old)
IsStepRefused labels cores old (said.OwnedAlias name source owner) (refusal.Type e) new =
    IsTypeRefused (IsOwnedAliasOf labels name.now source.now owner.now) (λ r. mention_fault old.types (resource_mentions r)) e × (new ≡ old)
IsStepRefused labels cores old (said.Func params results) (refusal.Type e) new =
    IsTypeRefused (IsFunc labels (spelled params.now) (spelled results.now) false) (λ f. mention_fault old.types (func_mentions f)) e × (new ≡ old)
IsStepRefused labels cores old (said.AsyncFunc params results) (refusal.Type e) new =
    IsTypeRefused (IsFunc labels (spelled params.now) (spelled results.now) true) (λ f. mention_fault old.types (func_mentions f)) e × (new ≡ old)
IsStepRefused labels cores old (said.Interface id items) (refusal.Type e) new =
    IsTypeRefused (IsInterface labels id.now (spelled items.now)) (interface_fault old.types) e × (new ≡ old)
IsStepRefused labels cores old (said.World imports exports) (refusal.Type e) new =
    IsTypeRefused (IsWorld labels (spelled imports.now) (spelled exports.now)) (world_fault old.types) e × (new ≡ old)
IsStepRefused labels cores old (said.Module imports exports) (refusal.Type e) new =
    IsTypeRefused (IsModule labels cores (spelled imports.now) (spelled exports.now)) (λ m. None) e × (new ≡ old)
IsStepRefused labels cores old (said.Alias label exported) (refusal.Alias e) new =
    (instance : NodeId) × IsNode labels old label.now instance × Aliases old instance exported.now (Err e) new
IsStepRefused labels cores old (said.Import name item) (refusal.Import e) new = (k : ItemKind) × IsItemThere labels old item.now k × Imports old name.now k (Err e) new
IsStepRefused labels cores old (said.Define name item) (refusal.Define e) new = (k : ItemKind) × IsItemThere labels old item.now k × Defines old name.now (kind_type k) (Err e) new
IsStepRefused labels cores old _ _ new = ⊥

-- A call that has a label, but no package, is refused: memory runs out, its words stand for nothing, or its step has the error.
abbrev pub RefusesPlain : Labelling → List CoreExtern → Graph → Call → Refusal → Graph → Type 0
RefusesPlain labels cores old call refusal.OutOfMemory new = new ≡ old
RefusesPlain labels cores old call (refusal.Words e) new = SaysNothing labels cores old call × (new ≡ old)
RefusesPlain labels cores old call e new = IsStepRefused labels cores old call e new

-- A package is refused: the same, where the step adds the package's instance type, and then registers the package.
abbrev pub RefusesPackage : Labelling → List ℕ → Graph → PackageWords → Refusal → Graph → Type 0
RefusesPackage labels of_file old p refusal.OutOfMemory new = new ≡ old
RefusesPackage labels of_file old p (refusal.Words e) new =
    ((v : Option VersionParts) (bytes : List ℕ) (w : WorldId) → ArePackageWords labels of_file old p v bytes w → ⊥) × (new ≡ old)
RefusesPackage labels of_file old p (refusal.Type e) new =
    (v : Option VersionParts) × (bytes : List ℕ) × (w : WorldId) × ArePackageWords labels of_file old p v bytes w
    × IsErrorFor (package_fault old.types w) e × (new ≡ old)
RefusesPackage labels of_file old p (refusal.Register e) new = RegistersPackage labels of_file old p (Err e) new
RefusesPackage labels of_file old p _ new = ⊥

-- A call that has a label is refused.
abbrev pub RefusesCall : Labelling → List CoreExtern → List ℕ → Graph → Call → Refusal → Graph → Type 0
RefusesCall labels cores of_file old (said.Package p) e new = RefusesPackage labels of_file old p e new
RefusesCall labels cores of_file old call e new = RefusesPlain labels cores old call e new

-- The words of a call that has no label stand for nothing that it takes.
abbrev pub ChangesNothing : Labelling → Graph → Change → Type 0
ChangesNothing labels g (change.Set node name argument) = (n : NodeId) (a : NodeId) → IsNode labels g node.now n → IsNode labels g argument.now a → ⊥
ChangesNothing labels g (change.Export node name) = SayNone (IsNode labels g node.now)
ChangesNothing labels g (change.Name node name) = SayNone (IsNode labels g node.now)
ChangesNothing labels g (change.Plug socket plugs) =
    (s : PackageId) (ps : List PackageId) → IsPackage labels g socket.now s → ArePackages labels g (spelled plugs.now) ps → ⊥

-- What the call takes is refused by the graph: the step has this error, and leaves this graph.
abbrev pub IsChangeRefused : Labelling → Graph → Change → Refusal → Graph → Type 0
IsChangeRefused labels old (change.Set node name argument) (refusal.Argument e) new =
    (n : NodeId) × (a : NodeId) × IsNode labels old node.now n × IsNode labels old argument.now a × SetsArgument old n name.now a (Err e) new
IsChangeRefused labels old (change.Export node name) (refusal.Export e) new = (n : NodeId) × IsNode labels old node.now n × Exports old n name.now (Err e) new
IsChangeRefused labels old (change.Plug socket plugs) (refusal.Plug e) new = PlugsIn labels socket.now (spelled plugs.now) old (Err e) new
IsChangeRefused labels old _ _ new = ⊥

-- A call that has no label is refused: memory runs out, its words stand for nothing, or its step has the error.
abbrev pub RefusesChange : Labelling → Graph → Change → Refusal → Graph → Type 0
RefusesChange labels old c refusal.OutOfMemory new = new ≡ old
RefusesChange labels old c (refusal.Words e) new = ChangesNothing labels old c × (new ≡ old)
RefusesChange labels old c e new = IsChangeRefused labels old c e new

-- A call that has a label, but no package, with its result.
abbrev pub AnswersPlain : Labelling → List CoreExtern → Graph → Call → Result Thing Refusal → Graph → Type 0
AnswersPlain labels cores old call (Ok t) new = Adds labels cores old call t new
AnswersPlain labels cores old call (Err e) new = RefusesPlain labels cores old call e new

-- A call that has a label, with its result.
abbrev pub Answers : Labelling → List CoreExtern → List ℕ → Graph → Call → Result Thing Refusal → Graph → Type 0
Answers labels cores of_file old call (Ok t) new = Makes labels cores of_file old call t new
Answers labels cores of_file old call (Err e) new = RefusesCall labels cores of_file old call e new

-- A call that has no label, with its result.
abbrev pub Changes : Labelling → Graph → Change → Result (Unit {0}) Refusal → Graph → Type 0
Changes labels old c (Ok _) new = Alters labels old c new
Changes labels old c (Err e) new = RefusesChange labels old c e new
