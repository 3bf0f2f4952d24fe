-- Types and packages that are built and added by one call.
use Rattle.std.proofs.Common.{◌≡◌, ℕ, Bool, true, false, if◌then◌else◌, List, [], ◌∷◌, ◌++◌, length, Option, Some, None, Result, Ok, Err, refl, sym, subst, inl, inr}
use Rattle.std.specs.Result.{IsErrAnd}
use Rattle.wac_types_shapes.specs.primitives.Name.{Name, find_name, same_name}
use Rattle.wac_types_shapes.specs.keys.Key.{VersionParts}
use Rattle.wac_types_shapes.specs.shapes.Named.{NoNameTwice, labelled, names_of}
use Rattle.wac_types_shapes.specs.declared.shapes.component.DefinedType.{DefinedType}
use Rattle.wac_types_shapes.specs.declared.shapes.component.FuncType.{FuncType}
use Rattle.wac_types_shapes.specs.declared.shapes.component.FuncTypeId.{FuncTypeId}
use Rattle.wac_types_shapes.specs.declared.shapes.component.Interface.{Interface}
use Rattle.wac_types_shapes.specs.declared.shapes.component.InterfaceId.{InterfaceId}
use Rattle.wac_types_shapes.specs.declared.shapes.component.ItemKind.{ItemKind}
use Rattle.wac_types_shapes.specs.declared.shapes.component.ItemKind.TheVariants as kind
use Rattle.wac_types_shapes.specs.declared.shapes.component.UsedType.{UsedType}
use Rattle.wac_types_shapes.specs.declared.shapes.component.ValueType.{ValueType}
use Rattle.wac_types_shapes.specs.declared.shapes.component.ValueType.TheVariants as val
use Rattle.wac_types_shapes.specs.declared.shapes.component.World.{World}
use Rattle.wac_types_shapes.specs.declared.shapes.component.WorldId.{WorldId}
use Rattle.wac_types_collection.specs.collection.Collection.{Collection, defined_mentions, func_mentions, with_defined, with_func, with_interface, with_world}
use Rattle.wac_types_collection.specs.collection.Package.{PackageParts, package_fault}
use Rattle.wac_types_collection.specs.collection.Uses.{AnswersBy, interface_fault, mention_fault, world_fault}
use Rattle.wac_types_collection.specs.declared.collection.collection.AddTypeError.{AddTypeError}
use Rattle.wac_graph_model.specs.declared.nodes.errors.RegisterPackageError.{RegisterPackageError}
use Rattle.wac_graph_model.specs.declared.nodes.packages.PackageId.{PackageId}
use Rattle.wac_graph_model.specs.nodes.Graph.{Graph}
use Rattle.wac_graph_model.specs.nodes.Steps.{Adds, Registers}
use Rattle.wac_graph_model.specs.nodes.Valid.{KeepsValid}
use Rattle.wac_graph.specs.declared.errors.Error.{Error}
use Rattle.wac_graph.specs.declared.errors.Error.TheVariants as error
use Rattle.wac_graph.specs.Building.{AddsBuilt, AddsFunc, AddsInstance, AddsNamedValue, AddsPackage, AddsValue, AddsWorld, HaveDistinctNames, IsFirstTwice, MakesPackage, plain_world, value_names}
use Rattle.wac_graph.specs.private.Twice.{IsNameError, IsSideError}

pub valid-trans : (a b c : Graph) → KeepsValid a b → KeepsValid b c → KeepsValid a c
valid-trans a b c x y = record {
  nodes = λ n h. y.nodes n (x.nodes n h);
  packages = λ id h. y.packages id (x.packages id h);
  types = λ t h. y.types t (x.types t h);
  made = λ p h. y.made p (x.made p h);
  resources = λ i h. y.resources i (x.resources i h);
  funcs = λ i h. y.funcs i (x.funcs i h);
  defined = λ i h. y.defined i (x.defined i h);
  interfaces = λ i h. y.interfaces i (x.interfaces i h);
  worlds = λ i h. y.worlds i (x.worlds i h);
  modules = λ i h. y.modules i (x.modules i h);
}

-- what is built

pub interface-is : (i : Interface) (id : Option Name) (uses : List (Name × UsedType)) (exports : List (Name × ItemKind)) → (i.id ≡ id) × (i.uses ≡ uses) × (i.exports ≡ exports) → i ≡ record { id = id; uses = uses; exports = exports }
interface-is i id uses exports h = λ j. record { id = h.0 j; uses = h.1 j; exports = h.2 j }

pub world-is : (w : World) (imports exports : List (Name × ItemKind)) → (w.id ≡ None) × (w.uses ≡ []) × (w.imports ≡ imports) × (w.exports ≡ exports) → w ≡ plain_world imports exports
world-is w imports exports h = λ j. record { id = h.0 j; uses = h.1 j; imports = h.2 j; exports = h.3 j }

pub world-added : (old new : Graph) (w : World) (imports exports : List (Name × ItemKind)) (world : WorldId) → w ≡ plain_world imports exports → Adds old (Ok world) new (λ id types. (id.0 ≡ length old.types.worlds) × (types ≡ with_world old.types w)) → AddsWorld old imports exports (Ok world) new
world-added old new w imports exports world is h = subst (λ (x : World). Adds old (Ok world) new (λ id types. (id.0 ≡ length old.types.worlds) × (types ≡ with_world old.types x))) is h

pub world-fault : (old : Graph) (w : World) (imports exports : List (Name × ItemKind)) (f : AddTypeError) → w ≡ plain_world imports exports → AnswersBy {Id = WorldId} (world_fault old.types w) (Err f) → AnswersBy {Id = WorldId} (world_fault old.types (plain_world imports exports)) (Err f)
world-fault old w imports exports f is h = subst (λ (x : World). AnswersBy {Id = WorldId} (world_fault old.types x) (Err f)) is h

-- names

nothing-twice : (name : Name) → IsFirstTwice [] name → ⊥
nothing-twice name h = none h.before h.place
  where
    none : (before : List Name) → [] ≡ before ++ name ∷ h.after → ⊥
    none [] e = cc
    none (n ∷ ns) e = cc

not-labelled : {V : Type 0} (es : List (Name × V)) (n : Name) → find_name es n ≡ None → find_name (labelled (names_of es)) n ≡ None
not-labelled [] n h = refl
not-labelled (e ∷ es) n h = split (same_name n e.0) h (λ w. not-labelled es n w)
  where
    split : (b : Bool) → (if b then Some e.1 else find_name es n) ≡ None → (find_name es n ≡ None → find_name (labelled (names_of es)) n ≡ None) → (if b then Some tt else find_name (labelled (names_of es)) n) ≡ None
    split true w more = absurd (cc)
    split false w more = more w

pub distinct : {V : Type 0} (es : List (Name × V)) → NoNameTwice es → NoNameTwice (labelled (names_of es))
distinct [] h = tt
distinct (e ∷ es) h = (not-labelled es e.0 h.0, distinct es h.1)

-- a type

module _ {I X : Type 0} (old new : Graph) (names : List Name) (fault : Option AddTypeError) (of : I → X) (changes : I → Collection → Type 0) where
  pub name-fails : (e : Error) → IsNameError names e → new ≡ old → AddsBuilt old names fault of changes (Err e) new
  name-fails (error.NameTwice text) h same = (same, h)
  name-fails (error.Shape f) h same = absurd h
  name-fails (error.AddType f) h same = absurd h
  name-fails (error.RegisterPackage f) h same = absurd h
  name-fails (error.Import f) h same = absurd h
  name-fails (error.DefineType f) h same = absurd h
  name-fails (error.Alias f) h same = absurd h
  name-fails (error.Export f) h same = absurd h
  name-fails (error.Unexport f) h same = absurd h
  name-fails (error.Argument f) h same = absurd h
  name-fails (error.Plug f) h same = absurd h
  name-fails (error.Encode f) h same = absurd h
  name-fails error.OutOfMemory h same = same

  pub memory-fails : (r : Result X Error) → IsErrAnd r (λ e. e ≡ error.OutOfMemory) → new ≡ old → AddsBuilt old names fault of changes r new
  memory-fails (Ok x) h same = absurd h
  memory-fails (Err e) h same = subst (λ z. AddsBuilt old names fault of changes (Err z) new) (sym h) same

  pub add-fails : (f : AddTypeError) (r : Result X Error) → IsErrAnd r (λ e. e ≡ error.AddType f) → NoNameTwice (labelled names) → new ≡ old → AnswersBy {Id = I} fault (Err f) → AddsBuilt old names fault of changes r new
  add-fails f (Ok x) h distinct same answers = absurd h
  add-fails f (Err e) h distinct same answers = subst (λ z. AddsBuilt old names fault of changes (Err z) new) (sym h) (same, distinct, answers)

  pub with-names : (r : Result X Error) → NoNameTwice (labelled names) → AddsBuilt old [] fault of changes r new → AddsBuilt old names fault of changes r new
  with-names (Ok x) distinct h = (distinct, h.1, h.2)
  with-names (Err (error.NameTwice text)) distinct h = absurd (nothing-twice _ h.1)
  with-names (Err (error.Shape f)) distinct h = absurd h
  with-names (Err (error.AddType f)) distinct h = (h.0, distinct, h.2)
  with-names (Err (error.RegisterPackage f)) distinct h = absurd h
  with-names (Err (error.Import f)) distinct h = absurd h
  with-names (Err (error.DefineType f)) distinct h = absurd h
  with-names (Err (error.Alias f)) distinct h = absurd h
  with-names (Err (error.Export f)) distinct h = absurd h
  with-names (Err (error.Unexport f)) distinct h = absurd h
  with-names (Err (error.Argument f)) distinct h = absurd h
  with-names (Err (error.Plug f)) distinct h = absurd h
  with-names (Err (error.Encode f)) distinct h = absurd h
  with-names (Err error.OutOfMemory) distinct h = h

-- the calls that are refused before anything is added

pub value-refused : (old : Graph) (d : DefinedType) (e : Error) → IsNameError (value_names d) e → AddsValue old d (Err e) old
value-refused old d e h = name-fails old old (value_names d) (mention_fault old.types (defined_mentions d)) val.Defined (λ id types. (id.0 ≡ length old.types.defined) × (types ≡ with_defined old.types d)) e h refl

pub value-memory : (old : Graph) (d : DefinedType) (r : Result ValueType Error) → IsErrAnd r (λ e. e ≡ error.OutOfMemory) → AddsValue old d r old
value-memory old d r h = memory-fails old old (value_names d) (mention_fault old.types (defined_mentions d)) val.Defined (λ id types. (id.0 ≡ length old.types.defined) × (types ≡ with_defined old.types d)) r h refl

pub func-refused : (old : Graph) (f : FuncType) (e : Error) → IsNameError (names_of f.params) e → AddsFunc old f (Err e) old
func-refused old f e h = name-fails old old (names_of f.params) (mention_fault old.types (func_mentions f)) kind.Func (λ id types. (id.0 ≡ length old.types.funcs) × (types ≡ with_func old.types f)) e h refl

pub instance-refused : (old : Graph) (i : Interface) (e : Error) → IsNameError (names_of i.exports) e → AddsInstance old i (Err e) old
instance-refused old i e h = name-fails old old (names_of i.exports) (interface_fault old.types i) kind.Instance (λ id types. (id.0 ≡ length old.types.interfaces) × (types ≡ with_interface old.types i)) e h refl

-- what is built and added

pub built-value : (old new : Graph) (made wanted : DefinedType) (r : Result ValueType Error) → made ≡ wanted → NoNameTwice (labelled (value_names wanted)) → AddsNamedValue old [] made r new → AddsValue old wanted r new
built-value old new made wanted r same names h = subst (λ (d : DefinedType). AddsNamedValue old (value_names wanted) d r new) same (with-names old new (value_names wanted) (mention_fault old.types (defined_mentions made)) val.Defined (λ id types. (id.0 ≡ length old.types.defined) × (types ≡ with_defined old.types made)) r names h)

module _ (old new : Graph) (made wanted : FuncType) (same : made ≡ wanted) (names : NoNameTwice (labelled (names_of wanted.params))) where
  pub func-added : (id : FuncTypeId) → AnswersBy {Id = FuncTypeId} (mention_fault old.types (func_mentions made)) (Ok id)
      → Adds old (Ok id) new (λ i types. (i.0 ≡ length old.types.funcs) × (types ≡ with_func old.types made)) → AddsFunc old wanted (Ok (kind.Func id)) new
  func-added id answers added = (
    names,
    subst (λ (f : FuncType). mention_fault old.types (func_mentions f) ≡ None) same answers,
    (id, refl, subst (λ (f : FuncType). Adds old (Ok id) new (λ i types. (i.0 ≡ length old.types.funcs) × (types ≡ with_func old.types f))) same added),
  )

  pub func-fails : (f : AddTypeError) (r : Result ItemKind Error) → IsErrAnd r (λ e. e ≡ error.AddType f) → new ≡ old → AnswersBy {Id = FuncTypeId} (mention_fault old.types (func_mentions made)) (Err f) → AddsFunc old wanted r new
  func-fails f r h unchanged answers = add-fails old new (names_of wanted.params) (mention_fault old.types (func_mentions wanted)) kind.Func (λ i types. (i.0 ≡ length old.types.funcs) × (types ≡ with_func old.types wanted)) f r h names unchanged
      (subst (λ (x : FuncType). AnswersBy {Id = FuncTypeId} (mention_fault old.types (func_mentions x)) (Err f)) same answers)

module _ (old new : Graph) (made wanted : Interface) (same : made ≡ wanted) (names : NoNameTwice (labelled (names_of wanted.exports))) where
  pub instance-added : (id : InterfaceId) → AnswersBy {Id = InterfaceId} (interface_fault old.types made) (Ok id)
      → Adds old (Ok id) new (λ i types. (i.0 ≡ length old.types.interfaces) × (types ≡ with_interface old.types made)) → AddsInstance old wanted (Ok (kind.Instance id)) new
  instance-added id answers added = (
    names,
    subst (λ (i : Interface). interface_fault old.types i ≡ None) same answers,
    (id, refl, subst (λ (x : Interface). Adds old (Ok id) new (λ i types. (i.0 ≡ length old.types.interfaces) × (types ≡ with_interface old.types x))) same added),
  )

  pub instance-fails : (f : AddTypeError) (r : Result ItemKind Error) → IsErrAnd r (λ e. e ≡ error.AddType f) → new ≡ old → AnswersBy {Id = InterfaceId} (interface_fault old.types made) (Err f) → AddsInstance old wanted r new
  instance-fails f r h unchanged answers = add-fails old new (names_of wanted.exports) (interface_fault old.types wanted) kind.Instance (λ i types. (i.0 ≡ length old.types.interfaces) × (types ≡ with_interface old.types wanted)) f r h names unchanged
      (subst (λ (x : Interface). AnswersBy {Id = InterfaceId} (interface_fault old.types x) (Err f)) same answers)

-- a package

module _ (old : Graph) (name : Name) (version : Option VersionParts) (bytes : List ℕ) (imports exports : List (Name × ItemKind)) where
  pub package-names : (e : Error) → IsSideError (names_of imports) (names_of exports) e → AddsPackage old name version bytes imports exports (Err e) old
  package-names (error.NameTwice text) h = (refl, h)
  package-names (error.Shape f) h = absurd h
  package-names (error.AddType f) h = absurd h
  package-names (error.RegisterPackage f) h = absurd h
  package-names (error.Import f) h = absurd h
  package-names (error.DefineType f) h = absurd h
  package-names (error.Alias f) h = absurd h
  package-names (error.Export f) h = absurd h
  package-names (error.Unexport f) h = absurd h
  package-names (error.Argument f) h = absurd h
  package-names (error.Plug f) h = absurd h
  package-names (error.Encode f) h = absurd h
  package-names error.OutOfMemory h = refl

  pub package-world : (new : Graph) (f : AddTypeError) (r : Result PackageId Error) → HaveDistinctNames imports exports → IsErrAnd r (λ e. e ≡ error.AddType f) → AddsWorld old imports exports (Err f) new
      → AnswersBy {Id = WorldId} (world_fault old.types (plain_world imports exports)) (Err f) → AddsPackage old name version bytes imports exports r new
  package-world new f (Ok x) names h same answers = absurd h
  package-world new f (Err e) names h same answers = subst (λ z. AddsPackage old name version bytes imports exports (Err z) new) (sym h) (names, inl (same, answers))

  pub package-made : (between new : Graph) (world : WorldId) (f : AddTypeError) (r : Result PackageId Error) → HaveDistinctNames imports exports → IsErrAnd r (λ e. e ≡ error.AddType f) → AddsWorld old imports exports (Ok world) between → new ≡ between
      → AnswersBy {Id = PackageParts} (package_fault between.types world) (Err f) → AddsPackage old name version bytes imports exports r new
  package-made between new world f (Ok x) names h added same answers = absurd h
  package-made between new world f (Err e) names h added same answers =
      subst (λ (g : Graph). AddsPackage old name version bytes imports exports (Err e) g) (sym same)
      (subst (λ z. AddsPackage old name version bytes imports exports (Err z) between) (sym h) (names, inr (world, added, answers)))

  pub package-refused : (made new : Graph) (p : PackageParts) (f : RegisterPackageError) (r : Result PackageId Error) → IsErrAnd r (λ e. e ≡ error.RegisterPackage f) → MakesPackage old name version bytes imports exports p made → Registers made p (Err f) new
      → AddsPackage old name version bytes imports exports r new
  package-refused made new p f (Ok x) h makes step = absurd h
  package-refused made new p f (Err e) h makes step = subst (λ z. AddsPackage old name version bytes imports exports (Err z) new) (sym h) (p, made, makes, step)
