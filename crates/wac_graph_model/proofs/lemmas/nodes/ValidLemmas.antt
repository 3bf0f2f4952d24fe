-- What was valid in a graph is valid after a step that adds something or changes names.
use Rattle.std.proofs.Common.{◌≡◌, ◌+◌, ◌==◌, ℕ, true, List, [], ◌∷◌, ◌++◌, length, refl, ap, ◌∙◌, sym, subst, arith, Option, Some, None, Result, Ok, Err, IfSome, IfOk, IsSome, is_some, inl, inr}
use Rattle.std.specs.Prelude.{IsSomeAnd, nat_lt}
use Rattle.std.specs.FinMap as map
use Rattle.std.specs.FinSet as set
use Rattle.std.specs.Ordering.{nat_cmp}
use Rattle.std.specs.declared.alloc.AllocError.{AllocError}
use Rattle.std.proofs.lemmas.List.{length-append}
use Rattle.std.proofs.lemmas.Bool.{false≢true}
use Rattle.std.proofs.lemmas.Bool.Decides.{nat_tests}
use Rattle.wac_types_shapes.specs.primitives.Name.{Name, find_name}
use Rattle.wac_types_shapes.specs.declared.shapes.component.«Type».{«Type» as AnyType}
use Rattle.wac_types_shapes.specs.declared.shapes.component.«Type».TheVariants as ty
use Rattle.wac_types_shapes.specs.declared.shapes.component.ValueType.TheVariants as val
use Rattle.wac_types_shapes.specs.declared.shapes.component.ItemKind.{ItemKind}
use Rattle.wac_types_collection.specs.declared.collection.collection.Held.{Held}
use Rattle.wac_types_collection.specs.collection.Collection.{Collection, holds_type}
use Rattle.wac_types_collection.specs.collection.Package.{PackageParts, HoldsPackage}
use Rattle.wac_edges.specs.Edge.{argument_edge}
use Rattle.wac_edges.specs.declared.node.NodeId.{NodeId}
use Rattle.wac_graph_model.specs.declared.nodes.packages.PackageId.{PackageId}
use Rattle.wac_graph_model.specs.declared.nodes.errors.RegisterPackageError.{RegisterPackageError}
use Rattle.wac_graph_model.specs.declared.nodes.errors.RegisterPackageError.TheVariants as register
use Rattle.wac_graph_model.specs.declared.nodes.errors.AliasError.{AliasError}
use Rattle.wac_graph_model.specs.declared.nodes.errors.AliasError.TheVariants as alias_error
use Rattle.wac_graph_model.specs.declared.nodes.errors.ExportError.{ExportError}
use Rattle.wac_graph_model.specs.declared.nodes.errors.ExportError.TheVariants as export_error
use Rattle.wac_graph_model.specs.declared.nodes.errors.UnexportError.{UnexportError}
use Rattle.wac_graph_model.specs.declared.nodes.errors.UnexportError.TheVariants as unexport
use Rattle.wac_graph_model.specs.declared.nodes.errors.DefineTypeError.{DefineTypeError}
use Rattle.wac_graph_model.specs.declared.nodes.errors.DefineTypeError.TheVariants as define_error
use Rattle.wac_graph_model.specs.declared.nodes.errors.ImportError.{ImportError}
use Rattle.wac_graph_model.specs.declared.nodes.errors.ImportError.TheVariants as import_error
use Rattle.wac_graph_model.specs.declared.nodes.errors.InstantiationArgumentError.{InstantiationArgumentError}
use Rattle.wac_graph_model.specs.declared.nodes.errors.InstantiationArgumentError.TheVariants as argument_error
use Rattle.wac_graph_model.specs.nodes.Graph as graph
use Rattle.wac_graph_model.specs.nodes.Graph.{Graph, GraphNode, node_at, package_at}
use Rattle.wac_graph_model.specs.nodes.TakenOut.{without}
use Rattle.wac_graph_model.specs.nodes.Steps.{AddsNode, Registers, Defines, Imports, import_node, Instantiates, instance_node, Aliases, AliasesOf, GivesAlias, export_named, SetsArgument, SetsOn, GivesArgument, UnsetsArgument, UnsetsOn, import_named, SetsName, Exports, Unexports, TakesSlot, freed, added}
use Rattle.wac_graph_model.specs.nodes.Stays.{Stays}
use Rattle.wac_graph_model.specs.nodes.Valid.{KeepsValid}
use Rattle.wac_graph_model.proofs.lemmas.nodes.Added.{by_eq, insert_same, insert_other}
use Rattle.wac_graph_model.proofs.lemmas.nodes.JoinLemmas.{Extends}
use Rattle.wac_graph_model.proofs.lemmas.nodes.StaysLemmas.{registered-stays, registered-there, node-stays, definition-stays, alias-stays}

some_of : {A : Type 0} (o : Option A) → IsSome o → (a : A) × (o ≡ Some a)
some_of None h = absurd (false≢true h)
some_of (Some a) h = (a, refl)

is_there : {A : Type 0} (o : Option A) (a : A) → o ≡ Some a → IsSome o
is_there o a h = ap is_some h

-- more types, and the rest as it was
pub valid_types : (g : Graph) (d : Collection) → Extends g.types d → KeepsValid g (record g { types = d })
valid_types g d e = record {
  nodes = λ n h. h;
  packages = λ id h. h;
  types = e.held;
  made = λ p h. (e.held (ty.World p.world) h.0, e.held (ty.Interface p.instance_type) h.1, λ n. ap (λ es. find_name es n) (e.interfaces p.instance_type h.1) ∙ h.2 n ∙ ap (λ es. find_name es n) (sym (e.exports p.world h.0)));
  resources = λ i h. e.held (ty.Resource (record { 0 = i })) h;
  funcs = λ i h. e.held (ty.Func (record { 0 = i })) h;
  defined = λ i h. e.held (ty.Value (val.Defined (record { 0 = i }))) h;
  interfaces = λ i h. e.held (ty.Interface (record { 0 = i })) h;
  worlds = λ i h. e.held (ty.World (record { 0 = i })) h;
  modules = λ i h. e.held (ty.Module (record { 0 = i })) h;
}

-- the same types, and all nodes and packages
pub valid_by : (old new : Graph) → new.types ≡ old.types → ((n : NodeId) → IsSome (node_at old n) → IsSome (node_at new n)) → ((id : PackageId) → IsSome (package_at old id) → IsSome (package_at new id)) → KeepsValid old new
valid_by old new same nodes packages = record {
  nodes = nodes;
  packages = packages;
  types = λ t h. ap (λ c. holds_type c t) same ∙ h;
  made = λ p h. subst (λ c. HoldsPackage c p) (sym same) h;
  resources = λ i h. ap (λ c. nat_lt i (length c.resources)) same ∙ h;
  funcs = λ i h. ap (λ c. nat_lt i (length c.funcs)) same ∙ h;
  defined = λ i h. ap (λ c. nat_lt i (length c.defined)) same ∙ h;
  interfaces = λ i h. ap (λ c. nat_lt i (length c.interfaces)) same ∙ h;
  worlds = λ i h. ap (λ c. nat_lt i (length c.worlds)) same ∙ h;
  modules = λ i h. ap (λ c. nat_lt i (length c.modules)) same ∙ h;
}

pub valid_itself : (g : Graph) → KeepsValid g g
valid_itself g = valid_by g g refl (λ n h. h) (λ id h. h)

pub valid_same : (old new : Graph) → new ≡ old → KeepsValid old new
valid_same old new e = subst (KeepsValid old) (sym e) (valid_itself old)

-- what stays is valid
valid_stays : (old new : Graph) → Stays old new → new.types ≡ old.types → KeepsValid old new
valid_stays old new s same = valid_by old new same
    (λ n h. let x = some_of (node_at old n) h in is_there (node_at new n) x.0 (s.nodes n x.0 x.1))
    (λ id h. let x = some_of (package_at old id) h in is_there (package_at new id) x.0 (s.packages id x.0 x.1))

slot_types : (old new : Graph) (p : PackageParts) (id : PackageId) → TakesSlot old p id new → new.types ≡ old.types
slot_types old new p id (freed _ _ _ _ _ _ is) = ap (λ g. g.types) is
slot_types old new p id (added _ _ is) = ap (λ g. g.types) is

pub valid_registered : (old new : Graph) (p : PackageParts) (r : Result PackageId RegisterPackageError) → Registers old p r new → KeepsValid old new
valid_registered old new p (Ok id) h = valid_stays old new (registered-stays old new p (Ok id) h) (slot_types old new p id h.1)
valid_registered old new p (Err (register.PackageAlreadyRegistered key)) h = valid_same old new h.0
valid_registered old new p (Err register.OutOfMemory) h = valid_same old new h

pub registered_is_there : (old new : Graph) (p : PackageParts) (r : Result PackageId RegisterPackageError) → Registers old p r new → IfOk r (λ id. IsSome (package_at new id))
registered_is_there old new p (Ok id) h = is_there (package_at new id) p (registered-there old new p id h)
registered_is_there old new p (Err e) h = tt

valid_node : (old new : Graph) (n : NodeId) (node : GraphNode) → AddsNode old n node new → KeepsValid old new
valid_node old new n node h = valid_stays old new (node-stays old new n node h).1 (ap (λ g. g.types) h.2)

pub valid_imported : (old new : Graph) (name : Name) (kind : ItemKind) (r : Result NodeId ImportError) → Imports old name kind r new → KeepsValid old new
valid_imported old new name kind (Ok n) h = valid_node old new n (import_node name kind) h.2
valid_imported old new name kind (Err (import_error.ImportAlreadyExists text node)) h = valid_same old new h.0
valid_imported old new name kind (Err (import_error.InvalidImportName text source)) h = valid_same old new h.0
valid_imported old new name kind (Err import_error.OutOfMemory) h = valid_same old new h

instance_of : (old new : Graph) (id : PackageId) (n : NodeId) → IsSome (package_at old id) → Instantiates old id (Ok n) new → (p : PackageParts) × AddsNode old n (instance_node id p) new
instance_of old new id n there h = let p = some_of (package_at old id) there in (p.0, subst (λ o. IfSome o (λ p. AddsNode old n (instance_node id p) new)) p.1 h)

pub valid_instantiated : (old new : Graph) (id : PackageId) (r : Result NodeId AllocError) → IsSome (package_at old id) → Instantiates old id r new → KeepsValid old new
valid_instantiated old new id (Ok n) there h = let s = instance_of old new id n there h in valid_node old new n (instance_node id s.0) s.1
valid_instantiated old new id (Err e) there h = valid_same old new h

pub instance_is_there : (old new : Graph) (id : PackageId) (r : Result NodeId AllocError) → IsSome (package_at old id) → Instantiates old id r new → IfOk r (λ n. IsSome (node_at new n))
instance_is_there old new id (Ok n) there h = let s = instance_of old new id n there h in is_there (node_at new n) (instance_node id s.0) (node-stays old new n (instance_node id s.0) s.1).0
instance_is_there old new id (Err e) there h = tt

pub valid_defined : (old new : Graph) (name : Name) (t : AnyType) (r : Result NodeId DefineTypeError) → Defines old name t r new → KeepsValid old new
valid_defined old new name t (Ok n) h = valid_stays old new (definition-stays old new name t n h).1 (ap (λ g. g.types) h.7)
valid_defined old new name t (Err define_error.TypeAlreadyDefined) h = valid_same old new h.0
valid_defined old new name t (Err define_error.CannotDefineResource) h = valid_same old new h.0
valid_defined old new name t (Err (define_error.ExportConflict text)) h = valid_same old new h.0
valid_defined old new name t (Err (define_error.InvalidExternName text source)) h = valid_same old new h.0
valid_defined old new name t (Err define_error.OutOfMemory) h = valid_same old new h.0

pub definition_is_there : (old new : Graph) (name : Name) (t : AnyType) (r : Result NodeId DefineTypeError) → Defines old name t r new → IfOk r (λ n. IsSome (node_at new n))
definition_is_there old new name t (Ok n) h = is_there (node_at new n) _ (definition-stays old new name t n h).0
definition_is_there old new name t (Err e) h = tt

-- the alias of an export is there already, or it is added
alias_types : (old new : Graph) (id : NodeId) (n : GraphNode) (name : Name) (a : NodeId) → AliasesOf old id n name (Ok a) new → new.types ≡ old.types
alias_types old new id n name a h = at (export_named old n name) h.1 where
  at : (o : Option (ℕ × ItemKind)) → IsSomeAnd o (λ e. GivesAlias old id n e.0 e.1 a new) → new.types ≡ old.types
  at None g = absurd g
  at (Some e) (inl g) = ap (λ x. x.types) g.1
  at (Some e) (inr g) = ap (λ x. x.types) g.3

pub valid_aliased : (old new : Graph) (id : NodeId) (name : Name) (r : Result NodeId AliasError) → IsSome (node_at old id) → Aliases old id name r new → KeepsValid old new
valid_aliased old new id name r there h = let n = some_of (node_at old id) there in by n.0 n.1 r h (subst (λ o. IfSome o (λ n. AliasesOf old id n name r new)) n.1 h) where
  by : (n : GraphNode) → node_at old id ≡ Some n → (r : Result NodeId AliasError) → Aliases old id name r new → AliasesOf old id n name r new → KeepsValid old new
  by n at (Ok a) step h = valid_stays old new (alias-stays old new id n name a at step).1 (alias_types old new id n name a h)
  by n at (Err (alias_error.NodeIsNotAnInstance node kind)) step h = valid_same old new h.0
  by n at (Err (alias_error.InstanceMissingExport node text)) step h = valid_same old new h.0
  by n at (Err alias_error.OutOfMemory) step h = valid_same old new h

-- only edges change
pub valid_edges : (old new : Graph) → new.types ≡ old.types → new.nodes ≡ old.nodes → new.slots ≡ old.slots → KeepsValid old new
valid_edges old new types nodes slots = valid_by old new types
    (λ n h. ap (λ m. is_some (map.get m n.0)) nodes ∙ h)
    (λ id h. ap (λ s. is_some (package_at (record old { slots = s }) id)) slots ∙ h)

given_argument : (old new : Graph) (id argument : NodeId) (given kind : ItemKind) (position : ℕ) → GivesArgument old id argument given position kind new → KeepsValid old new
given_argument old new id argument given kind position (inl h) = valid_same old new h.1
given_argument old new id argument given kind position (inr h) = valid_edges old new (ap (λ g. g.types) h.2) (ap (λ g. g.nodes) h.2) (ap (λ g. g.slots) h.2)

pub valid_set : (old new : Graph) (id argument : NodeId) (name : Name) (r : Result (Unit {0}) InstantiationArgumentError) → IsSome (node_at old id) → IsSome (node_at old argument) → SetsArgument old id name argument r new → KeepsValid old new
valid_set old new id argument name r there given h =
    let n = some_of (node_at old id) there in
    let a = some_of (node_at old argument) given in
    by n.0 a.0 r (subst (λ o. IfSome o (λ x. SetsOn old id n.0 name argument x r new)) a.1 (subst (λ o. IfSome o (λ n. IfSome (node_at old argument) (λ x. SetsOn old id n name argument x r new))) n.1 h))
  where
    gives : (n a : GraphNode) (o : Option (ℕ × ItemKind)) → IsSomeAnd o (λ e. GivesArgument old id argument a.item_kind e.0 e.1 new) → KeepsValid old new
    gives n a None g = absurd g
    gives n a (Some e) g = given_argument old new id argument a.item_kind e.1 e.0 g

    by : (n a : GraphNode) (r : Result (Unit {0}) InstantiationArgumentError) → SetsOn old id n name argument a r new → KeepsValid old new
    by n a (Ok u) h = gives n a (import_named old n name) h.1
    by n a (Err (argument_error.NodeIsNotAnInstantiation node)) h = valid_same old new h.0
    by n a (Err (argument_error.InvalidArgumentName node text of_package)) h = valid_same old new h.0
    by n a (Err (argument_error.ArgumentAlreadyPassed node text)) h = valid_same old new h.0
    by n a (Err (argument_error.ArgumentTypeMismatch text source)) h = valid_same old new h.0
    by n a (Err argument_error.OutOfMemory) h = valid_same old new h.0

pub valid_unset : (old new : Graph) (id argument : NodeId) (name : Name) (r : Result (Unit {0}) InstantiationArgumentError) → IsSome (node_at old id) → UnsetsArgument old id name argument r new → KeepsValid old new
valid_unset old new id argument name r there h =
    let n = some_of (node_at old id) there in
    by n.0 r (subst (λ o. IfSome o (λ n. UnsetsOn old id n name argument r new)) n.1 h)
  where
    taken : (o : Option (ℕ × ItemKind)) → IsSomeAnd o (λ e. new ≡ record old { edges = set.remove old.edges (argument_edge argument id e.0) }) → KeepsValid old new
    taken None g = absurd g
    taken (Some e) g = valid_edges old new (ap (λ x. x.types) g) (ap (λ x. x.nodes) g) (ap (λ x. x.slots) g)

    by : (n : GraphNode) (r : Result (Unit {0}) InstantiationArgumentError) → UnsetsOn old id n name argument r new → KeepsValid old new
    by n (Ok u) h = taken (import_named old n name) h.1
    by n (Err (argument_error.NodeIsNotAnInstantiation node)) h = valid_same old new h.0
    by n (Err (argument_error.InvalidArgumentName node text of_package)) h = valid_same old new h.0
    by n (Err (argument_error.ArgumentAlreadyPassed node text)) h = absurd h
    by n (Err (argument_error.ArgumentTypeMismatch text source)) h = absurd h
    by n (Err argument_error.OutOfMemory) h = valid_same old new h.0

-- a node's names change
named_node : (nodes : map.FinMap nat_cmp GraphNode) (id n : NodeId) (node : GraphNode) → IsSome (map.get nodes n.0) → IsSome (map.get (map.insert nodes id.0 node) n.0)
named_node nodes id n node h = by_eq n.0 id.0
    (λ same. ap (λ k. is_some (map.get (map.insert nodes id.0 node) k)) same ∙ ap is_some (insert_same nodes id.0 node))
    (λ other. ap is_some (insert_other nodes id.0 n.0 node other) ∙ h)

valid_renamed : (old new : Graph) (id : NodeId) (node : GraphNode) → new.types ≡ old.types → new.nodes ≡ map.insert old.nodes id.0 node → new.slots ≡ old.slots → KeepsValid old new
valid_renamed old new id node types nodes slots = valid_by old new types
    (λ n h. ap (λ m. is_some (map.get m n.0)) nodes ∙ named_node old.nodes id n node h)
    (λ id h. ap (λ s. is_some (package_at (record old { slots = s }) id)) slots ∙ h)

pub valid_named : (old new : Graph) (id : NodeId) (name : Name) (r : Result (Unit {0}) AllocError) → IsSome (node_at old id) → SetsName old id name r new → KeepsValid old new
valid_named old new id name (Ok u) there h =
    let n = some_of (node_at old id) there in
    let is = subst (λ o. IfSome o (λ n. new ≡ record old { nodes = map.insert old.nodes id.0 (record n { name = Some name }) })) n.1 h in
    valid_renamed old new id (record n.0 { name = Some name }) (ap (λ g. g.types) is) (ap (λ g. g.nodes) is) (ap (λ g. g.slots) is)
valid_named old new id name (Err e) there h = valid_same old new h

pub valid_exported : (old new : Graph) (id : NodeId) (name : Name) (r : Result (Unit {0}) ExportError) → IsSome (node_at old id) → Exports old id name r new → KeepsValid old new
valid_exported old new id name (Ok u) there h =
    let n = some_of (node_at old id) there in
    let is = subst (λ o. IfSome o (λ n. new ≡ record old { nodes = map.insert old.nodes id.0 (record n { export_name = Some name }); exports = old.exports ++ (name, id) ∷ [] })) n.1 h.2 in
    valid_renamed old new id (record n.0 { export_name = Some name }) (ap (λ g. g.types) is) (ap (λ g. g.nodes) is) (ap (λ g. g.slots) is)
valid_exported old new id name (Err (export_error.ExportAlreadyExists text node)) there h = valid_same old new h.0
valid_exported old new id name (Err (export_error.InvalidExportName text source)) there h = valid_same old new h.0
valid_exported old new id name (Err export_error.OutOfMemory) there h = valid_same old new h

pub valid_unexported : (old new : Graph) (id : NodeId) (r : Result (Unit {0}) UnexportError) → IsSome (node_at old id) → Unexports old id r new → KeepsValid old new
valid_unexported old new id (Ok u) there h =
    let n = some_of (node_at old id) there in
    let is = (subst (λ o. IfSome o (λ n. (n.kind ≡ graph.definition → ⊥) × (new ≡ record old { nodes = map.insert old.nodes id.0 (record n { export_name = None }); exports = without (λ m. m.0 == id.0) old.exports }))) n.1 h).1 in
    valid_renamed old new id (record n.0 { export_name = None }) (ap (λ g. g.types) is) (ap (λ g. g.nodes) is) (ap (λ g. g.slots) is)
valid_unexported old new id (Err unexport.MustExportDefinition) there h = valid_same old new h.0
valid_unexported old new id (Err unexport.OutOfMemory) there h = absurd h

-- what is appended is of the list
pub last_is_there : {A : Type 0} (xs : List (Held A)) (x : Held A) (k : ℕ) → k ≡ length xs → nat_lt k (length (xs ++ x ∷ [])) ≡ true
last_is_there xs x k is = rw (length-append xs (x ∷ [])) (ap (λ i. nat_lt i (length xs + 1)) is ∙ one (length xs)) where
  one : (n : ℕ) → nat_lt n (n + 1) ≡ true
  one n = grind (arith, nat_tests)

-- a type that was added is of the collection
pub added_is_there : {Id E : Type 0} (r : Result Id E) (d more : Collection) (number : Id → ℕ) (size : ℕ) (as_type : Id → AnyType) → ((id : Id) → number id ≡ size → holds_type more (as_type id) ≡ true)
    → IfOk r (λ id. (number id ≡ size) × (d ≡ more)) → IfOk r (λ id. holds_type d (as_type id) ≡ true)
added_is_there (Ok id) d more number size as_type holds h = ap (λ c. holds_type c (as_type id)) h.1 ∙ holds id h.0
added_is_there (Err e) d more number size as_type holds h = tt
