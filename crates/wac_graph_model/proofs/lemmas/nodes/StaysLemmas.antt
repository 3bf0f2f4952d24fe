-- What was in a graph is in it still after a step that adds something.
use Rattle.std.proofs.Common.{◌≡◌, ℕ, zero, suc, List, [], ◌∷◌, ◌++◌, length, slice_get, refl, ap, ◌∙◌, sym, subst, Option, Some, None, Result, Ok, Err, IfSome, inl, inr, ◌≢◌, ◌==◌, Bool, false, cond, slice_set, true}
use Rattle.std.specs.Prelude.{IsSomeAnd}
use Rattle.std.specs.FinMap as map
use Rattle.std.specs.FinSet as set
use Rattle.std.proofs.lemmas.Bool.{eq-eqb}
use Rattle.std.proofs.lemmas.List.{append-nil}
use Rattle.wac_types_shapes.specs.primitives.Name.{Name}
use Rattle.wac_types_collection.specs.collection.Collection.{Collection, item_at, with_resource, with_func, with_defined, with_interface, with_world, with_module}
use Rattle.wac_types_collection.specs.collection.Package.{PackageParts, with_instance_of}
use Rattle.wac_types_collection.specs.declared.collection.collection.AddTypeError.{AddTypeError}
use Rattle.wac_types_collection.specs.declared.collection.collection.Held.{Held}
use Rattle.wac_types_shapes.specs.declared.shapes.component.Resource.{Resource}
use Rattle.wac_types_shapes.specs.declared.shapes.component.FuncType.{FuncType}
use Rattle.wac_types_shapes.specs.declared.shapes.component.DefinedType.{DefinedType}
use Rattle.wac_types_shapes.specs.declared.shapes.core_types.ModuleType.{ModuleType}
use Rattle.wac_types_shapes.specs.declared.shapes.component.Interface.{Interface}
use Rattle.wac_types_shapes.specs.declared.shapes.component.ItemKind.{ItemKind}
use Rattle.wac_types_shapes.specs.declared.shapes.component.«Type».{«Type» as AnyType}
use Rattle.wac_types_shapes.specs.declared.shapes.component.World.{World}
use Rattle.wac_types_shapes.specs.declared.shapes.component.ResourceId.{ResourceId}
use Rattle.wac_types_shapes.specs.declared.shapes.component.FuncTypeId.{FuncTypeId}
use Rattle.wac_types_shapes.specs.declared.shapes.component.DefinedTypeId.{DefinedTypeId}
use Rattle.wac_types_shapes.specs.declared.shapes.component.InterfaceId.{InterfaceId}
use Rattle.wac_types_shapes.specs.declared.shapes.component.WorldId.{WorldId}
use Rattle.wac_types_shapes.specs.declared.shapes.component.ModuleTypeId.{ModuleTypeId}
use Rattle.wac_edges.specs.Edge.{alias_edge, argument_edge}
use Rattle.wac_graph_model.specs.declared.nodes.errors.RegisterPackageError.{RegisterPackageError}
use Rattle.wac_graph_model.specs.declared.nodes.errors.RegisterPackageError.TheVariants as register
use Rattle.wac_edges.specs.declared.node.NodeId.{NodeId}
use Rattle.wac_graph_model.specs.declared.nodes.packages.PackageId.{PackageId}
use Rattle.wac_graph_model.specs.declared.nodes.packages.Slot.{Slot}
use Rattle.wac_graph_model.specs.nodes.Graph.{Graph, GraphNode, node_at, package_at, package_in}
use Rattle.wac_graph_model.specs.nodes.Definitions.{definition_node}
use Rattle.wac_graph_model.specs.nodes.Steps.{Adds, AddsNode, Registers, Defines, Imports, import_node, Instantiates, instance_node, Aliases, AliasesOf, GivesAlias, export_named, alias_node, SetsArgument, SetsOn, GivesArgument, import_named, TakesSlot, freed, added}
use Rattle.wac_graph_model.specs.nodes.Stays.{Stays, IsAliasBy, IsArgumentBy}
use Rattle.wac_graph_model.proofs.lemmas.nodes.Added.{by_eq, insert_same, insert_other, new_edge, kept_edge}

-- a longer list keeps what is at each position
item-prefix : {A : Type 0} (xs ys : List (Held A)) (i : ℕ) (x : A) → item_at xs i ≡ Some x → item_at (xs ++ ys) i ≡ Some x
item-prefix [] ys i x h = cc
item-prefix (y ∷ xs) ys zero x h = h
item-prefix (y ∷ xs) ys (suc i) x h = item-prefix xs ys i x h

slice_get-set_other : (xs : List Slot) (s k : ℕ) (with : Slot) → k ≢ s → slice_get (slice_set xs s with) k ≡ slice_get xs k
slice_get-set_other [] s k with differ = refl
slice_get-set_other (x ∷ xs) zero zero with differ = absurd (differ refl)
slice_get-set_other (x ∷ xs) zero (suc k) with differ = refl
slice_get-set_other (x ∷ xs) (suc s) zero with differ = refl
slice_get-set_other (x ∷ xs) (suc s) (suc k) with differ = slice_get-set_other xs s k with (λ same. differ (ap suc same))

package-prefix : (xs ys : List Slot) (k : ℕ) (id : PackageId) (p : PackageParts) → package_in (slice_get xs k) id ≡ Some p → package_in (slice_get (xs ++ ys) k) id ≡ Some p
package-prefix [] ys k id p h = cc
package-prefix (x ∷ xs) ys zero id p h = h
package-prefix (x ∷ xs) ys (suc k) id p h = package-prefix xs ys k id p h

-- a graph with more types and packages
module _ (old new : Graph) where
  pub grown : (interfaces : List (Held Interface)) (worlds : List (Held World)) (slots : List Slot) → new.nodes ≡ old.nodes → new.edges ≡ old.edges
      → new.slots ≡ old.slots ++ slots → new.types.interfaces ≡ old.types.interfaces ++ interfaces → new.types.worlds ≡ old.types.worlds ++ worlds → Stays old new
  grown interfaces worlds slots nodes edges more_slots more_interfaces more_worlds = record {
    nodes = λ n node h. ap (λ m. map.get m n.0) nodes ∙ h;
    edges = λ e h. ap (λ s. set.contains s e) edges ∙ h;
    packages = λ id p h. ap (λ s. package_in (slice_get s id.slot) id) more_slots ∙ package-prefix old.slots slots id.slot id p h;
    interfaces = λ i x h. ap (λ l. item_at l i) more_interfaces ∙ item-prefix old.types.interfaces interfaces i x h;
    worlds = λ i x h. ap (λ l. item_at l i) more_worlds ∙ item-prefix old.types.worlds worlds i x h;
  }

pub stays-refl : (g : Graph) → Stays g g
stays-refl g = record { nodes = λ n node h. h; edges = λ e h. h; packages = λ id p h. h; interfaces = λ i x h. h; worlds = λ i x h. h }

pub stays-same : (old new : Graph) → new ≡ old → Stays old new
stays-same old new e = subst (Stays old) (sym e) (stays-refl old)

pub stays-trans : (a b c : Graph) → Stays a b → Stays b c → Stays a c
stays-trans a b c ab bc = record {
  nodes = λ n node h. bc.nodes n node (ab.nodes n node h);
  edges = λ e h. bc.edges e (ab.edges e h);
  packages = λ id p h. bc.packages id p (ab.packages id p h);
  interfaces = λ i x h. bc.interfaces i x (ab.interfaces i x h);
  worlds = λ i x h. bc.worlds i x (ab.worlds i x h);
}

-- types are added
types-stay : {Id : Type 0} (old new : Graph) (changes : Id → Collection → Type 0) (interfaces : List (Held Interface)) (worlds : List (Held World)) (r : Result Id AddTypeError)
    → ((id : Id) (c : Collection) → changes id c → (c.interfaces ≡ old.types.interfaces ++ interfaces) × (c.worlds ≡ old.types.worlds ++ worlds)) → Adds old r new changes → Stays old new
types-stay old new changes interfaces worlds (Ok id) kept h =
    let more = kept id new.types h.0 in
    grown old new interfaces worlds [] (ap (λ g. g.nodes) h.1) (ap (λ g. g.edges) h.1) (ap (λ g. g.slots) h.1 ∙ sym (append-nil old.slots)) more.0 more.1
types-stay old new changes interfaces worlds (Err e) kept h = stays-same old new h

pub resource-stays : (old new : Graph) (x : Resource) (r : Result ResourceId AddTypeError) → Adds old r new (λ id types. (id.0 ≡ length old.types.resources) × (types ≡ with_resource old.types x)) → Stays old new
resource-stays old new x r step = types-stay old new (λ (id : ResourceId) types. (id.0 ≡ length old.types.resources) × (types ≡ with_resource old.types x)) [] [] r (λ id c h. (ap (λ t. t.interfaces) h.1 ∙ sym (append-nil old.types.interfaces), ap (λ t. t.worlds) h.1 ∙ sym (append-nil old.types.worlds))) step

pub func-stays : (old new : Graph) (x : FuncType) (r : Result FuncTypeId AddTypeError) → Adds old r new (λ id types. (id.0 ≡ length old.types.funcs) × (types ≡ with_func old.types x)) → Stays old new
func-stays old new x r step = types-stay old new (λ (id : FuncTypeId) types. (id.0 ≡ length old.types.funcs) × (types ≡ with_func old.types x)) [] [] r (λ id c h. (ap (λ t. t.interfaces) h.1 ∙ sym (append-nil old.types.interfaces), ap (λ t. t.worlds) h.1 ∙ sym (append-nil old.types.worlds))) step

pub defined-stays : (old new : Graph) (x : DefinedType) (r : Result DefinedTypeId AddTypeError) → Adds old r new (λ id types. (id.0 ≡ length old.types.defined) × (types ≡ with_defined old.types x)) → Stays old new
defined-stays old new x r step = types-stay old new (λ (id : DefinedTypeId) types. (id.0 ≡ length old.types.defined) × (types ≡ with_defined old.types x)) [] [] r (λ id c h. (ap (λ t. t.interfaces) h.1 ∙ sym (append-nil old.types.interfaces), ap (λ t. t.worlds) h.1 ∙ sym (append-nil old.types.worlds))) step

pub interface-stays : (old new : Graph) (x : Interface) (r : Result InterfaceId AddTypeError) → Adds old r new (λ id types. (id.0 ≡ length old.types.interfaces) × (types ≡ with_interface old.types x)) → Stays old new
interface-stays old new x r step = types-stay old new (λ (id : InterfaceId) types. (id.0 ≡ length old.types.interfaces) × (types ≡ with_interface old.types x)) (record { item = x; before = _ } ∷ []) [] r (λ id c h. (ap (λ t. t.interfaces) h.1, ap (λ t. t.worlds) h.1 ∙ sym (append-nil old.types.worlds))) step

pub world-stays : (old new : Graph) (x : World) (r : Result WorldId AddTypeError) → Adds old r new (λ id types. (id.0 ≡ length old.types.worlds) × (types ≡ with_world old.types x)) → Stays old new
world-stays old new x r step = types-stay old new (λ (id : WorldId) types. (id.0 ≡ length old.types.worlds) × (types ≡ with_world old.types x)) [] (record { item = x; before = _ } ∷ []) r (λ id c h. (ap (λ t. t.interfaces) h.1 ∙ sym (append-nil old.types.interfaces), ap (λ t. t.worlds) h.1)) step

pub module-stays : (old new : Graph) (x : ModuleType) (r : Result ModuleTypeId AddTypeError) → Adds old r new (λ id types. (id.0 ≡ length old.types.modules) × (types ≡ with_module old.types x)) → Stays old new
module-stays old new x r step = types-stay old new (λ (id : ModuleTypeId) types. (id.0 ≡ length old.types.modules) × (types ≡ with_module old.types x)) [] [] r (λ id c h. (ap (λ t. t.interfaces) h.1 ∙ sym (append-nil old.types.interfaces), ap (λ t. t.worlds) h.1 ∙ sym (append-nil old.types.worlds))) step

-- a package is made: its instances' interface is added
pub made-stays : (old new : Graph) (world : WorldId) (r : Result PackageParts AddTypeError) → Adds old r new (λ p types. types ≡ with_instance_of old.types world) → Stays old new
made-stays old new world r step = types-stay old new (λ (p : PackageParts) types. types ≡ with_instance_of old.types world) (record { item = _; before = _ } ∷ []) [] r (λ p c h. (ap (λ t. t.interfaces) h, ap (λ t. t.worlds) h ∙ sym (append-nil old.types.worlds))) step

-- a slot that held no package was no package's
slot-keeps : (xs : List Slot) (s generation : ℕ) (with : Slot) (id : PackageId) (p : PackageParts) → slice_get xs s ≡ Some (record { generation = generation; «package» = None })
    → package_in (slice_get xs id.slot) id ≡ Some p → package_in (slice_get (slice_set xs s with) id.slot) id ≡ Some p
slot-keeps xs s generation with id p empty at = by_eq id.slot s
    (λ same. absurd (no_package (generation == id.generation) (sym (ap (λ o. package_in o id) (ap (slice_get xs) same ∙ empty)) ∙ at)))
    (λ differ. ap (λ o. package_in o id) (slice_get-set_other xs s id.slot with differ) ∙ at)
  where
    no_package : (b : Bool) → cond b None None ≡ Some p → ⊥
    no_package true h = cc
    no_package false h = cc

slot-stays : (old new : Graph) (p : PackageParts) (id : PackageId) → TakesSlot old p id new → Stays old new
slot-stays old new p id (freed s generation rest vacant empty _ is) = record {
  nodes = λ n node h. ap (λ g. map.get g.nodes n.0) is ∙ h;
  edges = λ e h. ap (λ g. set.contains g.edges e) is ∙ h;
  packages = λ other q h. ap (λ g. package_in (slice_get g.slots other.slot) other) is ∙ slot-keeps old.slots s generation (record { generation = generation; «package» = Some p }) other q empty h;
  interfaces = λ i x h. ap (λ g. item_at g.types.interfaces i) is ∙ h;
  worlds = λ i x h. ap (λ g. item_at g.types.worlds i) is ∙ h;
}
slot-stays old new p id (added _ _ is) = grown old new [] [] (record { generation = 0; «package» = Some p } ∷ [])
    (ap (λ g. g.nodes) is) (ap (λ g. g.edges) is) (ap (λ g. g.slots) is)
    (ap (λ g. g.types.interfaces) is ∙ sym (append-nil old.types.interfaces)) (ap (λ g. g.types.worlds) is ∙ sym (append-nil old.types.worlds))

-- what is written in a slot that is there is read there
slice_get-set_same : (xs : List Slot) (s : ℕ) (x with : Slot) → slice_get xs s ≡ Some x → slice_get (slice_set xs s with) s ≡ Some with
slice_get-set_same [] s x with h = cc
slice_get-set_same (y ∷ xs) zero x with h = refl
slice_get-set_same (y ∷ xs) (suc s) x with h = slice_get-set_same xs s x with h

slot-last : (xs : List Slot) (x : Slot) → slice_get (xs ++ x ∷ []) (length xs) ≡ Some x
slot-last [] x = refl
slot-last (y ∷ xs) x = slot-last xs x

-- the generation of a slot is that of the id which it gives
same-generation : (generation : ℕ) (p : PackageParts) (id : PackageId) → id.generation ≡ generation → package_in (Some (record { generation = generation; «package» = Some p })) id ≡ Some p
same-generation generation p id same = ap (λ b. cond b (Some p) None) (ap (λ i. generation == i) same ∙ eq-eqb generation generation refl)

slot-there : (old new : Graph) (p : PackageParts) (id : PackageId) → TakesSlot old p id new → package_at new id ≡ Some p
slot-there old new p id (freed s generation rest vacant empty given is) =
    ap (λ g. package_in (slice_get g.slots id.slot) id) is ∙ ap (λ i. package_in (slice_get (slice_set old.slots s (record { generation = generation; «package» = Some p })) i) id) (ap (λ i. i.slot) given)
    ∙ ap (λ o. package_in o id) (slice_get-set_same old.slots s _ (record { generation = generation; «package» = Some p }) empty) ∙ same-generation generation p id (ap (λ i. i.generation) given)
slot-there old new p id (added vacant given is) =
    ap (λ g. package_in (slice_get g.slots id.slot) id) is ∙ ap (λ i. package_in (slice_get (old.slots ++ (record { generation = 0; «package» = Some p }) ∷ []) i) id) (ap (λ i. i.slot) given)
    ∙ ap (λ o. package_in o id) (slot-last old.slots (record { generation = 0; «package» = Some p })) ∙ same-generation 0 p id (ap (λ i. i.generation) given)

-- a package that was registered is there under its id
pub registered-there : (old new : Graph) (p : PackageParts) (id : PackageId) → Registers old p (Ok id) new → package_at new id ≡ Some p
registered-there old new p id h = slot-there old new p id h.1

-- a package is registered
pub registered-stays : (old new : Graph) (p : PackageParts) (r : Result PackageId RegisterPackageError) → Registers old p r new → Stays old new
registered-stays old new p (Ok id) h = slot-stays old new p id h.1
registered-stays old new p (Err (register.PackageAlreadyRegistered key)) h = stays-same old new h.0
registered-stays old new p (Err register.OutOfMemory) h = stays-same old new h

-- a node under a vacant number leaves the others
vacant-keeps : (old : Graph) (n m : NodeId) (node x : GraphNode) → node_at old n ≡ None → node_at old m ≡ Some x → map.get (map.insert old.nodes n.0 node) m.0 ≡ Some x
vacant-keeps old n m node x vacant was = by_eq m.0 n.0
    (λ same. absurd (differ (map.get old.nodes n.0) vacant (sym (ap (map.get old.nodes) same) ∙ was)))
    (λ other. insert_other old.nodes n.0 m.0 node other ∙ was)
  where
    differ : (o : Option GraphNode) → o ≡ None → o ≡ Some x → ⊥
    differ o a b = cc

-- a new node is there, and all else stays
pub node-stays : (old new : Graph) (n : NodeId) (node : GraphNode) → AddsNode old n node new → (node_at new n ≡ Some node) × Stays old new
node-stays old new n node h = (
  ap (λ (g : Graph). node_at g n) h.2 ∙ insert_same old.nodes n.0 node,
  record {
    nodes = λ m x was. ap (λ (g : Graph). node_at g m) h.2 ∙ vacant-keeps old n m node x h.1 was;
    edges = λ e was. ap (λ (g : Graph). set.contains g.edges e) h.2 ∙ was;
    packages = λ i q was. ap (λ (g : Graph). package_at g i) h.2 ∙ was;
    interfaces = λ i x was. ap (λ (g : Graph). item_at g.types.interfaces i) h.2 ∙ was;
    worlds = λ i x was. ap (λ (g : Graph). item_at g.types.worlds i) h.2 ∙ was;
  },
)

-- so is the instance of a package
pub instance-stays : (old new : Graph) (id : PackageId) (p : PackageParts) (n : NodeId) → package_at old id ≡ Some p → Instantiates old id (Ok n) new → (node_at new n ≡ Some (instance_node id p)) × Stays old new
instance-stays old new id p n there step = node-stays old new n (instance_node id p) (subst (λ o. IfSome o (λ p. AddsNode old n (instance_node id p) new)) there step)

-- the alias of an instance's export is there, and all else stays
pub alias-stays : (old new : Graph) (instance : NodeId) (source : GraphNode) (name : Name) (a : NodeId) → node_at old instance ≡ Some source → Aliases old instance name (Ok a) new
    → IsAliasBy new instance name a × Stays old new
alias-stays old new instance source name a there step = named (subst (λ o. IfSome o (λ n. AliasesOf old instance n name (Ok a) new)) there step).1 where
  given : (e : ℕ × ItemKind) → export_named old source name ≡ Some e → GivesAlias old instance source e.0 e.1 a new → IsAliasBy new instance name a × Stays old new
  given e is (inl h) = subst (λ g. IsAliasBy g instance name a × Stays old g) (sym h.1) ((source, e, there, is, h.0), stays-refl old)
  given e is (inr h) = (
    (
      source,
      e,
      ap (λ (g : Graph). node_at g instance) h.3 ∙ vacant-keeps old a instance (alias_node source e.1) source h.2 there,
      ap (λ (g : Graph). export_named g source name) h.3 ∙ is,
      ap (λ (g : Graph). set.contains g.edges (alias_edge instance a e.0)) h.3 ∙ new_edge old.edges (alias_edge instance a e.0),
    ),
    record {
      nodes = λ m x was. ap (λ (g : Graph). node_at g m) h.3 ∙ vacant-keeps old a m (alias_node source e.1) x h.2 was;
      edges = λ x was. ap (λ (g : Graph). set.contains g.edges x) h.3 ∙ kept_edge old.edges (alias_edge instance a e.0) x was;
      packages = λ i q was. ap (λ (g : Graph). package_at g i) h.3 ∙ was;
      interfaces = λ i x was. ap (λ (g : Graph). item_at g.types.interfaces i) h.3 ∙ was;
      worlds = λ i x was. ap (λ (g : Graph). item_at g.types.worlds i) h.3 ∙ was;
    },
  )

  named : IsSomeAnd (export_named old source name) (λ e. GivesAlias old instance source e.0 e.1 a new) → IsAliasBy new instance name a × Stays old new
  named h = at (export_named old source name) refl h where
    at : (o : Option (ℕ × ItemKind)) → export_named old source name ≡ o → IsSomeAnd o (λ e. GivesAlias old instance source e.0 e.1 a new) → IsAliasBy new instance name a × Stays old new
    at None is h = absurd h
    at (Some e) is h = given e is h

-- the argument of an instantiation is set, and all else stays
pub argument-stays : (old new : Graph) (consumer : NodeId) (n : GraphNode) (name : Name) (a : NodeId) (given : GraphNode) → node_at old consumer ≡ Some n → node_at old a ≡ Some given → SetsArgument old consumer name a (Ok tt) new
    → IsArgumentBy new consumer name a × Stays old new
argument-stays old new consumer n name a given there given_there step =
    at (import_named old n name) refl (subst (λ o. IfSome o (λ x. SetsOn old consumer n name a x (Ok tt) new)) given_there (subst (λ o. IfSome o (λ n. IfSome (node_at old a) (λ x. SetsOn old consumer n name a x (Ok tt) new))) there step)).1
  where
    gives : (e : ℕ × ItemKind) → import_named old n name ≡ Some e → GivesArgument old consumer a given.item_kind e.0 e.1 new → IsArgumentBy new consumer name a × Stays old new
    gives e is (inl h) = subst (λ g. IsArgumentBy g consumer name a × Stays old g) (sym h.1) ((n, e, there, is, h.0), stays-refl old)
    gives e is (inr h) = (
      (
        n,
        e,
        ap (λ (g : Graph). node_at g consumer) h.2 ∙ there,
        ap (λ (g : Graph). import_named g n name) h.2 ∙ is,
        ap (λ (g : Graph). set.contains g.edges (argument_edge a consumer e.0)) h.2 ∙ new_edge old.edges (argument_edge a consumer e.0),
      ),
      record {
        nodes = λ m x was. ap (λ (g : Graph). node_at g m) h.2 ∙ was;
        edges = λ x was. ap (λ (g : Graph). set.contains g.edges x) h.2 ∙ kept_edge old.edges (argument_edge a consumer e.0) x was;
        packages = λ i q was. ap (λ (g : Graph). package_at g i) h.2 ∙ was;
        interfaces = λ i x was. ap (λ (g : Graph). item_at g.types.interfaces i) h.2 ∙ was;
        worlds = λ i x was. ap (λ (g : Graph). item_at g.types.worlds i) h.2 ∙ was;
      },
    )

    at : (o : Option (ℕ × ItemKind)) → import_named old n name ≡ o → IsSomeAnd o (λ e. GivesArgument old consumer a given.item_kind e.0 e.1 new) → IsArgumentBy new consumer name a × Stays old new
    at None is h = absurd h
    at (Some e) is h = gives e is h

-- the import node is there, and all else stays
pub import-stays : (old new : Graph) (name : Name) (kind : ItemKind) (n : NodeId) → Imports old name kind (Ok n) new → (node_at new n ≡ Some (import_node name kind)) × Stays old new
import-stays old new name kind n step = node-stays old new n (import_node name kind) step.2

-- the definition is there, and all else stays
pub definition-stays : (old new : Graph) (name : Name) (t : AnyType) (n : NodeId) → Defines old name t (Ok n) new → (node_at new n ≡ Some (definition_node name t)) × Stays old new
definition-stays old new name t n (_, _, _, _, _, vacant, with, is) = (
  ap (λ (g : Graph). node_at g n) is ∙ insert_same old.nodes n.0 (definition_node name t),
  record {
    nodes = λ m x was. ap (λ (g : Graph). node_at g m) is ∙ vacant-keeps old n m (definition_node name t) x vacant was;
    edges = λ e was. (with e).1 (inr was);
    packages = λ i q was. ap (λ (g : Graph). package_at g i) is ∙ was;
    interfaces = λ i x was. ap (λ (g : Graph). item_at g.types.interfaces i) is ∙ was;
    worlds = λ i x was. ap (λ (g : Graph). item_at g.types.worlds i) is ∙ was;
  },
)
