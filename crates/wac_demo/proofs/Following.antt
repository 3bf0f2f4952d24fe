-- What the calls of a composition leave in the graph.
use Rattle.std.proofs.Common.{◌≡◌, ℕ, List, [], ◌∷◌, ◌++◌, length, refl, ap, ◌∙◌, sym, subst, Option, Some, None, Ok, IsSome, is_some}
use Rattle.std.specs.Prelude.{IsSomeAnd}
use Rattle.std.proofs.lemmas.Bool.{false≢true}
use Rattle.wac_types_shapes.specs.primitives.Name.{Name, option_case}
use Rattle.wac_types_shapes.specs.shapes.Named.{named_at}
use Rattle.wac_types_collection.specs.collection.Collection.{item_at, world_imports, world_exports, with_world}
use Rattle.wac_types_collection.specs.collection.Package.{PackageParts}
use Rattle.wac_types_collection.specs.declared.collection.collection.Held.{Held}
use Rattle.wac_types_shapes.specs.declared.shapes.component.Interface.{Interface}
use Rattle.wac_types_shapes.specs.declared.shapes.component.ItemKind.{ItemKind}
use Rattle.wac_types_shapes.specs.declared.shapes.component.World.{World}
use Rattle.wac_types_shapes.specs.declared.shapes.component.WorldId.{WorldId}
use Rattle.wac_edges.specs.declared.node.NodeId.{NodeId}
use Rattle.wac_graph_model.specs.declared.nodes.packages.PackageId.{PackageId}
use Rattle.wac_edges.specs.Edge.{alias_edge}
use Rattle.wac_graph_model.specs.nodes.Graph.{Graph, GraphNode, node_at, package_at}
use Rattle.wac_graph_model.specs.nodes.Steps.{Adds, Registers, Instantiates, instance_node, Aliases, export_named, SetsArgument}
use Rattle.wac_binary.specs.Bytes.{preamble}
use Rattle.wac_graph_model.specs.nodes.Stays.{Stays, IsAliasBy}
use Rattle.wac_graph_model.proofs.lemmas.nodes.StaysLemmas.{stays-trans, instance-stays, alias-stays, argument-stays, registered-there}
use Rattle.wac_demo.specs.Composed.{HasPackageParts, IsInstanceOf, GivesExport, IsEmptyPackage}

pub item-last : {A : Type 0} (xs : List (Held A)) (x : Held A) → item_at (xs ++ x ∷ []) (length xs) ≡ Some x.item
item-last [] x = refl
item-last (y ∷ xs) x = item-last xs x

-- the package that was made of a new world and registered
pub registered-is : (g0 g1 g2 g3 : Graph) (w : World) (world : WorldId) (p : PackageParts) (id : PackageId) (name : Name) (imports exports : List (Name × ItemKind))
    → Adds g0 (Ok world) g1 (λ id types. (id.0 ≡ length g0.types.worlds) × (types ≡ with_world g0.types w))
    → (w.imports ≡ imports) → (w.exports ≡ exports)
    → (p.name ≡ name) → (p.version ≡ None) → (p.bytes ≡ preamble) → (p.world ≡ world)
    → Stays g1 g3 → Registers g2 p (Ok id) g3 → IsEmptyPackage g3 id name imports exports
registered-is g0 g1 g2 g3 w world p id name imports exports added is_imports is_exports is_name is_version is_bytes is_world kept h =
    subst (λ o. IsSomeAnd o (λ p. HasPackageParts g3.types p name imports exports))
    (sym there) (is_name, is_version, is_bytes, listed_imports, listed_exports)
  where
    there : package_at g3 id ≡ Some p
    there = registered-there g2 g3 p id h

    world_there : item_at g3.types.worlds world.0 ≡ Some w
    world_there = kept.worlds world.0 w (ap (λ t. item_at t.worlds world.0) added.0.1 ∙ ap (λ i. item_at (with_world g0.types w).worlds i) added.0.0 ∙ item-last g0.types.worlds (record { item = w; before = _ }))

    listed_imports : world_imports g3.types p.world ≡ imports
    listed_imports = ap (world_imports g3.types) is_world ∙ rw world_there is_imports

    listed_exports : world_exports g3.types p.world ≡ exports
    listed_exports = ap (world_exports g3.types) is_world ∙ rw world_there is_exports

-- what an interface lists stays listed
named-stays : (o q : Option Interface) → ((x : Interface) → o ≡ Some x → q ≡ Some x) → (name : Name) (e : ℕ × ItemKind) → named_at 0 name (option_case o [] (λ x. x.exports)) ≡ Some e → named_at 0 name (option_case q [] (λ x. x.exports)) ≡ Some e
named-stays None q f name e h = cc
named-stays (Some x) q f name e h = rw (f x refl) h

pub instance-later : (old new : Graph) (name : Name) (n : NodeId) → Stays old new → IsInstanceOf old name n → IsInstanceOf new name n
instance-later old new name n kept h = (h.0, h.1, kept.nodes n _ h.2, kept.packages h.0 h.1 h.3, h.4)

-- an alias of an instance's export stays one
pub alias-later : (old new : Graph) (instance : NodeId) (id : PackageId) (p : PackageParts) (name : Name) (a : NodeId) → Stays old new → node_at old instance ≡ Some (instance_node id p) → IsAliasBy old instance name a → IsAliasBy new instance name a
alias-later old new instance id p name a kept is h =
    let same : h.0 ≡ instance_node id p = some_same (node_at old instance) h.0 (instance_node id p) h.2 is in (
      instance_node id p,
      h.1,
      kept.nodes instance _ is,
      named-stays (item_at old.types.interfaces (p.instance_type).0) (item_at new.types.interfaces (p.instance_type).0) (kept.interfaces (p.instance_type).0) name h.1 (subst (λ n. export_named old n name ≡ Some h.1) same h.3),
      kept.edges (alias_edge instance a h.1.0) h.4,
    )
  where
    some_same : (o : Option GraphNode) (x y : GraphNode) → o ≡ Some x → o ≡ Some y → x ≡ y
    some_same o x y e f = cc

-- the parts of a registered package of this name
pub parts-of : (g : Graph) (id : PackageId) (name : Name) (imports exports : List (Name × ItemKind)) → IsEmptyPackage g id name imports exports → (p : PackageParts) × (package_at g id ≡ Some p) × (p.name ≡ name)
parts-of g id name imports exports h = at (package_at g id) refl h where
  at : (o : Option PackageParts) → package_at g id ≡ o → IsSomeAnd o (λ p. HasPackageParts g.types p name imports exports)
      → (p : PackageParts) × (package_at g id ≡ Some p) × (p.name ≡ name)
  at None is h = absurd h
  at (Some p) is h = (p, is, h.0)

pub some-of : {A : Type 0} (o : Option A) → IsSome o → (a : A) × (o ≡ Some a)
some-of None h = absurd (false≢true h)
some-of (Some a) h = (a, refl)

pub there-is : {A : Type 0} (o : Option A) (a : A) → o ≡ Some a → IsSome o
there-is o a h = ap is_some h

-- an instance of a registered package is there
pub instance-there : (g2 g3 : Graph) (id : PackageId) (name : Name) (imports exports : List (Name × ItemKind)) (n : NodeId) → IsEmptyPackage g2 id name imports exports → Instantiates g2 id (Ok n) g3
    → IsInstanceOf g3 name n × Stays g2 g3
instance-there g2 g3 id name imports exports n registered step =
    let parts = parts-of g2 id name imports exports registered in
    let made = instance-stays g2 g3 id parts.0 n parts.1 step in
    ((id, parts.0, made.0, made.1.packages id parts.0 parts.1, parts.2), made.1)

-- the calls of a composition that gives an export of one instance to another
module _ (g2 g3 g4 g5 g6 g7 : Graph) (first second : PackageId) (one exported two imported : Name) (imports_one exports_one imports_two exports_two : List (Name × ItemKind)) (giver a taker : NodeId)
    (registered_one : IsEmptyPackage g2 first one imports_one exports_one) (instance_one : Instantiates g2 first (Ok giver) g3) (aliased : Aliases g3 giver exported (Ok a) g4) (alias_there : IsSome (node_at g4 a))
    (between : Stays g4 g5) (registered_two : IsEmptyPackage g5 second two imports_two exports_two) (instance_two : Instantiates g5 second (Ok taker) g6) where
  pub given-there : IsSome (node_at g6 a)
  given-there =
      let is = some-of (node_at g4 a) alias_there in
      there-is (node_at g6 a) is.0 ((instance-there g5 g6 second two imports_two exports_two taker registered_two instance_two).1.nodes a is.0 (between.nodes a is.0 is.1))

  pub gives-export : SetsArgument g6 taker imported a (Ok tt) g7 → GivesExport g7 one exported two imported
  gives-export step =
      let giver_is = instance-there g2 g3 first one imports_one exports_one giver registered_one instance_one in
      let alias_is = alias-stays g3 g4 giver (instance_node giver_is.0.0 giver_is.0.1) exported a giver_is.0.2 aliased in
      let taker_is = instance-there g5 g6 second two imports_two exports_two taker registered_two instance_two in
      let given = some-of (node_at g6 a) given-there in
      let set_is = argument-stays g6 g7 taker (instance_node taker_is.0.0 taker_is.0.1) imported a given.0 taker_is.0.2 given.1 step in
      let after : Stays g4 g7 = stays-trans g4 g5 g7 between (stays-trans g5 g6 g7 taker_is.1 set_is.1) in (
        giver,
        a,
        taker,
        instance-later g3 g7 one giver (stays-trans g3 g4 g7 alias_is.1 after) giver_is.0,
        alias-later g4 g7 giver giver_is.0.0 giver_is.0.1 exported a after (alias_is.1.nodes giver (instance_node giver_is.0.0 giver_is.0.1) giver_is.0.2) alias_is.0,
        instance-later g6 g7 two taker set_is.1 taker_is.0,
        set_is.0,
      )
