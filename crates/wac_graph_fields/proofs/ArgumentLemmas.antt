-- Steps of `set_instantiation_argument`.
use Rattle.std.proofs.Common.{arith, ◌≡◌, ℕ, ◌<◌, length, Bool, true, false, ap, ◌∙◌, sym, refl, subst, Option, Some, None, IfSome, IsSome, IsSomeAnd, Ok, Err, String, Global, string_bytes, [], Result}
use Rattle.std.specs.Prelude.{slice_get, nat_lt}
use Rattle.std.specs.Result.{IsErrAnd}
use Rattle.std.specs.Option.{option_map}
use Rattle.std.specs.FinSet as set
use Rattle.std.proofs.lemmas.Bool.Decides.{nat_tests}
use Rattle.slab.specs.Slab.{Slab, get}
use Rattle.wac_types_shapes.specs.primitives.Name.{Name, option_case}
use Rattle.wac_types_shapes.specs.shapes.Named.{named_at}
use Rattle.wac_types_collection.specs.collection.Collection.{item_at, holds_type, IsWellFormed}
use Rattle.wac_types_shapes.specs.shapes.Kinds.{kind_type}
use Rattle.wac_types_collection.specs.collection.Package.{PackageParts}
use Rattle.wac_types_collection.specs.subtyping.Subtype.{IsSubtype}
use Rattle.wac_types_shapes.specs.declared.shapes.component.World.{World}
use Rattle.wac_types_shapes.specs.declared.shapes.component.ItemKind.{ItemKind}
use Rattle.wac_types.specs.declared.comparison.fault.TypeFault.TheVariants.{Mismatch}
use Rattle.wac_graph_model.specs.declared.nodes.node.Node.{Node}
use Rattle.wac_edges.specs.declared.node.NodeId.{NodeId}
use Rattle.wac_graph_model.specs.declared.nodes.node.NodeKind.{NodeKind}
use Rattle.wac_graph_model.specs.declared.nodes.node.NodeKind.TheVariants as code
use Rattle.wac_graph_model.specs.declared.nodes.packages.PackageId.{PackageId}
use Rattle.wac_graph_model.specs.declared.nodes.errors.InstantiationArgumentError.{InstantiationArgumentError}
use Rattle.wac_graph_model.specs.declared.nodes.errors.InstantiationArgumentError.TheVariants.{NodeIsNotAnInstantiation, InvalidArgumentName, ArgumentAlreadyPassed, ArgumentTypeMismatch, OutOfMemory}
use Rattle.wac_edges.specs.Edge.{edge_cmp, argument_edge}
use Rattle.wac_graph_model.specs.nodes.Graph as graph
use Rattle.wac_graph_fields.specs.private.Arguments.{IsInstantiation, HasImport, Fits, CanBeGiven}
use Rattle.wac_graph_model.specs.nodes.Graph.{Graph, GraphNode, node_at, package_at, package_in, package_of, imports_of, IsUnsatisfied, IsArgumentOf}
use Rattle.wac_graph_model.specs.nodes.Nodes.{node_of, kind_of, satisfied, satisfied_at, IsInstantiationAt, has_position, Positions}
use Rattle.wac_graph_fields.specs.private.Fields.{Fields, graph_of, Invariant}
use Rattle.wac_graph_model.specs.nodes.Steps.{SetsArgument, SetsOn, UnsetsArgument, UnsetsOn, import_named}
use Rattle.wac_graph_model.proofs.lemmas.nodes.NodeLemmas.{get-nodes_of, nodes_of-same}
use Rattle.wac_graph_model.proofs.lemmas.nodes.HeldLemmas.{imports_held}
use Rattle.wac_graph_model.proofs.lemmas.nodes.JoinLemmas.{imports_of_package}
use Rattle.wac_graph_fields.proofs.AliasLemmas.{found_entry}

clash : (b : Bool) → b ≡ true → b ≡ false → ⊥
clash true _ h = cc
clash false h _ = cc

IfSome-eq : {X : Type 0} (o : Option X) (P : X → Type 0) → ((x : X) → o ≡ Some x → P x) → IfSome o P
IfSome-eq None P h = tt
IfSome-eq (Some x) P h = h x refl

sets_at : (a : Fields) (id argument : NodeId) (n : Node) (name : Name) (result : Result (Unit {0}) InstantiationArgumentError) (new : Graph) → get a.nodes id.0 ≡ Some n
    → ((g : GraphNode) → node_at (graph_of a) argument ≡ Some g → SetsOn (graph_of a) id (node_of n) name argument g result new) → SetsArgument (graph_of a) id name argument result new
sets_at a id argument n name result new had h =
    let at : node_at (graph_of a) id ≡ Some (node_of n) = get-nodes_of a.nodes.slots id.0 ∙ ap (option_map node_of) had in
    subst (λ o. IfSome o (λ m. IfSome (node_at (graph_of a) argument) (λ g. SetsOn (graph_of a) id m name argument g result new))) (sym at)
    (IfSome-eq (node_at (graph_of a) argument) (λ g. SetsOn (graph_of a) id (node_of n) name argument g result new) h)

unsets_at : (a : Fields) (id argument : NodeId) (n : Node) (name : Name) (result : Result (Unit {0}) InstantiationArgumentError) (new : Graph) → get a.nodes id.0 ≡ Some n
    → UnsetsOn (graph_of a) id (node_of n) name argument result new → UnsetsArgument (graph_of a) id name argument result new
unsets_at a id argument n name result new had h =
    let at : node_at (graph_of a) id ≡ Some (node_of n) = get-nodes_of a.nodes.slots id.0 ∙ ap (option_map node_of) had in
    subst (λ o. IfSome o (λ m. UnsetsOn (graph_of a) id m name argument result new)) (sym at) h

pub no_instantiation : (k : NodeKind) → ((s : Positions) → k ≡ code.Instantiation s → ⊥) → kind_of k ≡ graph.instantiation → ⊥
no_instantiation code.Definition h e = cc
no_instantiation (code.Import name) h e = cc
no_instantiation (code.Instantiation s) h e = h s refl
no_instantiation code.Alias h e = cc

pub not_instantiation : (a : Fields) (id argument : NodeId) (n : Node) (name : Name) → get a.nodes id.0 ≡ Some n → ((s : Positions) → n.kind ≡ code.Instantiation s → ⊥) → SetsArgument (graph_of a) id name argument (Err (NodeIsNotAnInstantiation id)) (graph_of a)
not_instantiation a id argument n name had not_one = sets_at a id argument n name (Err (NodeIsNotAnInstantiation id)) (graph_of a) had (λ g _. (refl, refl, no_instantiation n.kind not_one))

pub not_instantiation_unset : (a : Fields) (id argument : NodeId) (n : Node) (name : Name) → get a.nodes id.0 ≡ Some n → ((s : Positions) → n.kind ≡ code.Instantiation s → ⊥) → UnsetsArgument (graph_of a) id name argument (Err (NodeIsNotAnInstantiation id)) (graph_of a)
not_instantiation_unset a id argument n name had not_one = unsets_at a id argument n name (Err (NodeIsNotAnInstantiation id)) (graph_of a) had (refl, refl, no_instantiation n.kind not_one)

item_at_node : (a : Fields) (argument : NodeId) (m : Node) → get a.nodes argument.0 ≡ Some m → (g : GraphNode) → node_at (graph_of a) argument ≡ Some g → m.item_kind ≡ g.item_kind
item_at_node a argument m given g at = let e : Some (node_of m) ≡ Some g = sym (get-nodes_of a.nodes.slots argument.0 ∙ ap (option_map node_of) given) ∙ at in let f : node_of m ≡ g = cc in ap (λ x. x.item_kind) f

pub held_node : (a : Fields) → Invariant a → (id : NodeId) (n : Node) → get a.nodes id.0 ≡ Some n → holds_type a.types (kind_type n.item_kind) ≡ true
held_node a v id n had = (v.sound).held id (node_of n) (get-nodes_of a.nodes.slots id.0 ∙ ap (option_map node_of) had)

-- an instantiation node, of which the package is found
module _ (a : Fields) (v : Invariant a) (id : NodeId) (n : Node) (s : Positions) (name : Name) (had : get a.nodes id.0 ≡ Some n) (is : n.kind ≡ code.Instantiation s) where
  owner_there : (o : PackageId) × (p : PackageParts) × (n.«package» ≡ Some o) × (package_at (graph_of a) o ≡ Some p)
  owner_there =
      let i = (v.sound).instances id (node_of n) (get-nodes_of a.nodes.slots id.0 ∙ ap (option_map node_of) had) (ap kind_of is) in
      (i.id, i.parts, i.owned, i.registered)

  pub owned : n.«package» ≡ None → ⊥
  owned none = let (o, p, some, _) = owner_there in none_some n.«package» none some where
    none_some : (x : Option PackageId) {y : PackageId} → x ≡ None → x ≡ Some y → ⊥
    none_some x p q = cc

  pub registered : (o : PackageId) → n.«package» ≡ Some o → None ≡ package_in (slice_get a.slots.items o.slot) o → ⊥
  registered o some none =
      let (q, p, other, there) = owner_there in
      let same : q ≡ o = let e : Some q ≡ Some o = sym other ∙ some in cc in
      none_some (package_in (slice_get a.slots.items o.slot) o) (sym none) (ap (λ (x : PackageId). package_in (slice_get a.slots.items x.slot) x) (sym same) ∙ there) where
        none_some : (x : Option PackageParts) {y : PackageParts} → x ≡ None → x ≡ Some y → ⊥
        none_some x p q = cc

  module _ (o : PackageId) (p : PackageParts) (some : n.«package» ≡ Some o) (there : Some p ≡ package_in (slice_get a.slots.items o.slot) o) where
    pub world_there : (p.world).0 < length (a.types).worlds
    world_there = lt_of (p.world).0 (length (a.types).worlds) ((v.sound).packages o p (sym there)).0 where
      lt_of : (k m : ℕ) → nat_lt k m ≡ true → k < m
      lt_of k m h = grind (arith, nat_tests)

    pub package_is : package_of (graph_of a) (node_of n) ≡ Some p
    package_is = by_owner n.«package» some where
      by_owner : (x : Option PackageId) → x ≡ Some o → package_of (graph_of a) (record (node_of n) { owner = x }) ≡ Some p
      by_owner x at = rw at (sym there)

    module _ (w : World) (at_world : item_at (a.types).worlds (p.world).0 ≡ Some w) where
      pub imports_are : imports_of (graph_of a) (node_of n) ≡ w.imports
      imports_are = imports_of_package (graph_of a) (node_of n) p package_is ∙ ap (λ x. option_case x [] (λ y. y.imports)) at_world

      import_is : (r : Option (ℕ × ItemKind)) → r ≡ named_at 0 name w.imports → import_named (graph_of a) (node_of n) name ≡ r
      import_is r found = ap (named_at 0 name) imports_are ∙ sym found

      pub invalid_name : (argument : NodeId) (text of_package : String Global) → None ≡ named_at 0 name w.imports → string_bytes text ≡ name → string_bytes of_package ≡ p.name → SetsArgument (graph_of a) id name argument (Err (InvalidArgumentName id text of_package)) (graph_of a)
      invalid_name argument text of_package none written titled =
          sets_at a id argument n name (Err (InvalidArgumentName id text of_package)) (graph_of a) had
          (λ g _. (refl, refl, written, subst (λ x. IsSomeAnd x (λ q. string_bytes of_package ≡ q.name)) (sym package_is) titled, ap kind_of is, import_is None none))

      pub invalid_name_unset : (argument : NodeId) (text of_package : String Global) → None ≡ named_at 0 name w.imports → string_bytes text ≡ name → string_bytes of_package ≡ p.name → UnsetsArgument (graph_of a) id name argument (Err (InvalidArgumentName id text of_package)) (graph_of a)
      invalid_name_unset argument text of_package none written titled =
          unsets_at a id argument n name (Err (InvalidArgumentName id text of_package)) (graph_of a) had
          (refl, refl, written, subst (λ x. IsSomeAnd x (λ q. string_bytes of_package ≡ q.name)) (sym package_is) titled, ap kind_of is, import_is None none)

      pub no_memory_unset : (argument : NodeId) → None ≡ named_at 0 name w.imports → UnsetsArgument (graph_of a) id name argument (Err OutOfMemory) (graph_of a)
      no_memory_unset argument none = unsets_at a id argument n name (Err OutOfMemory) (graph_of a) had (refl, ap kind_of is, import_is None none)

      pub no_memory : (argument : NodeId) → None ≡ named_at 0 name w.imports → SetsArgument (graph_of a) id name argument (Err OutOfMemory) (graph_of a)
      no_memory argument none = sets_at a id argument n name (Err OutOfMemory) (graph_of a) had
          (λ g _. (refl, ap kind_of is, subst (λ x. IfSome x (λ e. IsArgumentOf (graph_of a) id e.0 argument → ⊥)) (sym (import_is None none)) tt))

      pub import_held : (position : ℕ) (kind : ItemKind) → Some (position, kind) ≡ named_at 0 name w.imports → IsWellFormed a.types → holds_type a.types (kind_type kind) ≡ true
      import_held position kind found law =
          let (e, j, place, at, same) = found_entry name 0 position kind w.imports found in
          ap (λ k. holds_type a.types (kind_type k)) (sym same) ∙ imports_held a.types law (p.world).0 w at_world j e at

      pub has_import : (position : ℕ) (kind : ItemKind) → Some (position, kind) ≡ named_at 0 name w.imports → HasImport (graph_of a) id name position kind
      has_import position kind found =
          subst (λ x. IsSomeAnd x (λ m. (m.kind ≡ graph.instantiation) × (import_named (graph_of a) m name ≡ Some (position, kind)))) (sym (get-nodes_of a.nodes.slots id.0 ∙ ap (option_map node_of) had))
          (ap kind_of is, import_is (Some (position, kind)) found)

-- a node that is no instantiation has no imports
pub has_no_import : (a : Fields) (id : NodeId) (n : Node) (name : Name) (position : ℕ) (kind : ItemKind) → get a.nodes id.0 ≡ Some n → HasImport (graph_of a) id name position kind → ((s : Positions) → n.kind ≡ code.Instantiation s → ⊥) → ⊥
has_no_import a id n name position kind had import not_one =
    no_instantiation n.kind not_one (subst (λ x. IsSomeAnd x (λ m. (m.kind ≡ graph.instantiation) × (import_named (graph_of a) m name ≡ Some (position, kind)))) (get-nodes_of a.nodes.slots id.0 ∙ ap (option_map node_of) had) import).0

-- a node with an import is there
pub import_there : (g : Graph) (id : NodeId) (name : Name) (position : ℕ) (kind : ItemKind) → HasImport g id name position kind → IsSome (node_at g id)
import_there g id name position kind import = split (node_at g id) import where
  split : (o : Option GraphNode) → IsSomeAnd o (λ m. (m.kind ≡ graph.instantiation) × (import_named g m name ≡ Some (position, kind))) → IsSome o
  split None h = absurd h
  split (Some x) _ = refl

-- where the edge is taken away, the argument is unset
pub unset : (g : Graph) (id argument : NodeId) (name : Name) (position : ℕ) (kind : ItemKind) (new : Graph) → HasImport g id name position kind → new ≡ record g { edges = set.remove g.edges (argument_edge argument id position) } → UnsetsArgument g id name argument (Ok tt) new
unset g id argument name position kind new import is = split (node_at g id) import where
  split : (o : Option GraphNode) → IsSomeAnd o (λ m. (m.kind ≡ graph.instantiation) × (import_named g m name ≡ Some (position, kind))) → IfSome o (λ n. UnsetsOn g id n name argument (Ok tt) new)
  split None h = absurd h
  split (Some m) h = (h.0, subst (λ x. IsSomeAnd x (λ e. new ≡ record g { edges = set.remove g.edges (argument_edge argument id e.0) })) (sym h.1) is)

-- memory runs out for an argument that is not set
pub out_of_memory : (g : Graph) (id argument : NodeId) (name : Name) (position : ℕ) (kind : ItemKind) → HasImport g id name position kind → (IsArgumentOf g id position argument → ⊥) → SetsArgument g id name argument (Err OutOfMemory) g
out_of_memory g id argument name position kind import other = split (node_at g id) import where
  split : (o : Option GraphNode) → IsSomeAnd o (λ m. (m.kind ≡ graph.instantiation) × (import_named g m name ≡ Some (position, kind))) → IfSome o (λ n. IfSome (node_at g argument) (λ given. SetsOn g id n name argument given (Err OutOfMemory) g))
  split None h = absurd h
  split (Some m) h = IfSome-eq (node_at g argument) (λ given. SetsOn g id m name argument given (Err OutOfMemory) g) (λ given at. (refl, h.0, subst (λ x. IfSome x (λ e. IsArgumentOf g id e.0 argument → ⊥)) (sym h.1) other))

-- what a `?` hands on
pub handed_on : (g : Graph) (id : NodeId) (name : Name) (argument : NodeId) (r : Result (Unit {0}) InstantiationArgumentError) (e : InstantiationArgumentError) → IsErrAnd r (λ y. y ≡ e) → UnsetsArgument g id name argument (Err e) g → UnsetsArgument g id name argument r g
handed_on g id name argument (Ok x) e h p = absurd h
handed_on g id name argument (Err y) e h p = subst (λ x. UnsetsArgument g id name argument (Err x) g) (sym h) p

pub has_instantiation : (g : Graph) (id : NodeId) (name : Name) (position : ℕ) (kind : ItemKind) → HasImport g id name position kind → IsInstantiation g id
has_instantiation g id name position kind import = split (node_at g id) import where
  split : (o : Option GraphNode) → IsSomeAnd o (λ m. (m.kind ≡ graph.instantiation) × (import_named g m name ≡ Some (position, kind))) → IsSomeAnd o (λ n. n.kind ≡ graph.instantiation)
  split None h = absurd h
  split (Some m) h = h.0

-- an instantiation, with the import of a name
module _ (a : Fields) (v : Invariant a) (id : NodeId) (n : Node) (s : Positions) (name : Name) (position : ℕ) (kind : ItemKind) (had : get a.nodes id.0 ≡ Some n) (is : n.kind ≡ code.Instantiation s) (import : HasImport (graph_of a) id name position kind) where
  named : import_named (graph_of a) (node_of n) name ≡ Some (position, kind)
  named = (subst (λ x. IsSomeAnd x (λ m. (m.kind ≡ graph.instantiation) × (import_named (graph_of a) m name ≡ Some (position, kind)))) (get-nodes_of a.nodes.slots id.0 ∙ ap (option_map node_of) had) import).1

  marked_at : (b : Bool) → has_position s position ≡ b → satisfied_at (get a.nodes id.0) position ≡ b
  marked_at b h = ap (λ x. satisfied_at x position) had ∙ ap (λ k. satisfied k position) is ∙ h

  pub passed_already : (argument : NodeId) (text : String Global) → string_bytes text ≡ name → (IsArgumentOf (graph_of a) id position argument → ⊥) → has_position s position ≡ true → SetsArgument (graph_of a) id name argument (Err (ArgumentAlreadyPassed id text)) (graph_of a)
  passed_already argument text written other marked =
      sets_at a id argument n name (Err (ArgumentAlreadyPassed id text)) (graph_of a) had
      (λ g _. (
        refl,
        refl,
        written,
        ap kind_of is,
        rw named (other, v.edged id position (marked_at true marked)),
      ))

  pub unsatisfied : has_position s position ≡ false → IsUnsatisfied (graph_of a) id position
  unsatisfied unmarked source stands = clash (satisfied_at (get a.nodes id.0) position) (v.marked source id position stands) (marked_at false unmarked)

-- a node with an import, for which nothing is given
module _ (a : Fields) (id : NodeId) (name : Name) (position : ℕ) (kind : ItemKind) (import : HasImport (graph_of a) id name position kind) (unset : IsUnsatisfied (graph_of a) id position) where
  pub mismatch : (argument : NodeId) (m : Node) (text : String Global) → string_bytes text ≡ name → get a.nodes argument.0 ≡ Some m → (IsSubtype a.types m.item_kind a.types kind → ⊥) → SetsArgument (graph_of a) id name argument (Err (ArgumentTypeMismatch text Mismatch)) (graph_of a)
  mismatch argument m text written given differ = split (node_at (graph_of a) id) import where
    split : (o : Option GraphNode) → IsSomeAnd o (λ m. (m.kind ≡ graph.instantiation) × (import_named (graph_of a) m name ≡ Some (position, kind)))
        → IfSome o (λ n. IfSome (node_at (graph_of a) argument) (λ g. SetsOn (graph_of a) id n name argument g (Err (ArgumentTypeMismatch text Mismatch)) (graph_of a)))
    split None h = absurd h
    split (Some n) h = IfSome-eq (node_at (graph_of a) argument) (λ g. SetsOn (graph_of a) id n name argument g (Err (ArgumentTypeMismatch text Mismatch)) (graph_of a)) (λ g at. (
      refl,
      written,
      h.0,
      refl,
      rw h.1 (unset, λ fits. differ (subst (λ k. IsSubtype a.types k a.types kind) (sym (item_at_node a argument m given g at)) fits)),
    ))

  pub fits : (argument : NodeId) (m : Node) → get a.nodes argument.0 ≡ Some m → IsSubtype a.types m.item_kind a.types kind → Fits (graph_of a) id position kind argument
  fits argument m given subtype = (
    unset,
    IfSome-eq (node_at (graph_of a) argument) (λ g. IsSubtype a.types g.item_kind a.types kind) (λ g at. subst (λ k. IsSubtype a.types k a.types kind) (item_at_node a argument m given g at) subtype),
  )

-- what the fields mean where only the edges have changed
pub same_graph : (a : Fields) (nodes : Slab Node) (edges others : set.FinSet edge_cmp) → ((q : ℕ) → option_map node_of (get nodes q) ≡ option_map node_of (get a.nodes q)) → nodes.vacant_key ≡ a.nodes.vacant_key → edges ≡ others
    → graph_of (record a { nodes = nodes; edges = edges }) ≡ record (graph_of a) { edges = others }
same_graph a nodes edges others same next e = λ j. record (graph_of a) { nodes = nodes_of-same a.nodes.slots nodes.slots same j; next = next j; edges = e j }

pub is_instantiation : (a : Fields) (id : NodeId) → IsInstantiation (graph_of a) id → IsInstantiationAt (get a.nodes id.0)
is_instantiation a id h = split (get a.nodes id.0) (subst (λ x. IsSomeAnd x (λ m. m.kind ≡ graph.instantiation)) (get-nodes_of a.nodes.slots id.0) h) where
  split : (o : Option Node) → IsSomeAnd (option_map node_of o) (λ m. m.kind ≡ graph.instantiation) → IsInstantiationAt o
  split None wrong = absurd wrong
  split (Some x) is = is

pub absent_edge : (b : Bool) → (b ≡ true → ⊥) → b ≡ false
absent_edge true h = absurd (h refl)
absent_edge false h = refl

-- what fits an import can be given for it
pub can_be_given : (g : Graph) (id argument : NodeId) (name : Name) (position : ℕ) (kind : ItemKind) → HasImport g id name position kind → Fits g id position kind argument → IsSome (node_at g argument) → CanBeGiven g id position argument
can_be_given g id argument name position kind import fits there = both (node_at g id) (node_at g argument) refl refl import fits.1 there where
  both : (o r : Option GraphNode) → node_at g id ≡ o → node_at g argument ≡ r → IsSomeAnd o (λ m. (m.kind ≡ graph.instantiation) × (import_named g m name ≡ Some (position, kind))) → IfSome r (λ x. IsSubtype g.types x.item_kind g.types kind) → IsSome r
      → CanBeGiven g id position argument
  both None r here given none subtype some = absurd none
  both (Some n) None here given is subtype none = cc
  both (Some n) (Some m) here given is subtype some =
      let (e, j, place, at, same) = found_entry name 0 position kind (imports_of g n) (sym is.1) in
      let at_position : slice_get (imports_of g n) position ≡ Some e = let z : position ≡ j = omega (arith, place) in ap (slice_get (imports_of g n)) z ∙ at in
      record {
        given = m;
        consumer = n;
        there = given;
        here = here;
        joins = (is.0, subst (λ o. IsSomeAnd o (λ x. IsSubtype g.types m.item_kind g.types x.1)) (sym at_position) (subst (λ k. IsSubtype g.types m.item_kind g.types k) (sym same) subtype));
        unset = fits.0;
      }

pub given_instantiation : (g : Graph) (id argument : NodeId) (position : ℕ) → CanBeGiven g id position argument → IsInstantiation g id
given_instantiation g id argument position can = subst (λ o. IsSomeAnd o (λ n. n.kind ≡ graph.instantiation)) (sym can.here) can.joins.0

-- its edge does not stand
pub unset_edge : (a : Fields) (id argument : NodeId) (position : ℕ) → CanBeGiven (graph_of a) id position argument → set.contains a.edges (argument_edge argument id position) ≡ false
unset_edge a id argument position can = absent_edge (set.contains a.edges (argument_edge argument id position)) (can.unset argument)
