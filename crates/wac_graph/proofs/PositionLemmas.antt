-- What stands at a position is found there by its name.
use Rattle.std.proofs.Common.{◌≡◌, ℕ, zero, suc, ◌+◌, ◌<◌, arith, ap, ◌∙◌, sym, refl, subst, cond, Bool, true, false, Option, Some, None, IfSome, IsSome, List, [], ◌∷◌, length, Ok, Err, Result, inl, inr}
use Rattle.std.specs.Prelude.{slice_get, IsSomeAnd, IfOk}
use Rattle.std.specs.Option.{option_map}
use Rattle.std.specs.FinSet as set
use Rattle.slab.specs.Slab.{get}
use Rattle.wac_types_shapes.specs.primitives.Name.{Name, same_name}
use Rattle.wac_types_shapes.specs.shapes.Named.{named_at}
use Rattle.wac_types_shapes.proofs.lemmas.shapes.Names.{same_name-true}
use Rattle.wac_types_collection.specs.collection.Collection.{item_at}
use Rattle.wac_types_shapes.specs.declared.shapes.component.Interface.{Interface}
use Rattle.wac_types_shapes.specs.declared.shapes.component.InterfaceId.{InterfaceId}
use Rattle.wac_types_shapes.specs.declared.shapes.component.ItemKind.{ItemKind}
use Rattle.wac_types_shapes.specs.declared.shapes.component.ItemKind.TheVariants as item
use Rattle.wac_types_collection.specs.subtyping.Subtype.{IsSubtype}
use Rattle.wac_edges.specs.declared.node.NodeId.{NodeId}
use Rattle.wac_edges.specs.Edge.{argument_edge}
use Rattle.wac_graph_model.specs.declared.nodes.node.Node.{Node}
use Rattle.wac_graph_model.specs.nodes.Graph as graph
use Rattle.wac_graph_model.specs.nodes.Graph.{Graph, GraphNode, node_at, interface_of, imports_of, IsArgumentOf, IsUnsatisfied}
use Rattle.wac_graph_model.specs.nodes.Nodes.{node_of}
use Rattle.wac_graph_model.specs.nodes.Steps.{SetsArgument, SetsOn, GivesArgument, import_named, export_named}
use Rattle.wac_graph_model.proofs.lemmas.nodes.NodeLemmas.{get-nodes_of}
use Rattle.wac_graph_fields.specs.private.Arguments.{HasImport}
use Rattle.wac_graph_fields.specs.private.Fields.{Fields, graph_of}
use Rattle.wac_graph_fields.proofs.AliasLemmas.{exports_are}
use Rattle.wac_graph.specs.private.plugs.Positions.{FitsImport, HasExport, HasNamed}

some_pair : {A : Type 0} (i p : ℕ) (x y : A) → ◌≡◌ {A = Option (ℕ × A)} (Some (i, x)) (Some (p, y)) → (i ≡ p) × (x ≡ y)
some_pair {A} i p x y h = let w : ◌≡◌ {A = ℕ × A} (i, x) (p, y) = cc in (ap (λ (e : ℕ × A). e.0) w, ap (λ (e : ℕ × A). e.1) w)

-- what is found under a name stands behind the first so many
entry_of : {A : Type 0} (es : List (Name × A)) (i : ℕ) (n : Name) (p : ℕ) (x : A) → named_at i n es ≡ Some (p, x) → (j : ℕ) × (p ≡ i + j) × (slice_get es j ≡ Some (n, x))
entry_of [] i n p x h = cc
entry_of {A} (e ∷ es) i n p x h = split (same_name n e.0) refl h (entry_of es (suc i) n p x) where
  split : (b : Bool) → same_name n e.0 ≡ b → cond b (Some (i, e.1)) (named_at (suc i) n es) ≡ Some (p, x) → (named_at (suc i) n es ≡ Some (p, x) → (j : ℕ) × (p ≡ suc i + j) × (slice_get es j ≡ Some (n, x)))
      → (j : ℕ) × (p ≡ i + j) × (slice_get (e ∷ es) j ≡ Some (n, x))
  split true is found _ =
      let same = some_pair i p e.1 x found in
      let name : n ≡ e.0 = same_name-true n e.0 is in
      (0, omega (arith, same.0), (λ k. Some (sym name k, same.1 k)))
  split false _ found more = let (j, at, there) = more found in (suc j, omega (arith, at), there)

-- what is found under a name at a position stands there
pub stands_at : {A : Type 0} (es : List (Name × A)) (n : Name) (p : ℕ) (x : A) → named_at 0 n es ≡ Some (p, x) → slice_get es p ≡ Some (n, x)
stands_at es n p x found =
    let e = entry_of es 0 n p x found in
    let place : p ≡ e.0 = omega (arith, e.1) in
    ap (slice_get es) place ∙ e.2

-- so the position is one of the list
pub within : {A : Type 0} (es : List A) (i : ℕ) (e : A) → slice_get es i ≡ Some e → i < length es
within [] i e at = cc
within (x ∷ es) zero e at = omega arith
within (x ∷ es) (suc i) e at = let h = within es i e at in omega (arith, h)

pub name_is : {A : Type 0} (es : List (Name × A)) (i : ℕ) (n m : Name) (x : A) → slice_get es i ≡ Some (n, x) → option_map (λ e. e.0) (slice_get es i) ≡ Some m → m ≡ n
name_is es i n m x at read = let w : Some n ≡ Some m = sym (ap (option_map (λ e. e.0)) at) ∙ read in cc

pub value_is : {A : Type 0} (es : List (Name × A)) (i : ℕ) (n : Name) (x y : A) → slice_get es i ≡ Some (n, x) → option_map (λ e. e.1) (slice_get es i) ≡ Some y → y ≡ x
value_is es i n x y at read = let w : Some x ≡ Some y = sym (ap (option_map (λ e. e.1)) at) ∙ read in cc

-- an instance lists its export at the position
pub listed_at : (a : Fields) (id : NodeId) (n : Node) (i : InterfaceId) (it : Interface) (name : Name) (position : ℕ) (kind : ItemKind) → get a.nodes id.0 ≡ Some n → n.item_kind ≡ item.Instance i → item_at (a.types).interfaces i.0 ≡ Some it
    → HasExport (graph_of a) id name position kind → slice_get it.exports position ≡ Some (name, kind)
listed_at a id n i it name position kind had is at has =
    let h : IsSome (interface_of n.item_kind) × (export_named (graph_of a) (node_of n) name ≡ Some (position, kind)) =
    subst (λ o. IfSome o (λ (node : GraphNode). IsSome (interface_of node.item_kind) × (export_named (graph_of a) node name ≡ Some (position, kind)))) (get-nodes_of a.nodes.slots id.0 ∙ ap (option_map node_of) had) has in
    stands_at it.exports name position kind (sym (ap (named_at 0 name) (exports_are a n i it is at)) ∙ h.1)

-- and an instantiation its import
pub import_at : (g : Graph) (id : NodeId) (imports : List (Name × ItemKind)) (name : Name) (position : ℕ) (kind : ItemKind) → IsSome (node_at g id) → IfSome (node_at g id) (λ n. imports ≡ imports_of g n) → HasNamed g id name position kind → slice_get imports position ≡ Some (name, kind)
import_at g id imports name position kind there = split (node_at g id) there where
  split : (o : Option GraphNode) → IsSome o → IfSome o (λ n. imports ≡ imports_of g n) → IfSome o (λ n. import_named g n name ≡ Some (position, kind)) → slice_get imports position ≡ Some (name, kind)
  split None none _ _ = cc
  split (Some n) _ are found = ap (λ l. slice_get l position) are ∙ stands_at (imports_of g n) name position kind found

pub has_import : (g : Graph) (id : NodeId) (name : Name) (position : ℕ) (kind : ItemKind) → IsSomeAnd (node_at g id) (λ n. n.kind ≡ graph.instantiation) → HasNamed g id name position kind → HasImport g id name position kind
has_import g id name position kind = split (node_at g id) where
  split : (o : Option GraphNode) → IsSomeAnd o (λ n. n.kind ≡ graph.instantiation) → IfSome o (λ n. import_named g n name ≡ Some (position, kind)) → IsSomeAnd o (λ n. (n.kind ≡ graph.instantiation) × (import_named g n name ≡ Some (position, kind)))
  split None none _ = absurd none
  split (Some n) is found = (is, found)

if_some : {X : Type 0} (o : Option X) (P : X → Type 0) → ((x : X) → o ≡ Some x → P x) → IfSome o P
if_some None P h = tt
if_some (Some x) P h = h x refl

module _ (g : Graph) (id argument : NodeId) (name : Name) (position : ℕ) (kind : ItemKind) (import : HasImport g id name position kind) where
  -- a node that is given to an import is its argument
  set_by : (new : Graph) → ((given : GraphNode) → node_at g argument ≡ Some given → (n : GraphNode) → node_at g id ≡ Some n → GivesArgument g id argument given.item_kind position kind new) → SetsArgument g id name argument (Ok tt) new
  set_by new gives = split (node_at g id) refl import where
    split : (o : Option GraphNode) → node_at g id ≡ o → IsSomeAnd o (λ n. (n.kind ≡ graph.instantiation) × (import_named g n name ≡ Some (position, kind))) → IfSome o (λ n. IfSome (node_at g argument) (λ given. SetsOn g id n name argument given (Ok tt) new))
    split None _ h = absurd h
    split (Some n) at h = if_some (node_at g argument) (λ given. SetsOn g id n name argument given (Ok tt) new)
        (λ given there. (h.0, subst (λ x. IsSomeAnd x (λ e. GivesArgument g id argument given.item_kind e.0 e.1 new)) (sym h.1) (gives given there n at)))

  pub set_again : IsArgumentOf g id position argument → SetsArgument g id name argument (Ok tt) g
  set_again stands = set_by g (λ given there n at. inl (stands, refl))

  pub set_fitting : (new : Graph) → IsUnsatisfied g id position → FitsImport g id name argument → new ≡ record g { edges = set.insert g.edges (argument_edge argument id position) } → SetsArgument g id name argument (Ok tt) new
  set_fitting new unset fits is = set_by new (λ given there n at.
      let named : import_named g n name ≡ Some (position, kind) = (subst (λ o. IsSomeAnd o (λ n. (n.kind ≡ graph.instantiation) × (import_named g n name ≡ Some (position, kind)))) at import).1 in
      let fit = subst (λ o. IfSome o (λ given. IfSome (import_named g n name) (λ e. IsSubtype g.types given.item_kind g.types e.1))) there (subst (λ o. IfSome o (λ n. IfSome (node_at g argument) (λ given. IfSome (import_named g n name) (λ e. IsSubtype g.types given.item_kind g.types e.1)))) at fits) in
      inr (unset, subst (λ o. IfSome o (λ e. IsSubtype g.types given.item_kind g.types e.1)) named fit, is))

-- what holds of an answer holds of it as something weaker
pub if_ok : {A E : Type 0} (r : Result A E) (P Q : A → Type 0) → ((a : A) → P a → Q a) → IfOk r P → IfOk r Q
if_ok (Ok a) P Q f h = f a h
if_ok (Err e) P Q f h = tt
