-- What is read of a node, and the argument that it is.
use Rattle.std.proofs.Common.{◌≡◌, ℕ, Bool, true, false, List, subst, Result, Ok, Err, OnOk, refl, ap, ◌∙◌, sym, Option, Some, None, IfSome, IsSome, IsSomeAnd, String, Global}
use Rattle.std.specs.Prelude.{slice_get}
use Rattle.wac_types_shapes.specs.primitives.Name.{Name}
use Rattle.wac_types_shapes.specs.declared.shapes.component.ItemKind.{ItemKind}
use Rattle.wac_types_collection.specs.collection.Collection.{Collection}
use Rattle.wac_binary.specs.declared.sorts.Sort.{Sort}
use Rattle.wac_edges.specs.declared.node.NodeId.{NodeId}
use Rattle.wac_graph_model.specs.declared.nodes.node.NodeKind.{NodeKind}
use Rattle.wac_graph_model.specs.declared.nodes.node.NodeKind.TheVariants as code
use Rattle.wac_graph_model.specs.nodes.Graph.{Graph, GraphNode, Kind, instantiation, node_at, imports_of, IsArgumentOf}
use Rattle.wac_graph_model.specs.nodes.Nodes.{kind_of}
use Rattle.wac_graph_model.specs.meaning.Means.{is_import, sort_of_kind}
use Rattle.wac_graph_model.specs.private.meaning.Encoding.{index_in}
use Rattle.wac_graph_model.specs.private.meaning.Beginning.{Places}
use Rattle.wac_graph_model.specs.private.meaning.Writing.{IsArgumentItem, of_node}
use Rattle.wac_graph_encode.specs.declared.encoding.writer.GraphWriter.{GraphWriter}
use Rattle.wac_graph_encode.specs.private.encoding.Root.{IsGraphWriter}

module _ (g : Graph) (n : NodeId) (k : NodeKind) (there : IsSomeAnd (node_at g n) (λ node. is_import node.kind ≡ false)) (is : IfSome (node_at g n) (λ node. node.kind ≡ kind_of k)) where
  -- the node is of the kind that is read
  pub of_kind : (kind : Kind) → kind_of k ≡ kind → IsSomeAnd (node_at g n) (λ node. node.kind ≡ kind)
  of_kind kind e = by (node_at g n) there is where
    by : (o : Option GraphNode) → IsSomeAnd o (λ node. is_import node.kind ≡ false) → IfSome o (λ node. node.kind ≡ kind_of k) → IsSomeAnd o (λ node. node.kind ≡ kind)
    by None h i = absurd h
    by (Some node) h i = i ∙ e

  -- and it is no import
  pub no_import : (name : String Global) → k ≡ code.Import name → ⊥
  no_import name e = by (node_at g n) there is where
    by : (o : Option GraphNode) → IsSomeAnd o (λ node. is_import node.kind ≡ false) → IfSome o (λ node. node.kind ≡ kind_of k) → ⊥
    by None h i = absurd h
    by (Some node) h i = let f : true ≡ false = sym (ap is_import (i ∙ ap kind_of e)) ∙ h in cc

-- the import that an argument is for
pub at_asked : (g : Graph) (n : NodeId) (i : ℕ) (name : Name) (P : Name × ItemKind → Type 0) → IsSomeAnd (node_at g n) (λ x. (x.kind ≡ instantiation) × IsSomeAnd (slice_get (imports_of g x) i) (λ e. e.0 ≡ name))
    → ((x : GraphNode) (kind : ItemKind) → node_at g n ≡ Some x → x.kind ≡ instantiation → slice_get (imports_of g x) i ≡ Some (name, kind) → P (name, kind))
    → IfSome (node_at g n) (λ x. IfSome (slice_get (imports_of g x) i) P)
at_asked g n i name P asked each = by_node (node_at g n) refl asked where
  by_entry : (x : GraphNode) → node_at g n ≡ Some x → x.kind ≡ instantiation → (o : Option (Name × ItemKind)) → slice_get (imports_of g x) i ≡ o → IsSomeAnd o (λ e. e.0 ≡ name) → IfSome o P
  by_entry x there one None at h = absurd h
  by_entry x there one (Some e) at h =
      subst (λ (m : Name). P (m, e.1)) (sym h) (each x e.1 there one (at ∙ ap (λ (m : Name). let entry : Name × ItemKind = (m, e.1) in Some entry) h))

  by_node : (o : Option GraphNode) → node_at g n ≡ o → IsSomeAnd o (λ x. (x.kind ≡ instantiation) × IsSomeAnd (slice_get (imports_of g x) i) (λ e. e.0 ≡ name)) → IfSome o (λ x. IfSome (slice_get (imports_of g x) i) P)
  by_node None there h = absurd h
  by_node (Some x) there h = by_entry x there h.0 (slice_get (imports_of g x) i) refl h.1

-- an argument that was set
pub set_argument : (g : Graph) (places : Places) (indexes : List ℕ) (n source : NodeId) (i : ℕ) (name : Name) (s : Sort) (k : ItemKind) → IsSome (node_at g source) → IfSome (node_at g source) (λ node. node.item_kind ≡ k) → IsArgumentOf g n i source → s ≡ sort_of_kind k
    → IsSomeAnd (node_at g n) (λ x. (x.kind ≡ instantiation) × IsSomeAnd (slice_get (imports_of g x) i) (λ e. e.0 ≡ name))
    → IfSome (node_at g n) (λ x. IfSome (slice_get (imports_of g x) i) (λ e. IsArgumentItem g places (index_in indexes) n i e (name, s, index_in indexes source)))
set_argument g places indexes n source i name s k there is given sorted asked =
    at_asked g n i name (λ e. IsArgumentItem g places (index_in indexes) n i e (name, s, index_in indexes source)) asked (λ x kind at one here. by kind (node_at g source) refl there is)
  where
    by : (kind : ItemKind) (o : Option GraphNode) → node_at g source ≡ o → IsSome o → IfSome o (λ node. node.item_kind ≡ k) → IsArgumentItem g places (index_in indexes) n i (name, kind) (name, s, index_in indexes source)
    by kind None at h j = absurd (let f : false ≡ true = h in cc)
    by kind (Some node) at h j = of_node source node refl given at (sorted ∙ ap sort_of_kind (sym j)) refl

-- ---- the writer has the graph's own types

pub own-types : (w : GraphWriter) → IsGraphWriter w → (P : Collection → Bool → Type 0) → P (w.reader.now).types false → P (w.types.now).types.now (w.types.now).merged
own-types w is P h = subst (λ (c : Collection). P c (w.types.now).merged) (sym is.types) (subst (λ (b : Bool). P (w.reader.now).types b) (sym is.own) h)

pub graph-types : (w : GraphWriter) → IsGraphWriter w → (P : Collection → Bool → Type 0) → P (w.types.now).types.now (w.types.now).merged → P (w.reader.now).types false
graph-types w is P h = subst (λ (b : Bool). P (w.reader.now).types b) is.own (subst (λ (c : Collection). P c (w.types.now).merged) is.types h)

pub on-both : {A E P Q R : Type 0} → (r : Result A E) → (P → Q → R) → OnOk r P → OnOk r Q → OnOk r R
on-both (Ok x) f g h = f g h
on-both (Err e) f g h = tt
