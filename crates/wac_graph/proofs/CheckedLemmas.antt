-- What is known of a name that was tested.
use Rattle.std.proofs.Common.{◌≡◌, ℕ, zero, suc, ◌<◌, arith, ap, ◌∙◌, sym, refl, subst, Option, Some, None, IfSome, IsSome, is_some, List, [], ◌∷◌, length, string_bytes, Result, Ok, Err}
use Rattle.std.specs.Map.{lookup}
use Rattle.std.specs.Str.{bytes_eq}
use Rattle.std.specs.Option.{option_map}
use Rattle.std.specs.Result.{IsErrAnd}
use Rattle.slab.specs.Slab.{get}
use Rattle.wac_types_shapes.specs.primitives.Name.{Name}
use Rattle.wac_types_shapes.specs.shapes.Named.{named_at}
use Rattle.wac_types_collection.specs.collection.Collection.{item_at}
use Rattle.wac_types_collection.specs.declared.collection.collection.Held.{Held}
use Rattle.wac_types_shapes.specs.declared.shapes.component.Interface.{Interface}
use Rattle.wac_types_shapes.specs.declared.shapes.component.InterfaceId.{InterfaceId}
use Rattle.wac_types_shapes.specs.declared.shapes.component.ItemKind.{ItemKind}
use Rattle.wac_types_shapes.specs.declared.shapes.component.ItemKind.TheVariants as item
use Rattle.wac_graph_model.specs.declared.nodes.node.Node.{Node}
use Rattle.wac_edges.specs.declared.node.NodeId.{NodeId}
use Rattle.wac_graph_model.specs.nodes.Graph.{GraphNode, node_at, interface_of}
use Rattle.wac_graph_model.specs.nodes.Nodes.{node_of}
use Rattle.wac_graph_model.specs.nodes.Steps.{IsFreeImport, export_named}
use Rattle.wac_graph_model.proofs.lemmas.nodes.NodeLemmas.{get-nodes_of}
use Rattle.wac_graph_fields.specs.private.Fields.{Fields, graph_of, Invariant}
use Rattle.wac_graph_fields.proofs.AliasLemmas.{exports_are, interface_there}
use Rattle.wac_graph_fields.proofs.ImportLemmas.{imported_already}

-- what a `?` hands on
pub handed_on : {A E : Type 0} (P : Result A E → Type 0) (r : Result A E) (e : E) → IsErrAnd r (λ y. y ≡ e) → P (Err e) → P r
handed_on P (Ok x) e h p = absurd h
handed_on P (Err y) e h p = subst (λ x. P (Err x)) (sym h) p

-- a name that no node imports is not found
pub absent : (a : Fields) → Invariant a → (name : Name) → IsFreeImport (graph_of a) name → lookup (λ k. bytes_eq name (string_bytes k)) a.imports.entries ≡ None
absent a v name free = by (lookup (λ k. bytes_eq name (string_bytes k)) a.imports.entries) refl where
  by : (o : Option NodeId) → lookup (λ k. bytes_eq name (string_bytes k)) a.imports.entries ≡ o → o ≡ None
  by None is = refl
  by (Some n) is = absurd (free n (imported_already a v name n (sym is)))

-- an instance has the export that was found
abbrev pub Exported : Fields → NodeId → Name → ℕ × ItemKind → Type 0
Exported a id name e = IfSome (node_at (graph_of a) id) (λ node. IsSome (interface_of node.item_kind) × (export_named (graph_of a) node name ≡ Some e))

pub export_there : (a : Fields) (id : NodeId) (n : Node) (i : InterfaceId) (it : Interface) (name : Name) (e : ℕ × ItemKind) → get a.nodes id.0 ≡ Some n → n.item_kind ≡ item.Instance i → item_at (a.types).interfaces i.0 ≡ Some it
    → Some e ≡ named_at 0 name it.exports → Exported a id name e
export_there a id n i it name e had is at found =
    subst (λ o. IfSome o (λ node. IsSome (interface_of node.item_kind) × (export_named (graph_of a) node name ≡ Some e))) (sym (get-nodes_of a.nodes.slots id.0 ∙ ap (option_map node_of) had)) (ap (λ k. is_some (interface_of k)) is, ap (named_at 0 name) (exports_are a n i it is at) ∙ sym found)

-- so its kind is that of an interface, which lists the export
pub record IsListed (a : Fields) (n : Node) (name : Name) (e : ℕ × ItemKind) : Type 0 where
  pub i : InterfaceId
  pub it : Interface
  pub is : n.item_kind ≡ item.Instance i
  pub at : item_at (a.types).interfaces i.0 ≡ Some it
  pub found : Some e ≡ named_at 0 name it.exports

the_item : {A : Type 0} (xs : List (Held A)) (k : ℕ) → k < length xs → (x : A) × (item_at xs k ≡ Some x)
the_item [] k h = absurd (omega (arith, h))
the_item (x ∷ xs) zero h = (x.item, refl)
the_item (x ∷ xs) (suc k) h = the_item xs k (omega (arith, h))

pub found_export : (a : Fields) → Invariant a → (id : NodeId) (n : Node) (name : Name) (position : ℕ) (kind : ItemKind) → get a.nodes id.0 ≡ Some n → Exported a id name (position, kind) → IsListed a n name (position, kind)
found_export a v id n name position kind had h = by n.item_kind refl there.0 where
  there : IsSome (interface_of n.item_kind) × (export_named (graph_of a) (node_of n) name ≡ Some (position, kind))
  there = subst (λ o. IfSome o (λ (node : GraphNode). IsSome (interface_of node.item_kind) × (export_named (graph_of a) node name ≡ Some (position, kind)))) (get-nodes_of a.nodes.slots id.0 ∙ ap (option_map node_of) had) h

  by : (k : ItemKind) → n.item_kind ≡ k → IsSome (interface_of k) → IsListed a n name (position, kind)
  by (item.Instance i) is _ =
      let (it, at) = the_item (a.types).interfaces i.0 (interface_there a v id n i had is) in
      record { i = i; it = it; is = is; at = at; found = sym there.1 ∙ ap (named_at 0 name) (exports_are a n i it is at) }
  by (item.TypeItem t) is some = cc
  by (item.Func f) is some = cc
  by (item.Component w) is some = cc
  by (item.Module m) is some = cc
  by (item.Value v) is some = cc

-- what holds whatever a node is
pub whatever : {A : Type 0} (o : Option A) (P : Type 0) → P → IfSome o (λ x. P)
whatever None P p = tt
whatever (Some a) P p = p
