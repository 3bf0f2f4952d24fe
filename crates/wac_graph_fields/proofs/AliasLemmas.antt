-- Steps of `alias_instance_export`.
use Rattle.std.proofs.Common.{◌≡◌, ℕ, suc, ◌+◌, ◌<◌, length, arith, [], ◌∷◌, Bool, true, false, cond, ap, ◌∙◌, sym, refl, subst, inl, inr, Option, Some, None, IfSome, IsSome, is_some, Ok, Err, String, Global, string_bytes, List, Result, get_or}
use Rattle.std.specs.Borrow.{Bor}
use Rattle.std.specs.Prelude.{slice_get, nat_lt}
use Rattle.std.proofs.lemmas.Bool.Decides.{nat_tests}
use Rattle.std.specs.FinSet as set
use Rattle.std.specs.Option.{option_map}
use Rattle.slab.specs.Slab.{Slab, get, Updates}
use Rattle.wac_types_shapes.specs.primitives.Name.{Name, same_name, option_case}
use Rattle.wac_types_shapes.specs.shapes.Named.{named_at}
use Rattle.wac_types_collection.specs.collection.Collection.{item_at, holds_type, IsWellFormed}
use Rattle.wac_types_shapes.specs.shapes.Kinds.{kind_type}
use Rattle.wac_graph_model.proofs.lemmas.nodes.HeldLemmas.{exports_held}
use Rattle.wac_graph_fields.proofs.InvariantLemmas.{invariant_alias}
use Rattle.wac_types_shapes.specs.shapes.Words.{kind_text}
use Rattle.wac_types_shapes.specs.declared.shapes.component.Interface.{Interface}
use Rattle.wac_types_shapes.specs.declared.shapes.component.InterfaceId.{InterfaceId}
use Rattle.wac_types_shapes.specs.declared.shapes.component.ItemKind.{ItemKind}
use Rattle.wac_types_shapes.specs.declared.shapes.component.ItemKind.TheVariants as item
use Rattle.wac_graph_model.specs.declared.nodes.node.Node.{Node}
use Rattle.wac_edges.specs.declared.node.NodeId.{NodeId}
use Rattle.wac_graph_model.specs.declared.nodes.errors.AliasError.{AliasError}
use Rattle.wac_graph_model.specs.declared.nodes.errors.AliasError.TheVariants.{NodeIsNotAnInstance, InstanceMissingExport}
use Rattle.wac_edges.specs.Edge.{edge_cmp, alias_edge}
use Rattle.wac_edges.specs.Edge.{node_number}
use Rattle.wac_graph_model.specs.nodes.Graph.{Graph, node_at, interface_of, exports_of}
use Rattle.wac_graph_model.specs.nodes.Nodes.{node_of, nodes_of, satisfied}
use Rattle.wac_graph_fields.specs.private.Fields.{Fields, graph_of, Invariant}
use Rattle.wac_graph_model.specs.nodes.Steps.{Aliases, AliasesOf, GivesAlias, alias_node, export_named}
use Rattle.wac_graph_model.proofs.lemmas.nodes.NodeLemmas.{get-nodes_of, nodes_of-insert}

aliases_at : (a : Fields) (id : NodeId) (n : Node) (name : Name) (result : Result NodeId AliasError) (new : Graph) → get a.nodes id.0 ≡ Some n → AliasesOf (graph_of a) id (node_of n) name result new → Aliases (graph_of a) id name result new
aliases_at a id n name result new had h =
    let at : node_at (graph_of a) id ≡ Some (node_of n) = get-nodes_of a.nodes.slots id.0 ∙ ap (option_map node_of) had in
    subst (λ o. IfSome o (λ m. AliasesOf (graph_of a) id m name result new)) (sym at) h

no_interface : (k : ItemKind) → ((i : InterfaceId) → k ≡ item.Instance i → ⊥) → interface_of k ≡ None
no_interface (item.TypeItem t) h = refl
no_interface (item.Func f) h = refl
no_interface (item.Component w) h = refl
no_interface (item.Module m) h = refl
no_interface (item.Value v) h = refl
no_interface (item.Instance i) h = absurd (h i refl)

pub not_instance : (a : Fields) (id : NodeId) (n : Node) (name : Name) (text : Bor (List ℕ)) → get a.nodes id.0 ≡ Some n → ((i : InterfaceId) → n.item_kind ≡ item.Instance i → ⊥) → text.now ≡ kind_text n.item_kind → Aliases (graph_of a) id name (Err (NodeIsNotAnInstance id text)) (graph_of a)
not_instance a id n name text had other said = aliases_at a id n name (Err (NodeIsNotAnInstance id text)) (graph_of a) had (refl, refl, said, no_interface n.item_kind other)

-- the exports of an instance are those of its interface
pub exports_are : (a : Fields) (n : Node) (i : InterfaceId) (it : Interface) → n.item_kind ≡ item.Instance i → item_at (a.types).interfaces i.0 ≡ Some it → exports_of (graph_of a) (node_of n) ≡ it.exports
exports_are a n i it is at = by_kind n.item_kind is where
  by_kind : (k : ItemKind) → k ≡ item.Instance i → exports_of (graph_of a) (record (node_of n) { item_kind = k }) ≡ it.exports
  by_kind k same = rw (same, at) refl

export_is : (a : Fields) (n : Node) (i : InterfaceId) (it : Interface) (name : Name) (o : Option (ℕ × ItemKind)) → n.item_kind ≡ item.Instance i → item_at (a.types).interfaces i.0 ≡ Some it → o ≡ named_at 0 name it.exports → export_named (graph_of a) (node_of n) name ≡ o
export_is a n i it name o is at found = ap (named_at 0 name) (exports_are a n i it is at) ∙ sym found

is_instance : (n : Node) (i : InterfaceId) → n.item_kind ≡ item.Instance i → IsSome (interface_of n.item_kind)
is_instance n i is = ap (λ k. is_some (interface_of k)) is

pub missing : (a : Fields) (id : NodeId) (n : Node) (i : InterfaceId) (it : Interface) (name : Name) (text : String Global) → get a.nodes id.0 ≡ Some n → n.item_kind ≡ item.Instance i → item_at (a.types).interfaces i.0 ≡ Some it → None ≡ named_at 0 name it.exports → string_bytes text ≡ name
    → Aliases (graph_of a) id name (Err (InstanceMissingExport id text)) (graph_of a)
missing a id n i it name text had is at none written =
    aliases_at a id n name (Err (InstanceMissingExport id text)) (graph_of a) had (refl, refl, written, is_instance n i is, export_is a n i it name None is at none)

pub already : (a : Fields) (id : NodeId) (n : Node) (i : InterfaceId) (it : Interface) (position alias : ℕ) (kind : ItemKind) (name : Name) → get a.nodes id.0 ≡ Some n → n.item_kind ≡ item.Instance i → item_at (a.types).interfaces i.0 ≡ Some it → Some (position, kind) ≡ named_at 0 name it.exports
    → set.contains a.edges (alias_edge id (node_number alias) position) ≡ true → Aliases (graph_of a) id name (Ok (record { 0 = alias })) (graph_of a)
already a id n i it position alias kind name had is at found stands =
    let there : AliasesOf (graph_of a) id (node_of n) name (Ok (record { 0 = alias })) (graph_of a) = rw (export_is a n i it name (Some (position, kind)) is at found) (is_instance n i is, inl (stands, refl)) in
    aliases_at a id n name (Ok (record { 0 = alias })) (graph_of a) had there

-- the alias that stands is a node
pub alias_stands : (a : Fields) → Invariant a → (instance alias position : ℕ) → set.contains a.edges (alias_edge (node_number instance) (node_number alias) position) ≡ true → IsSome (node_at (graph_of a) (record { 0 = alias }))
alias_stands a v instance alias position stands = ((v.sound).ends (alias_edge (node_number instance) (node_number alias) position) stands).1

-- and so is a new one
pub alias_made : (a : Fields) (nodes : Slab Node) (edges : set.FinSet edge_cmp) (number : ℕ) (node : Node) → Updates a.nodes nodes number (Some node) → IsSome (node_at (graph_of (record a { nodes = nodes; edges = edges })) (record { 0 = number }))
alias_made a nodes edges number node u = ap is_some (get-nodes_of nodes.slots number ∙ ap (option_map node_of) u.changed)

pub placed_updates : (reserved nodes : Slab Node) (number placed : ℕ) (node : Node) → number ≡ reserved.vacant_key → placed ≡ reserved.vacant_key → Updates reserved nodes placed (Some node) → Updates reserved nodes number (Some node)
placed_updates reserved nodes number placed node next here u = subst (λ k. Updates reserved nodes k (Some node)) (here ∙ sym next) u

-- a slab that has grown has what it had
pub before_reserve : (a : Fields) (reserved nodes : Slab Node) (number placed : ℕ) (node : Node) → reserved ≡ record a.nodes { capacity = reserved.capacity } → number ≡ reserved.vacant_key → placed ≡ reserved.vacant_key → Updates reserved nodes placed (Some node) → Updates a.nodes nodes number (Some node)
before_reserve a reserved nodes number placed node same next here u =
    let slots : reserved.slots ≡ a.nodes.slots = ap (λ s. s.slots) same in
    let v = placed_updates reserved nodes number placed node next here u in
    record { changed = v.changed; others = λ q other. v.others q other ∙ ap (λ ss. get_or ss q None) slots }

pub vacant_before : (a : Fields) (reserved : Slab Node) (number : ℕ) → reserved ≡ record a.nodes { capacity = reserved.capacity } → get reserved number ≡ None → get a.nodes number ≡ None
vacant_before a reserved number same vacant = ap (λ ss. get_or ss number None) (sym (ap (λ s. s.slots) same)) ∙ vacant

pub aliased : (a : Fields) (id : NodeId) (n : Node) (i : InterfaceId) (it : Interface) (position number : ℕ) (kind : ItemKind) (name : Name) (nodes : Slab Node) (edges : set.FinSet edge_cmp) (node : Node)
    → get a.nodes id.0 ≡ Some n → n.item_kind ≡ item.Instance i → item_at (a.types).interfaces i.0 ≡ Some it → Some (position, kind) ≡ named_at 0 name it.exports
    → ((t : NodeId) → set.contains a.edges (alias_edge id t position) ≡ false)
    → number ≡ a.nodes.vacant_key → get a.nodes number ≡ None → Updates a.nodes nodes number (Some node) → edges ≡ set.insert a.edges (alias_edge id (node_number number) position) → node_of node ≡ alias_node (node_of n) kind
    → Aliases (graph_of a) id name (Ok (record { 0 = number })) (graph_of (record a { nodes = nodes; edges = edges }))
aliased a id n i it position number kind name nodes edges node had is at found none next vacant u added shape =
    let shown : nodes_of nodes.slots ≡ _ = nodes_of-insert a.nodes nodes number node u in
    let gives : GivesAlias (graph_of a) id (node_of n) position kind (record { 0 = number }) (graph_of (record a { nodes = nodes; edges = edges })) =
    inr (
      λ other stands. absurd (false_is_not_true (sym (none other) ∙ stands)),
      next,
      get-nodes_of a.nodes.slots number ∙ ap (option_map node_of) vacant,
      λ j. record (graph_of a) { nodes = (shown ∙ ap (Rattle.std.specs.FinMap.insert (nodes_of a.nodes.slots) number) shape) j; edges = added j; next = nodes.vacant_key },
    ) in
    let there : AliasesOf (graph_of a) id (node_of n) name (Ok (record { 0 = number })) (graph_of (record a { nodes = nodes; edges = edges })) = rw (export_is a n i it name (Some (position, kind)) is at found) (is_instance n i is, gives) in
    aliases_at a id n name (Ok (record { 0 = number })) (graph_of (record a { nodes = nodes; edges = edges })) had there where
      false_is_not_true : false ≡ true → ⊥
      false_is_not_true h = cc

-- where a name is found there is such an entry
pub found_entry : (name : Name) (k position : ℕ) (kind : ItemKind) (es : List (Name × ItemKind)) → Some (position, kind) ≡ named_at k name es → (e : Name × ItemKind) × (j : ℕ) × (position ≡ k + j) × (slice_get es j ≡ Some e) × (e.1 ≡ kind)
found_entry name k position kind [] h = cc
found_entry name k position kind (e ∷ es) h = split (same_name name e.0) h (found_entry name (suc k) position kind es) where
  split : (b : Bool) → Some (position, kind) ≡ cond b (Some (k, e.1)) (named_at (suc k) name es) → (Some (position, kind) ≡ named_at (suc k) name es → (x : Name × ItemKind) × (j : ℕ) × (position ≡ suc k + j) × (slice_get es j ≡ Some x) × (x.1 ≡ kind))
      → (x : Name × ItemKind) × (j : ℕ) × (position ≡ k + j) × (slice_get (e ∷ es) j ≡ Some x) × (x.1 ≡ kind)
  split true is _ =
      let z : position ≡ k = ap (λ (o : Option (ℕ × ItemKind)). option_case o 0 (λ (x : ℕ × ItemKind). x.0)) is in
      (e, 0, omega (arith, z), refl, ap (λ (o : Option (ℕ × ItemKind)). option_case o kind (λ (x : ℕ × ItemKind). x.1)) (sym is))
  split false is more = let (x, j, at, there, same) = more is in (x, suc j, omega (arith, at), there, same)

-- what the fields keep when an alias is made
pub invariant_aliased : (a : Fields) → Invariant a → IsWellFormed a.types → (id : NodeId) (n : Node) (i : InterfaceId) (it : Interface) (position number : ℕ) (kind : ItemKind) (name : Name) (nodes : Slab Node) (edges : set.FinSet edge_cmp) (node : Node)
    → get a.nodes id.0 ≡ Some n → n.item_kind ≡ item.Instance i → item_at (a.types).interfaces i.0 ≡ Some it → Some (position, kind) ≡ named_at 0 name it.exports
    → ((t : NodeId) → set.contains a.edges (alias_edge id t position) ≡ false)
    → get a.nodes number ≡ None → Updates a.nodes nodes number (Some node) → ((j : ℕ) → satisfied node.kind j ≡ false) → edges ≡ set.insert a.edges (alias_edge id (node_number number) position) → node_of node ≡ alias_node (node_of n) kind
    → Invariant (record a { nodes = nodes; edges = edges })
invariant_aliased a v w id n i it position number kind name nodes edges node had is at found none vacant u bare added shape =
    let (e, j, place, there, same) = found_entry name 0 position kind it.exports found in
    let here : slice_get it.exports position ≡ Some e = let z : position ≡ j = omega (arith, place) in ap (slice_get it.exports) z ∙ there in
    let exported : slice_get (exports_of (graph_of a) (node_of n)) position ≡ Some (e.0, kind) = ap (λ es. slice_get es position) (exports_are a n i it is at) ∙ here ∙ ap (λ (k : ItemKind). Some (e.0, k)) same in
    let held : holds_type a.types (kind_type kind) ≡ true = ap (λ k. holds_type a.types (kind_type k)) (sym same) ∙ exports_held a.types w i.0 it at position e here in
    invariant_alias a v nodes number node vacant u bare edges id (node_of n) position e.0 kind shape (get-nodes_of a.nodes.slots id.0 ∙ ap (option_map node_of) had) exported held (λ other stands. absurd (false_is_not_true (sym (none other) ∙ stands))) added where
      false_is_not_true : false ≡ true → ⊥
      false_is_not_true h = cc

-- the interface of an instance is held
pub interface_there : (a : Fields) → Invariant a → (id : NodeId) (n : Node) (i : InterfaceId) → get a.nodes id.0 ≡ Some n → n.item_kind ≡ item.Instance i → i.0 < length (a.types).interfaces
interface_there a v id n i had is =
    let h : holds_type a.types (kind_type (item.Instance i)) ≡ true = ap (λ k. holds_type a.types (kind_type k)) (sym is) ∙ (v.sound).held id (node_of n) (get-nodes_of a.nodes.slots id.0 ∙ ap (option_map node_of) had) in
    lt_of i.0 (length (a.types).interfaces) h where
      lt_of : (k m : ℕ) → nat_lt k m ≡ true → k < m
      lt_of k m h = grind (arith, nat_tests)
