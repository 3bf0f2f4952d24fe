-- A graph keeps its law where nodes are taken out with their edges and exports, and with the aliases that lead from them.
use Rattle.std.proofs.Common.{◌≡◌, ℕ, Bool, true, false, cond, not, ◌&&◌, List, refl, ap, ◌∙◌, sym, ◌⊎◌, inl, inr, Option, Some, None, IsSome, is_some}
use Rattle.std.specs.Prelude.{slice_get}
use Rattle.std.specs.Option.{option_map}
use Rattle.std.specs.Ordering.{nat_cmp}
use Rattle.std.specs.FinMap as map
use Rattle.std.specs.FinSet as set
use Rattle.slab.specs.Slab.{Slab, get}
use Rattle.wac_types_shapes.specs.primitives.Name.{Name}
use Rattle.wac_types_collection.specs.collection.Package.{PackageParts}
use Rattle.wac_edges.specs.declared.edges.Edge.{Edge}
use Rattle.wac_edges.specs.declared.node.NodeId.{NodeId}
use Rattle.wac_edges.specs.Edge.{edge_cmp, alias_edge}
use Rattle.wac_edges.specs.Order.{Edges}
use Rattle.wac_graph_model.specs.declared.nodes.node.Node.{Node}
use Rattle.wac_graph_model.specs.declared.nodes.packages.PackageId.{PackageId}
use Rattle.wac_graph_model.specs.declared.nodes.packages.Slot.{Slot}
use Rattle.wac_graph_model.specs.nodes.Graph as graph
use Rattle.wac_graph_model.specs.nodes.Graph.{Graph, GraphNode, node_at, package_at}
use Rattle.wac_graph_model.specs.nodes.Nodes.{node_of, nodes_of}
use Rattle.wac_graph_model.specs.nodes.Sound.{IsSound}
use Rattle.wac_graph_model.proofs.lemmas.nodes.JoinLemmas.{alike_itself}
use Rattle.wac_graph_model.proofs.lemmas.nodes.NodeLemmas.{get-nodes_of}
use Rattle.wac_graph_model.proofs.lemmas.nodes.PartLemmas.{IsPart, IsClosed, sound_part}
use Rattle.wac_graph_model.proofs.lemmas.nodes.TakenOut.{Left, found_left}
use Rattle.wac_graph_fields.specs.Removal.{IsWithout}
use Rattle.wac_graph_fields.specs.private.Removing.{AreTied, AreTaken}
use Rattle.wac_graph_fields.specs.private.Slots.{AreVacant}
use Rattle.wac_graph_fields.proofs.WayLemmas.{IsIn}
use Rattle.wac_graph_fields.proofs.TiedLemmas.{clash}

iff_same : (a b : Bool) → (a ≡ true → b ≡ true) → (b ≡ true → a ≡ true) → a ≡ b
iff_same true b f g = sym (f refl)
iff_same false true f g = g refl
iff_same false false f g = refl

both_true : (x y : Bool) → (x && y) ≡ true → (x ≡ true) × (y ≡ true)
both_true true y h = (refl, h)
both_true false y h = cc

not_true : (b : Bool) → not b ≡ true → b ≡ false
not_true true h = cc
not_true false h = refl

no_some : {A : Type 0} {x : A} → None ≡ Some x → ⊥
no_some h = cc

-- ---- stored nodes of which some are taken out
module _ (Goes : NodeId → Type 0) (gone : NodeId → Bool) (old : Slab Node) (were : Edges) (nodes : Slab Node) (edges : Edges) (goes : (n : NodeId) → (Goes n → gone n ≡ true) × (gone n ≡ true → Goes n)) (t : AreTaken Goes old were nodes edges) (tied : AreTied nodes edges) where
  pub nodes_left : (n : NodeId) → map.get (nodes_of nodes.slots) n.0 ≡ cond (gone n) None (map.get (nodes_of old.slots) n.0)
  nodes_left n = get-nodes_of nodes.slots n.0 ∙ split (gone n) refl (t.others n) where
    split : (b : Bool) → gone n ≡ b → (option_map node_of (get nodes n.0) ≡ option_map node_of (get old n.0)) ⊎ ((get nodes n.0 ≡ None) × Goes n) → option_map node_of (get nodes n.0) ≡ cond b None (map.get (nodes_of old.slots) n.0)
    split true is _ = ap (option_map node_of) (t.gone n ((goes n).1 is))
    split false is (inl same) = same ∙ sym (get-nodes_of old.slots n.0)
    split false is (inr both) = absurd (clash (gone n) ((goes n).0 both.1) is)

  stays : (n : NodeId) → IsSome (get nodes n.0) → gone n ≡ false
  stays n there = split (gone n) refl where
    split : (b : Bool) → gone n ≡ b → b ≡ false
    split false _ = refl
    split true is = absurd (nothing (get nodes n.0) (t.gone n ((goes n).1 is)) there) where
      nothing : (o : Option Node) → o ≡ None → IsSome o → ⊥
      nothing None p q = cc
      nothing (Some x) p q = cc

  pub edges_left : (e : Edge) → set.contains edges e ≡ (set.contains were e && (not (gone e.source) && not (gone e.target)))
  edges_left e = iff_same (set.contains edges e) (set.contains were e && (not (gone e.source) && not (gone e.target)))
      (λ h. let both = tied.ends e h in all (set.contains were e) (gone e.source) (gone e.target) (t.less e h) (stays e.source both.0) (stays e.target both.1))
      (λ h. let (stands, ends) = both_true (set.contains were e) (not (gone e.source) && not (gone e.target)) h in
      let (p, q) = both_true (not (gone e.source)) (not (gone e.target)) ends in split (not_true (gone e.source) p) (not_true (gone e.target) q) (t.taken e stands)) where
        all : (x y z : Bool) → x ≡ true → y ≡ false → z ≡ false → (x && (not y && not z)) ≡ true
        all x y z p q r = ap (λ b. b && (not y && not z)) p ∙ ap (λ b. not b && not z) q ∙ ap not r

        split : gone e.source ≡ false → gone e.target ≡ false → IsIn edges e ⊎ (Goes e.source ⊎ Goes e.target) → IsIn edges e
        split p q (inl still) = still
        split p q (inr (inl from)) = absurd (clash (gone e.source) ((goes e.source).0 from) p)
        split p q (inr (inr to)) = absurd (clash (gone e.target) ((goes e.target).0 to) q)

-- ---- a graph without some of its nodes
module _ (g : Graph) (s : IsSound g) (gone : NodeId → Bool) (nodes : map.FinMap nat_cmp GraphNode) (next : ℕ) (edges : set.FinSet edge_cmp) (exports : List (Name × NodeId)) (slots : List Slot) (vacant : List ℕ) where
  abbrev part : Graph
  part = record { types = g.types; nodes = nodes; next = next; edges = edges; exports = exports; slots = slots; vacant = vacant }

  module _ (w : IsWithout gone g part) where
    pub was_there : (n : NodeId) (node : GraphNode) → node_at part n ≡ Some node → (gone n ≡ false) × (node_at g n ≡ Some node)
    was_there n node at = split (gone n) refl (sym (w.nodes n) ∙ at) where
      split : (b : Bool) → gone n ≡ b → cond b None (node_at g n) ≡ Some node → (gone n ≡ false) × (node_at g n ≡ Some node)
      split true is h = absurd (no_some h)
      split false is h = (is, h)

    pub still_there : (n : NodeId) → gone n ≡ false → node_at part n ≡ node_at g n
    still_there n is = w.nodes n ∙ ap (λ b. cond b None (node_at g n)) is

    edge_left : (e : Edge) → IsIn g.edges e → gone e.source ≡ false → gone e.target ≡ false → IsIn edges e
    edge_left e h p q = w.edges e ∙ ap (λ b. b && (not (gone e.source) && not (gone e.target))) h ∙ ap (λ b. not b && not (gone e.target)) p ∙ ap not q

    edge_was : (e : Edge) → IsIn edges e → IsIn g.edges e × (gone e.source ≡ false) × (gone e.target ≡ false)
    edge_was e h =
        let (stands, ends) = both_true (set.contains g.edges e) (not (gone e.source) && not (gone e.target)) (sym (w.edges e) ∙ h) in
        let (p, q) = both_true (not (gone e.source)) (not (gone e.target)) ends in (stands, not_true (gone e.source) p, not_true (gone e.target) q)

    module _ (kept : Left gone g.exports exports) (none : (i : ℕ) (e : Name × NodeId) → slice_get exports i ≡ Some e → gone e.1 ≡ false)
        (behind : (instance n : NodeId) (i : ℕ) → IsIn g.edges (alias_edge instance n i) → gone instance ≡ true → gone n ≡ true)
        (before : (id : PackageId) (p : PackageParts) → package_at part id ≡ Some p → package_at g id ≡ Some p)
        (after : (n : NodeId) (node : GraphNode) → node_at part n ≡ Some node → node.kind ≡ graph.instantiation → (id : PackageId) (p : PackageParts) → node.owner ≡ Some id → package_at g id ≡ Some p → package_at part id ≡ Some p)
        (unused : AreVacant slots vacant) (once : (i j k : ℕ) → slice_get vacant i ≡ Some k → slice_get vacant j ≡ Some k → i ≡ j) where
      pub exported_there : (i : ℕ) (name : Name) (n : NodeId) → slice_get exports i ≡ Some (name, n) → IsSome (node_at part n)
      exported_there i name n at = ap is_some (still_there n (none i (name, n) at)) ∙ s.exported (kept.place i) name n (kept.was i (name, n) at)

      pub sound_without : IsSound part
      sound_without = sound_part g s nodes next edges exports slots vacant is_part is_closed where
        is_part : IsPart g part
        is_part = record {
          nodes = λ n node at. (node, (was_there n node at).1, alike_itself node);
          edges = λ e h. (edge_was e h).0;
          place = kept.place;
          exports = kept.was;
          apart = kept.apart;
          packages = before;
        }

        source_stays : (instance n : NodeId) (i : ℕ) → IsIn g.edges (alias_edge instance n i) → gone n ≡ false → gone instance ≡ false
        source_stays instance n i stands is = split (gone instance) refl where
          split : (b : Bool) → gone instance ≡ b → b ≡ false
          split false _ = refl
          split true h = absurd (clash (gone n) (behind instance n i stands h) is)

        is_closed : IsClosed g part
        is_closed = record {
          ends = λ e h. let (stands, p, q) = edge_was e h in let both = s.ends e stands in (ap is_some (still_there e.source p) ∙ both.0, ap is_some (still_there e.target q) ∙ both.1);
          exported = exported_there;
          aliases = λ n node at is instance i stands. let stay = (was_there n node at).0 in edge_left (alias_edge instance n i) stands (source_stays instance n i stands stay) stay;
          instances = after;
          first_names = λ n node name at first.
              let (stays, was) = was_there n node at in
              let (kind, found) = s.first_names n node name was first in (kind, found_left gone g.exports exports kept s.one_export name n found stays);
          definitions = λ n node at is. s.definitions n node (was_there n node at).1 is;
          vacant = unused;
          vacant_once = once;
        }
