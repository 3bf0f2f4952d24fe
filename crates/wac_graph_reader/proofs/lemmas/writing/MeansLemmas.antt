-- What holds of the nodes that are written, and of their order.
use Rattle.std.proofs.Common.{◌≡◌, ℕ, ◌<◌, Bool, true, false, List, length, refl, subst, sym, arith, Option, Some, None, IfSome, IfNone, IsSome, IsSomeAnd, ◌≤◌}
use Rattle.std.proofs.Math.Path.{fun_ext}
use Rattle.std.specs.FinSet as set
use Rattle.std.specs.Prelude.{slice_get}
use Rattle.wac_edges.specs.declared.edges.Edge.{Edge}
use Rattle.wac_edges.specs.declared.node.NodeId.{NodeId}
use Rattle.wac_edges.specs.Edge.{is_left}
use Rattle.wac_graph_model.specs.nodes.Graph.{Graph, GraphNode, node_at}
use Rattle.wac_graph_fields.specs.private.Fields.{Fields, graph_of, Invariant}
use Rattle.wac_graph_model.specs.nodes.Sound.{IsSound}
use Rattle.wac_edges.specs.Order.{Writes, IsOnCycle, IsAcyclic, IsLowestOnCycle}
use Rattle.wac_graph_model.specs.meaning.Means.{is_written, is_import}
use Rattle.wac_edges.proofs.WrittenOrder.{in_list, written_left}
use Rattle.wac_graph_model.proofs.lemmas.meaning.ThingLemmas.{node_of_written}
use Rattle.wac_graph_reader.proofs.lemmas.writing.EncodingLemmas.{node_is, none_past, by_lt}

module _ (a : Fields) (v : Invariant a) (g : Graph) (view : graph_of a ≡ g) where
  pub sound_now : IsSound g
  sound_now = subst (λ x. IsSound x) view v.sound

  pub ordered_now : (flags : List Bool) (ns : List NodeId) → ((n : NodeId) → is_left flags n ≡ is_written g n) → Writes a.edges (is_left flags) ns → Writes g.edges (is_written g) ns
  ordered_now flags ns same w = subst (λ l. Writes g.edges l ns) (fun_ext same) (subst (λ x. Writes x.edges (is_left flags) ns) view w)

  pub acyclic_now : IsAcyclic a.edges → IsAcyclic g.edges
  acyclic_now none = subst (λ x. IsAcyclic x.edges) view none

  pub lowest_now : (n : NodeId) → IsLowestOnCycle a.edges n → IsLowestOnCycle g.edges n
  lowest_now n lowest = subst (λ x. IsLowestOnCycle x.edges n) view lowest

  pub on_cycle_now : (n : NodeId) × IsOnCycle a.edges n → (n : NodeId) × IsOnCycle g.edges n
  on_cycle_now on = subst (λ x. (n : NodeId) × IsOnCycle x.edges n) view on

  pub has_room : (k : ℕ) → length a.nodes.slots ≤ k → (n : NodeId) → IsSome (node_at g n) → n.0 < k
  has_room k slots n some = by_lt n.0 k (λ small. small) (λ above. absurd (nothing (node_at (graph_of a) n) (node_is a n.0 None (none_past a n.0 (omega (arith, slots, above)))) (subst (λ x. IsSome (node_at x n)) (sym view) some))) where
    nothing : (o : Option GraphNode) → o ≡ None → IsSome o → ⊥
    nothing None _ h = cc
    nothing (Some x) h _ = cc

-- edges lead to nodes, so to numbers below the capacity
pub targets_below : (a : Fields) → Invariant a → (k : ℕ) → length a.nodes.slots ≤ k → (e : Edge) → set.contains a.edges e ≡ true → e.target.0 < k
targets_below a v k slots e stands = has_room a v (graph_of a) refl k slots e.target ((v.sound).ends e stands).1

-- the nodes of an order are no imports
pub in_order : (g : Graph) (order : List NodeId) → Writes g.edges (is_written g) order → (i : ℕ) (n : NodeId) → slice_get order i ≡ Some n → IsSomeAnd (node_at g n) (λ node. is_import node.kind ≡ false)
in_order g order writes i n h =
    let (node, there, no_import) = node_of_written g n (written_left g.edges (is_written g) order writes n (in_list order i n h)) in
    subst (λ o. IsSomeAnd o (λ (x : GraphNode). is_import x.kind ≡ false)) (sym there) no_import

pub when_none : {A : Type 0} (x : Option A) (P : Type 0) → x ≡ None → IfNone x P → P
when_none x P is h = subst (λ o. IfNone o P) is h

pub when_some : {A : Type 0} (x : Option A) (y : A) (P : A → Type 0) → x ≡ Some y → IfSome x P → P y
when_some x y P is h = subst (λ o. IfSome o P) is h
