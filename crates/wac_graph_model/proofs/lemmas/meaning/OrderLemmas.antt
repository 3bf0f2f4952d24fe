-- There is one order in which nodes are written; no edge leads into an import, so they are in order where edges form no cycle.
use Rattle.std.proofs.Common.{◌≡◌, ◌<◌, Bool, true, false, List, [], ◌∷◌, refl, ap, sym, subst, arith, Option, Some, None, IsSome}
use Rattle.std.specs.FinSet as set
use Rattle.wac_edges.specs.declared.edges.Edge.{Edge}
use Rattle.wac_edges.specs.declared.edges.Label.{Label}
use Rattle.wac_edges.specs.declared.edges.Label.TheVariants.{Alias, Argument, Dependency}
use Rattle.wac_edges.specs.declared.node.NodeId.{NodeId}
use Rattle.wac_edges.specs.Edge.{node_number}
use Rattle.wac_edges.specs.Order.{Edges, Writes, IsLowestReady, IsAcyclic, without}
use Rattle.wac_edges.proofs.ReachLemmas.{ordered_acyclic}
use Rattle.wac_graph_model.specs.nodes.Graph.{Graph, GraphNode, node_at}
use Rattle.wac_graph_model.specs.nodes.Sound.{IsSound, Joins}
use Rattle.wac_graph_model.specs.meaning.Means.{is_import, is_written}
use Rattle.wac_graph_model.proofs.lemmas.meaning.ThingLemmas.{written_node}

the_node : (o : Option GraphNode) → IsSome o → (node : GraphNode) × (o ≡ Some node)
the_node None h = cc
the_node (Some node) h = (node, refl)

no_import : (g : Graph) (l : Label) (source target : GraphNode) → Joins g l source target → is_import target.kind ≡ false
no_import g (Alias i) source target h = ap is_import h.0
no_import g (Argument i) source target h = ap is_import h.0
no_import g Dependency source target h = ap is_import h.1

-- what an edge leads to is written
pub target_written : (g : Graph) → IsSound g → (e : Edge) → set.contains g.edges e ≡ true → is_written g e.target ≡ true
target_written g sound e stands =
    let ends = sound.ends e stands in
    let (source, source_there) = the_node (node_at g e.source) ends.0 in
    let (target, target_there) = the_node (node_at g e.target) ends.1 in
    written_node g e.target target target_there (no_import g e.label source target (sound.joins e source target stands source_there target_there))

-- so an order of these leaves no cycle
pub written_acyclic : (g : Graph) → IsSound g → (order : List NodeId) → Writes g.edges (is_written g) order → IsAcyclic g.edges
written_acyclic g sound order writes = ordered_acyclic g.edges (is_written g) order (target_written g sound) writes

-- ---- one order
not_both : {b : Bool} → b ≡ true → b ≡ false → ⊥
not_both h k = cc

-- an edge leads to a lower node that is left, so that it is not ready
lower_is_blocked : (edges : Edges) (left : NodeId → Bool) (n m : NodeId) → IsLowestReady edges left n → IsLowestReady edges left m → m.0 < n.0 → ⊥
lower_is_blocked edges left n m a b small = let (e, stands, to, from) = a.lower m small b.here in not_both from (b.free e stands to)

-- of two nodes that are the lowest that are ready neither is lower
one_next : (edges : Edges) (left : NodeId → Bool) (n m : NodeId) → IsLowestReady edges left n → IsLowestReady edges left m → n ≡ m
one_next edges left n m a b =
    let not_lower : m.0 < n.0 → ⊥ = lower_is_blocked edges left n m a b in
    let not_higher : n.0 < m.0 → ⊥ = lower_is_blocked edges left m n b a in
    let same : n.0 ≡ m.0 = omega (arith, not_lower, not_higher) in
    ap node_number same

pub one_order : (edges : Edges) (left : NodeId → Bool) (ns ms : List NodeId) → Writes edges left ns → Writes edges left ms → ns ≡ ms
one_order edges left [] [] a b = refl
one_order edges left [] (m ∷ ms) a b = absurd (not_both (b.0).here (a m))
one_order edges left (n ∷ ns) [] a b = absurd (not_both (a.0).here (b n))
one_order edges left (n ∷ ns) (m ∷ ms) a b =
    let same : n ≡ m = one_next edges left n m a.0 b.0 in
    let more : ns ≡ ms = one_order edges (without left n) ns ms a.1 (subst (λ k. Writes edges (without left k) ms) (sym same) b.1) in
    cc
