use Rattle.std.proofs.Common.{◌≡◌}
use Rattle.wac_edges.proofs.SetLemmas.{Seeks}
use Rattle.wac_edges.proofs.edges.Edges.has.Given as goal

abbrev pub invariant-loop-edge : goal.invariant-loop-edge
invariant-loop-edge l =
    (goal.iterator-loop-edge).can_next l.edge-iterator × (goal.iterator-loop-edge).is_finite l.edge-iterator ×
    Seeks l.self l.fn.node l.fn.end (λ e. e.label ≡ l.label) l.edge-iterator.left
