use Rattle.std.proofs.Common.{◌≡◌, Some}
use Rattle.wac_edges.specs.declared.edges.End.TheVariants.{Incoming}
use Rattle.wac_edges.proofs.SetLemmas.{Seeks}
use Rattle.wac_graph_fields.proofs.taking.other_into.Given as goal

abbrev pub invariant-loop-edge : goal.invariant-loop-edge
invariant-loop-edge l =
    (goal.iterator-loop-edge).can_next l.edge-iterator × (goal.iterator-loop-edge).is_finite l.edge-iterator ×
    Seeks l.edges l.fn.node Incoming (λ e. l.kept ≡ Some e → ⊥) l.edge-iterator.left
