use Rattle.wac_graph.proofs.DependencyLemmas.{Gathering}
use Rattle.wac_graph.proofs.dependencies.dependency_numbers.Given as goal

abbrev pub invariant-loop-edge : goal.invariant-loop-edge
invariant-loop-edge l =
    (goal.iterator-loop-edge).can_next l.edge-iterator × (goal.iterator-loop-edge).is_finite l.edge-iterator ×
    Gathering l.edges l.fn.id l.edge-iterator.left l.numbers.keys
