use Rattle.std.proofs.Common.{◌≡◌, ℕ, ◌⊎◌, List, ◌++◌}
use Rattle.std.specs.Prelude.{◌↔◌}
use Rattle.wac_edges.specs.declared.edges.Edge.{Edge}
use Rattle.wac_edges.specs.Edge.{node_number}
use Rattle.wac_edges.specs.cycles.Cycles.{IsStep}
use Rattle.wac_edges.specs.private.Targets.{LeadsTo}
use Rattle.wac_edges.proofs.edges.add_targets.Given as goal

abbrev pub invariant-loop-edge : goal.invariant-loop-edge
invariant-loop-edge l =
    (goal.iterator-loop-edge).can_next l.edge-iterator × (goal.iterator-loop-edge).is_finite l.edge-iterator ×
    ((given : List Edge) × (l.fn.walk.left ≡ given ++ l.edge-iterator.left) × ((n b : ℕ) → IsStep l.targets n b ↔ (IsStep l.initial.targets n b ⊎ ((n ≡ l.a) × LeadsTo given (node_number b)))))
