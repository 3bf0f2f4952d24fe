use Rattle.std.proofs.Common.{◌≡◌, ℕ}
use Rattle.wac_edges.specs.declared.edges.End.TheVariants.{Incoming}
use Rattle.wac_edges.specs.declared.edges.Label.TheVariants.{Alias}
use Rattle.wac_edges.proofs.SetLemmas.{Seeks}
use Rattle.wac_edges.proofs.edges.Edges.alias_source.Given as goal

abbrev pub invariant-loop-edge : goal.invariant-loop-edge
invariant-loop-edge l =
    (goal.iterator-loop-edge).can_next l.edge-iterator × (goal.iterator-loop-edge).is_finite l.edge-iterator ×
    Seeks l.self l.fn.target Incoming (λ e. (i : ℕ) × (e.label ≡ Alias i)) l.edge-iterator.left
