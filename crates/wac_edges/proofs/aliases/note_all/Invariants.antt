use Rattle.wac_edges.proofs.AliasLemmas.{AreNoting}
use Rattle.wac_edges.proofs.aliases.note_all.Given as goal

abbrev pub invariant-loop-edge : goal.invariant-loop-edge
invariant-loop-edge l =
    (goal.iterator-loop-edge).can_next l.edge-iterator × (goal.iterator-loop-edge).is_finite l.edge-iterator ×
    AreNoting l.fn.walk.left l.edge-iterator.left l.initial.aliases l.aliases
