use Rattle.slab.specs.Slab.{get}
use Rattle.wac_edges.proofs.FindLemmas.{AreLeft}
use Rattle.wac_edges.proofs.records.find.Given as goal

abbrev pub invariant-loop-one : goal.invariant-loop-one
invariant-loop-one l =
    (goal.iterator-loop-one).can_next l.out × (goal.iterator-loop-one).is_finite l.out ×
    AreLeft (get l.records) l.edge l.out × AreLeft (get l.records) l.edge l.into
