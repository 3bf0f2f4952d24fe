use Rattle.wac_graph.specs.private.Bound.{IsBoundIn, IsResourceUnder}
use Rattle.wac_graph.proofs.BoundLemmas.{AddsBefore}
use Rattle.wac_graph.proofs.bound.add_items.Given as goal

abbrev pub invariant-loop-i : goal.invariant-loop-i
invariant-loop-i l = AddsBefore IsResourceUnder (IsBoundIn l.fn.merge) l.fn.items l.initial.bound.keys l.i l.bound.keys
