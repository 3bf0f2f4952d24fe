use Rattle.std.proofs.Common.{◌≡◌, length, fold}
use Rattle.wac_edges.specs.private.cycles.Numbers.{AreBelow}
use Rattle.wac_edges.specs.private.cycles.CycleSearch.{marked}
use Rattle.wac_edges.proofs.cycles.cycles.mark.Given as goal

abbrev pub invariant-loop-b : goal.invariant-loop-b
invariant-loop-b l = record {
  low : AreBelow (length l.reached.items) l.b-iterator;
  folds : fold marked (l.reached.items, l.pending.items) l.b-iterator ≡ fold marked (l.initial.reached.items, l.initial.pending.items) l.steps.keys;
}
