use Rattle.std.proofs.Common.{◌≡◌, [], length, map}
use Rattle.std.specs.Prelude.{slice_index}
use Rattle.wac_edges.specs.private.cycles.Numbers.{AreBelow}
use Rattle.wac_edges.specs.private.Arranging.{with_all}
use Rattle.wac_edges.proofs.arranged.positions.Given as goal

abbrev pub invariant-loop-number : goal.invariant-loop-number
invariant-loop-number l = record {
  below : AreBelow (length l.ranks) l.number-iterator;
  folds : with_all l.positions.keys (map (slice_index l.ranks) l.number-iterator) ≡ with_all [] (map (slice_index l.ranks) l.numbers.keys);
}
