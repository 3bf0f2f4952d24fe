use Rattle.std.proofs.Common.{◌≡◌, ◌++◌, length, map}
use Rattle.std.specs.Prelude.{slice_index}
use Rattle.wac_edges.specs.private.cycles.Numbers.{AreBelow}
use Rattle.wac_edges.proofs.ArrangedPlaces.{positions}
use Rattle.wac_edges.proofs.arranged.selected.Given as goal

abbrev pub invariant-loop-position : goal.invariant-loop-position
invariant-loop-position l = record {
  below : AreBelow (length l.all) l.position-iterator;
  read : l.selected.items ++ map (slice_index l.all) l.position-iterator ≡ map (slice_index l.all) (positions l.ranks l.numbers.keys);
}
