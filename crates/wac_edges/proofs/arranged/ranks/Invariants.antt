use Rattle.std.proofs.Common.{◌≡◌, length}
use Rattle.wac_edges.proofs.ArrangedPlaces.{AreRanksTo}
use Rattle.wac_edges.proofs.arranged.ranks.Given as goal

abbrev pub invariant-loop-i : goal.invariant-loop-i
invariant-loop-i l = record { counted : length l.ranks.items ≡ l.count; ranks : AreRanksTo l.all l.ranks.items l.i }
