use Rattle.std.proofs.Common.{◌≡◌, ◌≤◌, ◌++◌, length, take}
use Rattle.wac_edges.specs.private.Arranging.{openings}
use Rattle.wac_edges.proofs.arranged.open_all.Given as goal

abbrev pub invariant-loop-i : goal.invariant-loop-i
invariant-loop-i l = record {
  within : l.i ≤ length l.numbers;
  left : l.steps.items ++ openings (take l.i l.numbers) ≡ l.initial.steps.items ++ openings l.numbers;
}

abbrev pub decreases-loop-i : goal.decreases-loop-i
decreases-loop-i l = l.i
