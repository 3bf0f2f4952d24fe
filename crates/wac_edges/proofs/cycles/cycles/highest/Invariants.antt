use Rattle.std.proofs.Common.{ℕ, ◌≤◌, ◌⊎◌, length}
use Rattle.std.specs.Prelude.{slice_index}
use Rattle.wac_edges.specs.private.cycles.Numbers.{AreBelow, Has}
use Rattle.wac_edges.proofs.cycles.cycles.highest.Given as goal

abbrev pub invariant-loop-b : goal.invariant-loop-b
invariant-loop-b l = record {
  low : AreBelow (length l.ranks) l.b-iterator;
  under : (n : ℕ) → Has l.steps.keys n → Has l.b-iterator n ⊎ (slice_index l.ranks n ≤ l.highest);
}
