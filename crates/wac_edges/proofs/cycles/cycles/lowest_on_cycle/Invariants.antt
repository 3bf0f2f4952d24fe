use Rattle.std.proofs.Common.{ℕ, ◌<◌}
use Rattle.wac_edges.specs.cycles.Cycles.{LeadsBack}
use Rattle.wac_edges.proofs.cycles.cycles.lowest_on_cycle.Given as goal

abbrev pub invariant-loop-n : goal.invariant-loop-n
invariant-loop-n l = (m : ℕ) → m < l.n → LeadsBack l.targets m → ⊥
