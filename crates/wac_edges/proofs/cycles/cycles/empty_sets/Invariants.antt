use Rattle.std.proofs.Common.{◌≡◌, ℕ, length}
use Rattle.wac_edges.specs.cycles.Cycles.{IsStep}
use Rattle.wac_edges.proofs.cycles.cycles.empty_sets.Given as goal

abbrev pub invariant-loop : goal.invariant-loop
invariant-loop l = record { counted : length l.sets.items ≡ l.counter; empty : (a b : ℕ) → IsStep l.sets.items a b → ⊥ }
