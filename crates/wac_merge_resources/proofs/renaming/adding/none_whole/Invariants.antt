use Rattle.std.proofs.Common.{◌≡◌, ℕ, length}
use Rattle.wac_merge_resources.specs.private.renaming.FreshSteps.{IsWhole}
use Rattle.wac_merge_resources.proofs.renaming.adding.none_whole.Given as goal

abbrev pub invariant-loop : goal.invariant-loop
invariant-loop l = record { counted : length l.whole.items ≡ l.counter; none : (k : ℕ) → IsWhole l.whole.items k → ⊥ }
