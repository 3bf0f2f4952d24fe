use Rattle.std.proofs.Common.{ℕ, ◌≡◌, ◌+◌, ◌-◌, vec_len}
use Rattle.wac_types_collection.specs.private.collection.Ends.{end_at}
use Rattle.wac_types_collection.proofs.collection.collection.fill_ends.Given as goal

-- each end is what it was
abbrev pub invariant-loop-ends : goal.invariant-loop-ends
invariant-loop-ends l = (i : ℕ) → end_at l.ends.items i ≡ end_at l.fn.ends.items i

abbrev pub decreases-loop-ends : goal.decreases-loop-ends
decreases-loop-ends l = l.last + 1 - vec_len l.ends
