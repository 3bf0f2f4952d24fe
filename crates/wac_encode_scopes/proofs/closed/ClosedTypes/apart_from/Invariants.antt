use Rattle.std.specs.Prelude.{ℕ, ◌<◌, ◌-◌, slice_get, length}
use Rattle.wac_encode_scopes.specs.private.Closed.{bit_at, SaysApart}
use Rattle.wac_encode_scopes.specs.private.Telling.{is_one_of}
use Rattle.wac_encode_scopes.proofs.closed.ClosedTypes.apart_from.Given as goal

abbrev pub invariant-loop-closed : goal.invariant-loop-closed
invariant-loop-closed l = (i : ℕ) → i < length l.closed.items → SaysApart l.types (is_one_of l.these.keys) (record { 0 = i }) (bit_at (slice_get l.closed.items i))

abbrev pub decreases-loop-closed : goal.decreases-loop-closed
decreases-loop-closed l = length l.types.defined - length l.closed.items
