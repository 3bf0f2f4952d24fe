use Rattle.std.proofs.Common.{◌≡◌, ℕ, ◌<◌, false}
use Rattle.wac_edges.specs.private.Ready.{is_set}
use Rattle.wac_edges.proofs.order.is_done.Given as goal

abbrev pub invariant-loop-n : goal.invariant-loop-n
invariant-loop-n l = (m : ℕ) → m < l.n → is_set l.left m ≡ false
