use Rattle.std.proofs.Common.{◌≡◌, ℕ, ◌<◌, false}
use Rattle.wac_edges.specs.private.Ready.{is_left_with}
use Rattle.wac_edges.proofs.order.next_ready.Given as goal

abbrev pub invariant-loop-n : goal.invariant-loop-n
invariant-loop-n l = (m : ℕ) → m < l.n → is_left_with l.left l.counts 0 m ≡ false
