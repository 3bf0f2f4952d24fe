use Rattle.std.proofs.Common.{◌≡◌, ◌++◌, drop}
use Rattle.wac_encode_faults.specs.private.Order.{steps_into}
use Rattle.wac_encode_faults.proofs.order.push_all.Given as goal

abbrev pub invariant-loop-i : goal.invariant-loop-i
invariant-loop-i l = l.pending.items ++ steps_into (drop l.i l.fn.interfaces.keys) ≡ l.initial.pending.items ++ steps_into l.fn.interfaces.keys
