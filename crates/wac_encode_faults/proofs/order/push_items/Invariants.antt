use Rattle.std.proofs.Common.{◌≡◌, ◌++◌, drop}
use Rattle.wac_encode_faults.specs.private.Order.{interfaces_of, steps_into}
use Rattle.wac_encode_faults.proofs.order.push_items.Given as goal

abbrev pub invariant-loop-i : goal.invariant-loop-i
invariant-loop-i l = l.pending.items ++ steps_into (interfaces_of (drop l.i l.fn.items)) ≡ l.initial.pending.items ++ steps_into (interfaces_of l.fn.items)
