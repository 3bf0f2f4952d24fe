use Rattle.std.proofs.Common.{◌≡◌, ◌++◌}
use Rattle.wac_encode_order.specs.private.SideOrder.{counted_from}
use Rattle.wac_encode_order.proofs.side.add_counted.Given as goal

abbrev pub invariant-loop-i : goal.invariant-loop-i
invariant-loop-i l = l.numbers.items ≡ l.initial.numbers.items ++ counted_from l.start l.i
