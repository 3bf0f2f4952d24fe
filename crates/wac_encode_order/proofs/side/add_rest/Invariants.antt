use Rattle.std.proofs.Common.{◌≡◌, ◌++◌, drop}
use Rattle.wac_encode_order.specs.private.SideOrder.{lists_rest, positions_of}
use Rattle.wac_encode_order.proofs.side.add_rest.Given as goal

abbrev pub invariant-loop-i : goal.invariant-loop-i
invariant-loop-i l = l.numbers.items ++ positions_of lists_rest l.i (drop l.i l.items) ≡ l.initial.numbers.items ++ positions_of lists_rest 0 l.items
