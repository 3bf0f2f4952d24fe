use Rattle.std.proofs.Common.{◌≡◌, ◌++◌, drop}
use Rattle.wac_encode_order.specs.private.SideOrder.{lists_instance, positions_of}
use Rattle.wac_encode_order.proofs.side.add_instances.Given as goal

abbrev pub invariant-loop-i : goal.invariant-loop-i
invariant-loop-i l = l.numbers.items ++ positions_of lists_instance l.i (drop l.i l.items) ≡ l.initial.numbers.items ++ positions_of lists_instance 0 l.items
