use Rattle.std.proofs.Common.{◌≡◌, ◌++◌, drop}
use Rattle.wac_encode_order.specs.private.Interfaces.{others_from}
use Rattle.wac_encode_order.proofs.interface.add_others.Given as goal

abbrev pub invariant-loop-i : goal.invariant-loop-i
invariant-loop-i l = l.order.items ++ others_from l.i (drop l.i l.items) ≡ l.initial.order.items ++ others_from 0 l.items
