use Rattle.std.proofs.Common.{◌≡◌, map, take}
use Rattle.wac_encode_order.specs.private.Interfaces.{lists_other_type}
use Rattle.wac_encode_order.proofs.interface.other_types.Given as goal

abbrev pub invariant-loop-i : goal.invariant-loop-i
invariant-loop-i l = l.chosen.items ≡ map (lists_other_type l.types l.interface.uses) (take l.i l.interface.exports)
