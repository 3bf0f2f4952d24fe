use Rattle.std.proofs.Common.{◌≡◌, map, take}
use Rattle.wac_encode_order.specs.private.Merging.{lists_plain_type}
use Rattle.wac_encode_order.proofs.side.type_flags.Given as goal

abbrev pub invariant-loop-i : goal.invariant-loop-i
invariant-loop-i l = l.chosen.items ≡ map lists_plain_type (take l.i l.items)
