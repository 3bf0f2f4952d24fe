use Rattle.std.proofs.Common.{◌≡◌, ◌++◌, drop}
use Rattle.wac_encode_interfaces.specs.private.Roots.{type_item_roots}
use Rattle.wac_encode_interfaces.proofs.roots.push_type_items.Given as goal

abbrev pub invariant-loop-i : goal.invariant-loop-i
invariant-loop-i l = l.found.items ++ type_item_roots (drop l.i l.fn.items) ≡ l.initial.found.items ++ type_item_roots l.fn.items
