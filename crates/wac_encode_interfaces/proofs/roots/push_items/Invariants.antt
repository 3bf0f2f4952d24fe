use Rattle.std.proofs.Common.{◌≡◌, ◌++◌, drop, flat_map}
use Rattle.wac_encode_interfaces.specs.private.Roots.{item_root}
use Rattle.wac_encode_interfaces.proofs.roots.push_items.Given as goal

abbrev pub invariant-loop-i : goal.invariant-loop-i
invariant-loop-i l = l.found.items ++ flat_map item_root (drop l.i l.fn.items) ≡ l.initial.found.items ++ flat_map item_root l.fn.items
