use Rattle.std.proofs.Common.{◌≡◌, ◌++◌, ◌≤◌, length, reverse, drop}
use Rattle.wac_types_collection.specs.wide.Wide.{used_interfaces}
use Rattle.wac_encode_faults.specs.private.Order.{steps_into}
use Rattle.wac_encode_faults.proofs.uses.push_uses.Given as goal

abbrev pub invariant-loop-left : goal.invariant-loop-left
invariant-loop-left l = record {
  in_range : l.left ≤ length l.fn.uses;
  pushed : l.pending.items ≡ l.initial.pending.items ++ reverse (steps_into (used_interfaces (drop l.left l.fn.uses)));
}

abbrev pub decreases-loop-left : goal.decreases-loop-left
decreases-loop-left l = l.left
