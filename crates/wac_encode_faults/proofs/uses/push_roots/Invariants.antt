use Rattle.std.proofs.Common.{◌≡◌, ◌++◌, ◌≤◌, length, reverse, drop}
use Rattle.wac_encode_faults.specs.private.Order.{steps_into}
use Rattle.wac_encode_faults.proofs.uses.push_roots.Given as goal

abbrev pub invariant-loop-left : goal.invariant-loop-left
invariant-loop-left l = record {
  in_range : l.left ≤ length l.fn.roots.keys;
  pushed : l.pending.items ≡ l.initial.pending.items ++ reverse (steps_into (drop l.left l.fn.roots.keys));
}

abbrev pub decreases-loop-left : goal.decreases-loop-left
decreases-loop-left l = l.left
