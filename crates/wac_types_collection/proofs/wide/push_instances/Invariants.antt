use Rattle.std.proofs.Common.{◌≡◌, ◌++◌, ◌≤◌, length, reverse, drop}
use Rattle.wac_types_collection.specs.wide.Wide.{instances_of}
use Rattle.wac_types_collection.proofs.wide.push_instances.Given as goal

abbrev pub invariant-loop-left : goal.invariant-loop-left
invariant-loop-left l = record {
  in_range : l.left ≤ length l.fn.items;
  pushed : l.pending.items ≡ l.initial.pending.items ++ reverse (instances_of (drop l.left l.fn.items));
}

abbrev pub decreases-loop-left : goal.decreases-loop-left
decreases-loop-left l = l.left
