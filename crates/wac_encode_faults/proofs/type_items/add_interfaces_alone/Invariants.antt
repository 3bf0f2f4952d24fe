use Rattle.std.proofs.Common.{◌≡◌, drop}
use Rattle.wac_types_collection.specs.wide.Wide.{with_each}
use Rattle.wac_encode_faults.specs.private.Binding.{interfaces_alone}
use Rattle.wac_encode_faults.proofs.type_items.add_interfaces_alone.Given as goal

abbrev pub invariant-loop-i : goal.invariant-loop-i
invariant-loop-i l = with_each l.found.keys (interfaces_alone (drop l.i l.fn.items)) ≡ with_each l.initial.found.keys (interfaces_alone l.fn.items)
