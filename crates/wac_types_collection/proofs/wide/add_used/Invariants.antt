use Rattle.std.proofs.Common.{◌≡◌, drop}
use Rattle.wac_types_collection.specs.wide.Wide.{used_interfaces, with_each}
use Rattle.wac_types_collection.proofs.wide.add_used.Given as goal

abbrev pub invariant-loop-i : goal.invariant-loop-i
invariant-loop-i l = with_each l.used.keys (used_interfaces (drop l.i l.uses)) ≡ with_each l.initial.used.keys (used_interfaces l.uses)
