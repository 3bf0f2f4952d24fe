use Rattle.std.proofs.Common.{◌≡◌, drop}
use Rattle.wac_types_collection.specs.wide.Wide.{with_each}
use Rattle.wac_encode_faults.specs.Sides.{listed_interfaces}
use Rattle.wac_encode_faults.proofs.unlisted.add_listed.Given as goal

abbrev pub invariant-loop-i : goal.invariant-loop-i
invariant-loop-i l = with_each l.listed.keys (listed_interfaces l.fn.types (drop l.i l.fn.items)) ≡ with_each l.initial.listed.keys (listed_interfaces l.fn.types l.fn.items)
