use Rattle.std.proofs.Common.{◌≡◌, drop}
use Rattle.wac_types_collection.specs.wide.Wide.{with_each}
use Rattle.wac_encode_faults.specs.Sides.{without}
use Rattle.wac_encode_faults.proofs.additional.add_all_unknown.Given as goal

abbrev pub invariant-loop-i : goal.invariant-loop-i
invariant-loop-i l = with_each l.found.keys (without l.fn.known.keys (drop l.i l.fn.interfaces.keys)) ≡ with_each l.initial.found.keys (without l.fn.known.keys l.fn.interfaces.keys)
