use Rattle.std.proofs.Common.{◌≡◌, drop}
use Rattle.wac_types_collection.specs.wide.Wide.{with_each, used_interfaces}
use Rattle.wac_encode_faults.specs.Sides.{without}
use Rattle.wac_encode_faults.proofs.additional.add_unknown_uses.Given as goal

abbrev pub invariant-loop-i : goal.invariant-loop-i
invariant-loop-i l = with_each l.found.keys (without l.fn.known.keys (used_interfaces (drop l.i l.fn.uses))) ≡ with_each l.initial.found.keys (without l.fn.known.keys (used_interfaces l.fn.uses))
