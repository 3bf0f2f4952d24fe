use Rattle.std.proofs.Common.{◌≡◌, drop}
use Rattle.wac_types_collection.specs.private.reach.Found.{with_all}
use Rattle.wac_encode_faults.specs.private.Binding.{others_alone}
use Rattle.wac_encode_faults.proofs.type_items.add_others_alone.Given as goal

abbrev pub invariant-loop-i : goal.invariant-loop-i
invariant-loop-i l = with_all l.found.keys (others_alone (drop l.i l.fn.items)) ≡ with_all l.initial.found.keys (others_alone l.fn.items)
