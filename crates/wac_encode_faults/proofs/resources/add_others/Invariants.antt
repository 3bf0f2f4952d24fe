use Rattle.std.proofs.Common.{◌≡◌, drop}
use Rattle.wac_types_collection.specs.private.reach.Found.{with_all}
use Rattle.wac_encode_faults.specs.private.Sets.{others_of}
use Rattle.wac_encode_faults.proofs.resources.add_others.Given as goal

abbrev pub invariant-loop-i : goal.invariant-loop-i
invariant-loop-i l = with_all l.found.keys (others_of (drop l.i l.fn.items)) ≡ with_all l.initial.found.keys (others_of l.fn.items)
