use Rattle.wac_encode_faults.proofs.TypeItems.{AreFreeUnder}
use Rattle.wac_encode_faults.proofs.sides.add_free_of_additional.Given as goal

abbrev pub invariant-loop-i : goal.invariant-loop-i
invariant-loop-i l = AreFreeUnder l.fn.types l.fn.additional.keys l.i l.initial.found.keys l.found.keys
