use Rattle.wac_encode_faults.proofs.TypeItems.{AreBoundUnder}
use Rattle.wac_encode_faults.proofs.sides.add_bound_additional.Given as goal

abbrev pub invariant-loop-i : goal.invariant-loop-i
invariant-loop-i l = AreBoundUnder l.fn.types l.fn.additional.keys l.i l.initial.found.keys l.found.keys
