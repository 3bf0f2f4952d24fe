use Rattle.wac_encode_faults.proofs.Bounding.{AreBoundTo}
use Rattle.wac_encode_faults.proofs.bound_types.are_bound.Given as goal

abbrev pub invariant-loop-i : goal.invariant-loop-i
invariant-loop-i l = AreBoundTo l.fn.types l.fn.bound.keys l.fn.found l.fn.from l.i
