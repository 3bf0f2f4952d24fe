use Rattle.wac_encode_faults.proofs.Binding.{AreBound}
use Rattle.wac_encode_faults.proofs.bound.add_bound.Given as goal

abbrev pub invariant-loop-i : goal.invariant-loop-i
invariant-loop-i l = AreBound l.fn.types l.fn.uses l.fn.items l.i l.initial.found.keys l.found.keys
