use Rattle.wac_encode_faults.proofs.Binding.{AreCopied}
use Rattle.wac_encode_faults.proofs.unbound.copy_sets.Given as goal

abbrev pub invariant-loop-i : goal.invariant-loop-i
invariant-loop-i l = AreCopied l.fn.sets.entries l.fn.interfaces.keys l.i l.initial.found.keys l.found.keys
