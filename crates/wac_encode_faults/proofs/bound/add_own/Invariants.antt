use Rattle.wac_encode_faults.proofs.Binding.{AreWithOwn}
use Rattle.wac_encode_faults.proofs.bound.add_own.Given as goal

abbrev pub invariant-loop-i : goal.invariant-loop-i
invariant-loop-i l = AreWithOwn l.fn.types l.fn.interface.uses l.fn.interface.exports l.i l.initial.found.keys l.found.keys
