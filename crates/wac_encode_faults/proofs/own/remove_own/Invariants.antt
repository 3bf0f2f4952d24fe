use Rattle.wac_encode_faults.proofs.Owned.{AreWithoutOwn}
use Rattle.wac_encode_faults.proofs.own.remove_own.Given as goal

abbrev pub invariant-loop-i : goal.invariant-loop-i
invariant-loop-i l = AreWithoutOwn l.fn.types l.fn.interface.uses l.fn.interface.exports l.i l.initial.found.keys l.found.keys
