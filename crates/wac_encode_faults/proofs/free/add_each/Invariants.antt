use Rattle.wac_encode_faults.proofs.FreeParts.{AreJoined}
use Rattle.wac_encode_faults.proofs.free.add_each.Given as goal

abbrev pub invariant-loop-i : goal.invariant-loop-i
invariant-loop-i l = AreJoined l.initial.found.keys l.fn.resources l.i l.found.keys
