use Rattle.wac_encode_faults.proofs.FreeParts.{AreAdded}
use Rattle.wac_encode_faults.proofs.resources.add_resources.Given as goal

abbrev pub invariant-loop-i : goal.invariant-loop-i
invariant-loop-i l = AreAdded l.fn.types l.initial.resources.keys l.fn.found l.i l.resources.keys
