use Rattle.wac_encode_faults.proofs.Entries.{AreNoted}
use Rattle.wac_encode_faults.proofs.readers.note_all.Given as goal

abbrev pub invariant-loop-i : goal.invariant-loop-i
invariant-loop-i l = AreNoted l.fn.interfaces.keys l.fn.position l.i l.initial.last.entries l.last.entries
