use Rattle.wac_encode_imports.specs.private.Told.{NotesItems}
use Rattle.wac_encode_imports.proofs.told.Teller.note_own.Given as goal

abbrev pub invariant-loop-i : goal.invariant-loop-i
invariant-loop-i l = NotesItems l.fn.self l.fn.position l.fn.interface l.i l.initial.others.items l.others.items
