use Rattle.wac_encode_imports.specs.private.Told.{AreOthersFor}
use Rattle.wac_encode_imports.proofs.told.Teller.others.Given as goal

abbrev pub invariant-loop-i : goal.invariant-loop-i
invariant-loop-i l = AreOthersFor l.fn.self l.i l.others.items
