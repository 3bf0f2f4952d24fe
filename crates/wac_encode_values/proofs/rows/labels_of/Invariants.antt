use Rattle.std.specs.List.{AllZip}
use Rattle.std.proofs.Common.{take}
use Rattle.wac_encode_values.specs.private.Parts.{IsText}
use Rattle.wac_encode_values.proofs.rows.labels_of.Given as goal

abbrev pub invariant-loop-i : goal.invariant-loop-i
invariant-loop-i l = AllZip IsText (take l.i l.labels) l.written.items
