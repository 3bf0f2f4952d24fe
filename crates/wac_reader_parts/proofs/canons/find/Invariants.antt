use Rattle.std.proofs.Common.{◌≡◌, drop}
use Rattle.wac_reader_parts.specs.private.Canons.{kinds_in}
use Rattle.wac_reader_parts.proofs.canons.find.Given as goal

abbrev pub invariant-loop-listed : goal.invariant-loop-listed
invariant-loop-listed l = kinds_in l.table l.opcode ≡ kinds_in (drop l.listed-index l.table) l.opcode
