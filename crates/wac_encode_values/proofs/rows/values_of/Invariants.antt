use Rattle.std.specs.List.{AllZip, AllByRecursion}
use Rattle.std.proofs.Common.{take}
use Rattle.wac_encode_values.specs.private.Parts.{IsShort, IsValue}
use Rattle.wac_encode_values.proofs.rows.values_of.Given as goal

abbrev pub invariant-loop-i : goal.invariant-loop-i
invariant-loop-i l = record {
  zipped : AllZip IsValue (take l.i l.parts) l.values.items;
  short : AllByRecursion IsShort l.values.items;
}
