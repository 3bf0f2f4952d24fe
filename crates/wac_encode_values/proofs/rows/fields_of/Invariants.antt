use Rattle.std.specs.List.{AllZip, AllByRecursion}
use Rattle.std.proofs.Common.{take}
use Rattle.wac_encode_values.specs.private.Parts.{IsShortField, IsFieldName, IsFieldValue}
use Rattle.wac_encode_values.proofs.rows.fields_of.Given as goal

abbrev pub invariant-loop-i : goal.invariant-loop-i
invariant-loop-i l = record {
  zipped : AllZip IsFieldName (take l.i l.fields) l.written.items × AllZip IsFieldValue (take l.i l.parts) l.written.items;
  short : AllByRecursion IsShortField l.written.items;
}
