use Rattle.std.specs.List.{AllZip, AllByRecursion}
use Rattle.std.proofs.Common.{take}
use Rattle.wac_encode_values.specs.private.Parts.{IsShortCase, IsCaseName, IsCaseValue}
use Rattle.wac_encode_values.proofs.rows.cases_of.Given as goal

abbrev pub invariant-loop-i : goal.invariant-loop-i
invariant-loop-i l = record {
  zipped : AllZip IsCaseName (take l.i l.cases) l.written.items × AllZip IsCaseValue (take l.i l.parts) l.written.items;
  short : AllByRecursion IsShortCase l.written.items;
}
