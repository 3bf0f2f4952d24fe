use Rattle.std.proofs.Common.{◌≡◌, length, take}
use Rattle.wac_merge_classes.specs.private.entries.Numbering.{AreFound, AreKeyed, HaveNumbers, class_names_to}
use Rattle.wac_merge_classes.proofs.entries.classes.Classes.new.Given as goal

abbrev pub invariant-loop-i : goal.invariant-loop-i
invariant-loop-i l = record {
  keyed : AreKeyed l.entries (class_names_to l.entries l.i) l.numbering.keys l.numbering.firsts.items;
  found : AreFound l.entries (class_names_to l.entries l.i) (take l.i l.entries) l.numbering.names;
  counted : length l.numbers.items ≡ l.i;
  numbered : HaveNumbers l.entries (class_names_to l.entries l.i) l.numbers.items;
}
