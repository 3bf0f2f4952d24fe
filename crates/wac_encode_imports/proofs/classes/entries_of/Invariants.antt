use Rattle.std.proofs.Common.{◌≡◌, take}
use Rattle.wac_merge_classes.specs.terms.Merge.{import_entries}
use Rattle.wac_encode_imports.proofs.classes.entries_of.Given as goal

abbrev pub invariant-loop-i : goal.invariant-loop-i
invariant-loop-i l = l.entries.items ≡ import_entries (take l.i l.fn.imports)
