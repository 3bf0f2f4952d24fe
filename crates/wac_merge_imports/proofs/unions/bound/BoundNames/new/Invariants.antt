use Rattle.std.proofs.Common.{◌≡◌, length}
use Rattle.wac_merge_classes.specs.entries.Classes.{by_names, class_names}
use Rattle.wac_merge_imports.proofs.lemmas.unions.BoundNames.{AreNamesTo}
use Rattle.wac_merge_imports.proofs.unions.bound.BoundNames.new.Given as goal

abbrev pub invariant-loop-i : goal.invariant-loop-i
invariant-loop-i l = record { counted : length l.names.items ≡ length (class_names by_names l.entries); names : AreNamesTo l.types l.bindings l.entries l.classes.numbers.items l.i l.names.items }
