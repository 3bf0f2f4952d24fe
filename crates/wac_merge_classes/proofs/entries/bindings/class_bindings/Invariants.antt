use Rattle.std.proofs.Common.{◌≡◌, length, take}
use Rattle.wac_merge_classes.specs.entries.Bindings.{HaveBound}
use Rattle.wac_merge_classes.specs.entries.Classes.{by_names, class_names}
use Rattle.wac_merge_classes.proofs.entries.bindings.class_bindings.Given as goal

abbrev pub invariant-loop-i : goal.invariant-loop-i
invariant-loop-i l = record { counted : length l.bound.items ≡ length (class_names by_names l.entries); bound : HaveBound l.types l.entries (take l.i l.entries) l.bound.items }
