use Rattle.std.proofs.Common.{◌≡◌, length, take}
use Rattle.wac_merge_classes.specs.entries.Classes.{by_names, class_names}
use Rattle.wac_merge_classes.specs.private.entries.Numbering.{AreNewest}
use Rattle.wac_merge_classes.proofs.entries.classes.newest_positions.Given as goal

abbrev pub invariant-loop-i : goal.invariant-loop-i
invariant-loop-i l = record { positioned : length l.positions.items ≡ length (class_names by_names l.entries); newest : AreNewest l.entries (take l.i l.entries) l.positions.items }
