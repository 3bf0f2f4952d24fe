use Rattle.std.proofs.Common.{◌≡◌, Bool, length, take}
use Rattle.std.specs.List.{list_any}
use Rattle.wac_merge_classes.specs.entries.Classes.{by_names, class_names}
use Rattle.wac_merge_classes.specs.terms.Merge.{is_on_track}
use Rattle.wac_merge_unions.proofs.lemmas.uses.ClassFolds.{HaveFolded}
use Rattle.wac_merge_imports.proofs.unions.merged.on_track.Given as goal

abbrev pub invariant-loop-i : goal.invariant-loop-i
invariant-loop-i l = record { counted : length l.on.items ≡ length (class_names by_names l.entries); on : HaveFolded (λ (b : Bool). b) (λ n xs. list_any (λ e. is_on_track by_names l.types n e.kind) xs) l.entries (take l.i l.entries) l.on.items }
