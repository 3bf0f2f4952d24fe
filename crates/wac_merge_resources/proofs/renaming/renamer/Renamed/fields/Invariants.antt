use Rattle.std.proofs.Common.{take}
use Rattle.wac_merge_resources.specs.private.renaming.RenamingSteps.{FieldsGoTogether, IsBecome}
use Rattle.wac_merge_resources.proofs.renaming.renamer.Renamed.fields.Given as goal

abbrev pub invariant-loop-i : goal.invariant-loop-i
invariant-loop-i l = FieldsGoTogether (IsBecome l.renaming l.self) (take l.i l.fields) l.renamed
