use Rattle.std.proofs.Common.{take}
use Rattle.std.specs.List.{AllZip}
use Rattle.wac_merge_resources.specs.private.renaming.RenamingSteps.{IsBecome}
use Rattle.wac_merge_resources.proofs.renaming.renamer.Renamed.parts.Given as goal

abbrev pub invariant-loop-i : goal.invariant-loop-i
invariant-loop-i l = AllZip (IsBecome l.renaming l.self) (take l.i l.values) l.renamed.items
