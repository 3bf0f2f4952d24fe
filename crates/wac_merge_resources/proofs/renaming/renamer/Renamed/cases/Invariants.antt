use Rattle.std.proofs.Common.{take}
use Rattle.wac_merge_resources.specs.private.renaming.RenamingSteps.{CasesGoTogether, IsBecome}
use Rattle.wac_merge_resources.proofs.renaming.renamer.Renamed.cases.Given as goal

abbrev pub invariant-loop-i : goal.invariant-loop-i
invariant-loop-i l = CasesGoTogether (IsBecome l.renaming l.self) (take l.i l.cases) l.renamed
