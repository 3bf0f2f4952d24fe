use Rattle.std.proofs.Common.{take}
use Rattle.wac_types_collection.specs.collection.Collection.{seconds}
use Rattle.wac_merge_resources.specs.private.renaming.RenamingSteps.{AllStay}
use Rattle.wac_merge_resources.proofs.renaming.renamer.Renamed.fields_stay.Given as goal

abbrev pub invariant-loop-i : goal.invariant-loop-i
invariant-loop-i l = AllStay l.renaming l.self (seconds (take l.i l.fields))
