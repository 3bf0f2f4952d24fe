use Rattle.std.proofs.Common.{take}
use Rattle.wac_types_collection.specs.subtyping.CalledViews.{side_view}
use Rattle.wac_merge_classes.specs.entries.Places.{Adds}
use Rattle.wac_merge_classes.proofs.lemmas.entries.Places.{instances}
use Rattle.wac_merge_classes.proofs.entries.bound.Bound.put_listed.Given as goal

abbrev pub invariant-loop-i : goal.invariant-loop-i
invariant-loop-i l = Adds l.initial.self (instances l.types l.uses (side_view l.side) (take l.i l.listed)) l.self
