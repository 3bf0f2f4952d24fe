use Rattle.std.proofs.Common.{take}
use Rattle.std.specs.Option.{option_copied}
use Rattle.wac_types_collection.specs.subtyping.CalledViews.{side_view}
use Rattle.wac_merge_classes.specs.entries.Places.{Adds, own_at}
use Rattle.wac_merge_classes.proofs.entries.bound.Bound.put_own.Given as goal

abbrev pub invariant-loop-i : goal.invariant-loop-i
invariant-loop-i l = Adds l.initial.self (own_at l.types l.uses (side_view l.side) (option_copied l.outer) (take l.i l.listed)) l.self
