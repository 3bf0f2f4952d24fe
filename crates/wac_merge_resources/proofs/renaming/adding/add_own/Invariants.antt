use Rattle.std.proofs.Common.{take}
use Rattle.wac_merge_resources.specs.private.renaming.FreshSteps.{AreOwn}
use Rattle.wac_types_collection.specs.private.subtyping.Extended.{IsExtended}
use Rattle.wac_merge_resources.proofs.renaming.adding.add_own.Given as goal

abbrev pub invariant-loop-i : goal.invariant-loop-i
invariant-loop-i l = record { extended : IsExtended l.initial.merged l.merged; own : AreOwn l.initial.merged (take l.i l.exports) l.own l.merged }
