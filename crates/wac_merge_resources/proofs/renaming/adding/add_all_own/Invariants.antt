use Rattle.std.proofs.Common.{take}
use Rattle.wac_merge_resources.specs.private.renaming.FreshSteps.{AreAllOwn}
use Rattle.wac_types_collection.specs.private.subtyping.Extended.{IsExtended}
use Rattle.wac_merge_resources.proofs.renaming.adding.add_all_own.Given as goal

abbrev pub invariant-loop-u : goal.invariant-loop-u
invariant-loop-u l = record { extended : IsExtended l.initial.merged l.merged; own : AreAllOwn l.initial.merged (take l.u l.unions) l.own.items l.merged }
