use Rattle.wac_merge_tables.specs.made.Made.{StayMade}
use Rattle.wac_merge_resources.specs.private.renaming.RenamingSteps.{IsUnderWay}
use Rattle.wac_merge_tables.specs.private.tables.Tasks.{tasks_weight}
use Rattle.wac_merge_resources.proofs.renaming.renamer.Renamed.finish.Given as goal

abbrev pub invariant-loop-task : goal.invariant-loop-task
invariant-loop-task l = record { under : IsUnderWay l.renaming l.fn.merged l.fn.tasks.items l.merged l.self l.tasks.items; stay : StayMade l.fn.self.made l.self.made }

abbrev pub decreases-loop-task : goal.decreases-loop-task
decreases-loop-task l = tasks_weight l.renaming.types.now l.tasks.items
