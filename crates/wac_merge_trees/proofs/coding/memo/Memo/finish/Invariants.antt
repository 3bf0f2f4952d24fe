use Rattle.wac_merge_tables.specs.private.tables.Tasks.{tasks_weight}
use Rattle.wac_merge_trees.specs.private.coding.Coding.{source_tree, IsUnderWay}
use Rattle.wac_merge_trees.proofs.coding.memo.Memo.finish.Given as goal

abbrev pub invariant-loop-task : goal.invariant-loop-task
invariant-loop-task l = IsUnderWay l.source.types.now (source_tree l.source) l.fn.nodes l.fn.tasks.items l.nodes l.self l.tasks.items

abbrev pub decreases-loop-task : goal.decreases-loop-task
decreases-loop-task l = tasks_weight l.source.types.now l.tasks.items
