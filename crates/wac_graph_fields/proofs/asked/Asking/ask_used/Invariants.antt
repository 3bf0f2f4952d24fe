use Rattle.std.proofs.Common.{◌++◌, map}
use Rattle.wac_types_shapes.specs.declared.shapes.component.ItemKind.TheVariants.{Instance}
use Rattle.wac_graph_model.specs.nodes.Entries.{used_by}
use Rattle.wac_graph_fields.specs.private.EntriesLeft.{by_node, entries_of, IsRight, IsUnderWay, tasks_weight}
use Rattle.wac_graph_fields.proofs.asked.Asking.ask_used.Given as goal

abbrev pub invariant-loop-task : goal.invariant-loop-task
invariant-loop-task l = record {
  right : IsRight l.self;
  under_way : IsUnderWay l.types l.node (entries_of l.fn.self ++ map (by_node l.node) (used_by l.types (Instance l.fn.id))) (entries_of l.self) l.self.visited.keys l.tasks.items;
}

abbrev pub decreases-loop-task : goal.decreases-loop-task
decreases-loop-task l = tasks_weight l.types l.tasks.items
