use Rattle.std.proofs.Common.{◌≡◌, ◌≤◌, ◌++◌, length, drop}
use Rattle.wac_types_collection.specs.wide.Wide.{instances_of}
use Rattle.wac_graph_fields.specs.private.EntriesLeft.{visits}
use Rattle.wac_graph_fields.proofs.asked.visit_instances.Given as goal

abbrev pub invariant-loop-left : goal.invariant-loop-left
invariant-loop-left l = record { within : l.left ≤ length l.fn.items; pushed : l.tasks.items ≡ l.initial.tasks.items ++ visits (instances_of (drop l.left l.fn.items)) }

abbrev pub decreases-loop-left : goal.decreases-loop-left
decreases-loop-left l = l.left
