use Rattle.std.proofs.Common.{◌≡◌, ◌≤◌, ◌++◌, length, drop}
use Rattle.wac_graph_fields.specs.private.EntriesLeft.{openings}
use Rattle.wac_graph_fields.proofs.asked.open_used.Given as goal

abbrev pub invariant-loop-i : goal.invariant-loop-i
invariant-loop-i l = record { within : l.i ≤ length l.uses; opened : l.tasks.items ≡ l.initial.tasks.items ++ openings (drop l.i l.uses) }

abbrev pub decreases-loop-i : goal.decreases-loop-i
decreases-loop-i l = l.i
