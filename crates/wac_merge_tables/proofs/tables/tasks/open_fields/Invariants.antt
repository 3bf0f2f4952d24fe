use Rattle.std.proofs.Common.{◌≡◌, ◌++◌, take}
use Rattle.wac_types_collection.specs.collection.Collection.{seconds}
use Rattle.wac_merge_tables.specs.private.tables.Tasks.{openings}
use Rattle.wac_merge_tables.proofs.tables.tasks.open_fields.Given as goal

abbrev pub invariant-loop-i : goal.invariant-loop-i
invariant-loop-i l = l.tasks.items ≡ l.initial.tasks.items ++ openings (seconds (take l.i l.fields))
