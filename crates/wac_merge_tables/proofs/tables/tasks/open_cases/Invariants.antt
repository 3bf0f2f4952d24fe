use Rattle.std.proofs.Common.{◌≡◌, ◌++◌, take}
use Rattle.wac_types_collection.specs.collection.Collection.{case_values}
use Rattle.wac_merge_tables.specs.private.tables.Tasks.{openings}
use Rattle.wac_merge_tables.proofs.tables.tasks.open_cases.Given as goal

abbrev pub invariant-loop-i : goal.invariant-loop-i
invariant-loop-i l = l.tasks.items ≡ l.initial.tasks.items ++ openings (case_values (take l.i l.cases))
