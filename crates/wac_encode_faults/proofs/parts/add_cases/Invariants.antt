use Rattle.std.proofs.Common.{◌≡◌, drop}
use Rattle.wac_types_collection.specs.collection.Collection.{value_types, case_values}
use Rattle.wac_types_collection.specs.private.reach.Found.{with_all}
use Rattle.wac_encode_faults.proofs.parts.add_cases.Given as goal

abbrev pub invariant-loop-i : goal.invariant-loop-i
invariant-loop-i l = with_all l.found.keys (value_types (case_values (drop l.i l.cases))) ≡ with_all l.initial.found.keys (value_types (case_values l.cases))
