use Rattle.std.proofs.Common.{◌≡◌, ◌++◌, drop}
use Rattle.wac_types_collection.specs.collection.Collection.{value_types, case_values}
use Rattle.wac_encode_order.proofs.parts.push_cases.Given as goal

abbrev pub invariant-loop-i : goal.invariant-loop-i
invariant-loop-i l = l.parts.items ++ value_types (case_values (drop l.i l.cases)) ≡ l.initial.parts.items ++ value_types (case_values l.cases)
