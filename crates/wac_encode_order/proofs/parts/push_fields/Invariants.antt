use Rattle.std.proofs.Common.{◌≡◌, ◌++◌, drop}
use Rattle.wac_types_collection.specs.collection.Collection.{value_types, seconds}
use Rattle.wac_encode_order.proofs.parts.push_fields.Given as goal

abbrev pub invariant-loop-i : goal.invariant-loop-i
invariant-loop-i l = l.parts.items ++ value_types (seconds (drop l.i l.fields)) ≡ l.initial.parts.items ++ value_types (seconds l.fields)
