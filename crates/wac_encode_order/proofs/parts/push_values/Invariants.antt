use Rattle.std.proofs.Common.{◌≡◌, ◌++◌, drop}
use Rattle.wac_types_collection.specs.collection.Collection.{value_types}
use Rattle.wac_encode_order.proofs.parts.push_values.Given as goal

abbrev pub invariant-loop-value : goal.invariant-loop-value
invariant-loop-value l = l.parts.items ++ value_types (drop l.value-index l.values) ≡ l.initial.parts.items ++ value_types l.values
