use Rattle.std.proofs.Common.{◌≡◌, drop}
use Rattle.wac_types_collection.specs.collection.Collection.{value_types}
use Rattle.wac_types_collection.specs.private.reach.Found.{with_all}
use Rattle.wac_encode_faults.proofs.parts.add_values.Given as goal

abbrev pub invariant-loop-value : goal.invariant-loop-value
invariant-loop-value l = with_all l.found.keys (value_types (drop l.value-index l.values)) ≡ with_all l.initial.found.keys (value_types l.values)
