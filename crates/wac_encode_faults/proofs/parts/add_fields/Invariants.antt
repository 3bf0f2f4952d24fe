use Rattle.std.proofs.Common.{◌≡◌, drop}
use Rattle.wac_types_collection.specs.collection.Collection.{value_types, seconds}
use Rattle.wac_types_collection.specs.private.reach.Found.{with_all}
use Rattle.wac_encode_faults.proofs.parts.add_fields.Given as goal

abbrev pub invariant-loop-i : goal.invariant-loop-i
invariant-loop-i l = with_all l.found.keys (value_types (seconds (drop l.i l.fields))) ≡ with_all l.initial.found.keys (value_types (seconds l.fields))
