use Rattle.std.proofs.Common.{◌≡◌, drop}
use Rattle.wac_types_collection.specs.collection.Collection.{value_types, seconds}
use Rattle.wac_types_collection.specs.private.reach.Found.{with_all}
use Rattle.wac_types_collection.proofs.reach.reached.Reached.put_fields.Given as goal

abbrev pub invariant-loop-i : goal.invariant-loop-i
invariant-loop-i l = with_all l.self (value_types (seconds (drop l.i l.fields))) ≡ with_all l.initial.self (value_types (seconds l.fields))
