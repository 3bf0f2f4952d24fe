use Rattle.std.proofs.Common.{◌≡◌, ◌++◌, drop}
use Rattle.wac_types_collection.specs.collection.Collection.{kind_types}
use Rattle.wac_encode_order.proofs.parts.push_items.Given as goal

abbrev pub invariant-loop-i : goal.invariant-loop-i
invariant-loop-i l = l.parts.items ++ kind_types (drop l.i l.items) ≡ l.initial.parts.items ++ kind_types l.items
