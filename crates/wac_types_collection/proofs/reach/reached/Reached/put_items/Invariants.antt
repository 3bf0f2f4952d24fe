use Rattle.std.proofs.Common.{◌≡◌, drop}
use Rattle.wac_types_collection.specs.collection.Collection.{kind_types}
use Rattle.wac_types_collection.specs.private.reach.Found.{with_all}
use Rattle.wac_types_collection.proofs.reach.reached.Reached.put_items.Given as goal

abbrev pub invariant-loop-i : goal.invariant-loop-i
invariant-loop-i l = with_all l.self ((kind_types (drop l.i l.items))) ≡ with_all l.initial.self ((kind_types l.items))
