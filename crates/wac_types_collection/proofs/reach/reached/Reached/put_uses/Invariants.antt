use Rattle.std.proofs.Common.{◌≡◌, drop}
use Rattle.wac_types_collection.specs.collection.Collection.{used_types}
use Rattle.wac_types_collection.specs.private.reach.Found.{with_all}
use Rattle.wac_types_collection.proofs.reach.reached.Reached.put_uses.Given as goal

abbrev pub invariant-loop-i : goal.invariant-loop-i
invariant-loop-i l = with_all l.self ((used_types (drop l.i l.uses))) ≡ with_all l.initial.self ((used_types l.uses))
