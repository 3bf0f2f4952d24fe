use Rattle.std.proofs.Common.{◌≡◌, take}
use Rattle.wac_types_collection.specs.collection.Collection.{seconds}
use Rattle.wac_merge_tables.proofs.made.made.param_types.Given as goal

abbrev pub invariant-loop-i : goal.invariant-loop-i
invariant-loop-i l = l.types.items ≡ seconds (take l.i l.params)
