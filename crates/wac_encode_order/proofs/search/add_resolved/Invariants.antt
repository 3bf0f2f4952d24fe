use Rattle.std.proofs.Common.{◌≡◌, map, drop}
use Rattle.wac_types_collection.specs.collection.Aliases.{type_resolved}
use Rattle.wac_types_collection.specs.private.reach.Found.{with_all}
use Rattle.wac_encode_order.proofs.search.add_resolved.Given as goal

abbrev pub invariant-loop-part : goal.invariant-loop-part
invariant-loop-part l = with_all l.found.keys (map (type_resolved l.types) (drop l.part-index l.parts)) ≡ with_all l.initial.found.keys (map (type_resolved l.types) l.parts)
