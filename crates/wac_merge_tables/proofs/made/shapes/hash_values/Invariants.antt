use Rattle.std.proofs.Common.{◌≡◌, fold, flat_map, take}
use Rattle.wac_merge_tables.specs.private.made.ShapeHash.{value_writes}
use Rattle.wac_merge_tables.proofs.made.shapes.hash_values.Given as goal

abbrev pub invariant-loop-value : goal.invariant-loop-value
invariant-loop-value g l = l.state ≡ fold g.H.Hasher.write l.fn.state (flat_map value_writes (take l.value-index l.fn.values))
