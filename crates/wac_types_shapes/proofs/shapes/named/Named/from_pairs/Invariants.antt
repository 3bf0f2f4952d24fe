use Rattle.std.proofs.Common.{◌≡◌, take}
use Rattle.wac_types_shapes.specs.shapes.Named.{named_pairs}
use Rattle.wac_types_shapes.proofs.shapes.named.Named.from_pairs.Given as goal

-- those so far
abbrev pub invariant-loop-pair : goal.invariant-loop-pair
invariant-loop-pair g l = l.named ≡ named_pairs (take l.pair-index l.pairs)
