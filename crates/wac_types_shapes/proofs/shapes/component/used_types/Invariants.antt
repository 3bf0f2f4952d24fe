use Rattle.std.proofs.Common.{◌≡◌, take}
use Rattle.wac_types_shapes.specs.shapes.Named.{used_pairs}
use Rattle.wac_types_shapes.proofs.shapes.component.used_types.Given as goal

-- those so far
abbrev pub invariant-loop-used : goal.invariant-loop-used
invariant-loop-used l = l.named ≡ used_pairs (take l.used-index l.uses)
