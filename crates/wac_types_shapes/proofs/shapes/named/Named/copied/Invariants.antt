use Rattle.std.proofs.Common.{◌≡◌, take}
use Rattle.wac_types_shapes.proofs.shapes.named.Named.copied.Given as goal

-- those so far
abbrev pub invariant-loop-i : goal.invariant-loop-i
invariant-loop-i g l = l.copy ≡ take l.i l.self
