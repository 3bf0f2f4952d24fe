use Rattle.std.proofs.Common.{◌≡◌, drop}
use Rattle.wac_types_shapes.specs.private.shapes.Equal.{same_named}
use Rattle.wac_types_shapes.proofs.shapes.named.NamedPartialEq.eq.Given as goal

-- what is left is equal where all are
abbrev pub invariant-loop-i : goal.invariant-loop-i
invariant-loop-i g l = same_named g.V.PartialEq.eq (drop l.i l.self) (drop l.i l.other) ≡ same_named g.V.PartialEq.eq l.self l.other
