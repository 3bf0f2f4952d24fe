use Rattle.std.proofs.Common.{◌≡◌, drop}
use Rattle.wac_types_shapes.specs.shapes.Named.{by_bytes, named_at}
use Rattle.wac_types_shapes.proofs.shapes.named.found_among.Given as goal

-- what is sought among the rest is what is sought among all
abbrev pub invariant-loop-i : goal.invariant-loop-i
invariant-loop-i g l = named_at l.i l.name (drop l.i (by_bytes l.entries)) ≡ named_at 0 l.name (by_bytes l.entries)
