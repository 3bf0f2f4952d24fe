use Rattle.std.proofs.Common.{◌≡◌, map, take}
use Rattle.wac_types_shapes.proofs.shapes.named.Labels.new.Given as goal

-- those so far
abbrev pub invariant-loop-name : goal.invariant-loop-name
invariant-loop-name l = l.labels ≡ map (λ n. (n.now, tt)) (take l.name-index l.names)
