use Rattle.std.proofs.Common.{◌≡◌, map, take}
use Rattle.wac_graph.proofs.twice.check_names.Given as goal

-- those so far
abbrev pub invariant-loop-name : goal.invariant-loop-name
invariant-loop-name l = l.found ≡ map (λ n. (n.now, tt)) (take l.name-index l.names)
