use Rattle.std.proofs.Common.{◌≡◌, map, take}
use Rattle.wac_graph.proofs.twice.check_pairs.Given as goal

-- those so far
abbrev pub invariant-loop-pair : goal.invariant-loop-pair
invariant-loop-pair g l = l.found ≡ map (λ e. (e.0.now, tt)) (take l.pair-index l.pairs)
