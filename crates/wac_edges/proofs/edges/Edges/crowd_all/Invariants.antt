use Rattle.std.proofs.Common.{◌≡◌}
use Rattle.wac_edges.proofs.edges.Edges.crowd_all.Given as goal

abbrev pub invariant-loop-edge : goal.invariant-loop-edge
invariant-loop-edge l = l.self ≡ l.fn.self
