use Rattle.std.proofs.Common.{◌≡◌, ◌==◌}
use Rattle.wac_graph_model.specs.nodes.Nodes.{names_of}
use Rattle.wac_graph_model.specs.nodes.TakenOut.{taken_below, without}
use Rattle.wac_graph.proofs.graph.take_exports.Given as goal

abbrev pub invariant-loop-i : goal.invariant-loop-i
invariant-loop-i l = record { left : taken_below (λ m. m.0 == l.node.0) l.i (names_of l.exports.entries) ≡ without (λ m. m.0 == l.node.0) (names_of l.initial.exports.entries) }

abbrev pub decreases-loop-i : goal.decreases-loop-i
decreases-loop-i l = l.i
