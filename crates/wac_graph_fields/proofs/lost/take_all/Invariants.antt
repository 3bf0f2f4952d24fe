use Rattle.std.proofs.Common.{◌≡◌, not, is_some}
use Rattle.slab.specs.Slab.{get}
use Rattle.wac_graph_model.specs.nodes.Nodes.{names_of}
use Rattle.wac_graph_model.specs.nodes.TakenOut.{taken_below, without}
use Rattle.wac_graph_fields.proofs.lost.take_all.Given as goal

abbrev pub invariant-loop-i : goal.invariant-loop-i
invariant-loop-i l = record { left : taken_below (λ m. not (is_some (get l.nodes m.0))) l.i (names_of l.exports.entries) ≡ without (λ m. not (is_some (get l.nodes m.0))) (names_of l.initial.exports.entries) }

abbrev pub decreases-loop-i : goal.decreases-loop-i
decreases-loop-i l = l.i
