use Rattle.std.proofs.Common.{not, is_some, vec_len}
use Rattle.slab.specs.Slab.{get}
use Rattle.wac_graph_model.specs.nodes.Nodes.{names_of}
use Rattle.wac_graph_fields.proofs.LostLemmas.{IsEmptying}
use Rattle.wac_graph_fields.proofs.lost.take_noted.Given as goal

abbrev pub invariant-loop-position : goal.invariant-loop-position
invariant-loop-position l = IsEmptying (λ m. not (is_some (get l.nodes m.0))) (names_of l.fn.exports.entries) (names_of l.exports.entries) l.positions.items

abbrev pub decreases-loop-position : goal.decreases-loop-position
decreases-loop-position l = vec_len l.positions
