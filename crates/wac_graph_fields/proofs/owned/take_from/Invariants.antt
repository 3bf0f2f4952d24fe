use Rattle.std.specs.FinSet as set
use Rattle.wac_graph_fields.proofs.OwnedLemmas.{IsCleared}
use Rattle.wac_graph_fields.proofs.owned.take_from.Given as goal

abbrev pub invariant-loop-edge : goal.invariant-loop-edge
invariant-loop-edge l = IsCleared l.initial.nodes l.initial.edges l.node l.nodes l.edges

abbrev pub decreases-loop-edge : goal.decreases-loop-edge
decreases-loop-edge l = set.len l.edges
