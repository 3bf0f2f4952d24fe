use Rattle.std.specs.FinSet as set
use Rattle.wac_graph_fields.proofs.TiedLemmas.{IsPruned}
use Rattle.wac_graph_fields.proofs.taking.take_into.Given as goal

abbrev pub invariant-loop-edge : goal.invariant-loop-edge
invariant-loop-edge l = IsPruned l.initial.nodes l.initial.edges l.node l.kept l.nodes l.edges

abbrev pub decreases-loop-edge : goal.decreases-loop-edge
decreases-loop-edge l = set.len l.edges
