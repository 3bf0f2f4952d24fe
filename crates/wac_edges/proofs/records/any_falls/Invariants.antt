use Rattle.wac_edges.proofs.AddingLemmas.{RiseAmong}
use Rattle.wac_edges.proofs.records.any_falls.Given as goal

abbrev pub invariant-loop-edge : goal.invariant-loop-edge
invariant-loop-edge l = RiseAmong l.edges l.edge-index
