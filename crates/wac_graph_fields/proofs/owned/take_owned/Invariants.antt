use Rattle.wac_graph_fields.proofs.OwnedLemmas.{IsTakingOwned}
use Rattle.wac_graph_fields.proofs.owned.take_owned.Given as goal

abbrev pub invariant-loop-number : goal.invariant-loop-number
invariant-loop-number l = IsTakingOwned l.id l.initial.nodes l.initial.edges l.initial.lost l.number l.nodes l.edges l.lost
