use Rattle.wac_graph_fields.proofs.InvariantLemmas.{invariant_empty}
use Rattle.wac_graph.proofs.graph.CompositionGraph.new.Goals as goal

pub invariant_of-result : goal.invariant_of-result
invariant_of-result c = invariant_empty _ c.new-2.ensures.empty c.new-3.ensures c.new-4.ensures.empty c.new-5.ensures.empty c.new-6.ensures.empty c.new-7.ensures.items c.new-8.ensures.items
