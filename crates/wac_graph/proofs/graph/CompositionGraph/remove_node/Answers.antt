use Rattle.wac_graph_model.proofs.lemmas.nodes.NodeLemmas.{there}
use Rattle.wac_graph_fields.proofs.LostLemmas.{noted_told}
use Rattle.wac_graph_fields.proofs.RemovedLemmas.{tied_inside, removes, invariant_removed}
use Rattle.wac_graph.specs.private.Inside.{fields_of}
use Rattle.wac_graph.proofs.graph.CompositionGraph.remove_node.Goals as goal

pub take_nodes-removed-requires-clause-there : goal.take_nodes-removed-requires-clause-there
take_nodes-removed-requires-clause-there c = there c.self.inside.nodes.slots c.args.node.0 (rw (← c.self.view_is) at c.requires)

pub take_nodes-removed-requires-clause-tied : goal.take_nodes-removed-requires-clause-tied
take_nodes-removed-requires-clause-tied c = tied_inside (fields_of c.self.inside) c.self.invariant

pub take_nodes-removed-requires-clause-noted : goal.take_nodes-removed-requires-clause-noted
take_nodes-removed-requires-clause-noted c = noted_told c.self.inside.nodes c.self.inside.lost c.clear.new.self c.self.inside.exports.entries c.clear.ensures c.self.invariant.told

pub invariant_of-self : goal.invariant_of-self
invariant_of-self c =
    invariant_removed (fields_of c.self.inside) c.self.invariant c.args.node c.take_nodes-removed.result c.take_nodes-removed.ensures.node c.take_nodes-removed.new.nodes c.take_nodes-removed.new.edges c.take_nodes-removed.ensures.next c.take_nodes-removed.ensures.taken c.take_nodes-removed.ensures.tied
    c.take_import.new.imports c.take_lost.new.exports (rw c.kind.ensures at c.take_import.ensures) c.take_lost.ensures.left c.take_nodes-removed.new.lost c.take_nodes-removed.ensures.noted c.take_lost.new.lost c.take_lost.ensures.same

pub returns : goal.returns
returns c =
    rw (← c.self.view_is)
    (removes (fields_of c.self.inside) c.self.invariant c.args.node c.take_nodes-removed.result c.take_nodes-removed.ensures.node c.take_nodes-removed.new.nodes c.take_nodes-removed.new.edges c.take_nodes-removed.ensures.next c.take_nodes-removed.ensures.taken c.take_nodes-removed.ensures.tied
    c.take_import.new.imports c.take_lost.new.exports (rw c.kind.ensures at c.take_import.ensures) c.take_lost.ensures.left c.take_nodes-removed.new.lost c.take_nodes-removed.ensures.noted c.take_lost.new.lost c.take_lost.ensures.same)
