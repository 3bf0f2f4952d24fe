use Rattle.std.proofs.Common.{Ok}
use Rattle.wac_graph_model.proofs.lemmas.nodes.NodeLemmas.{there}
use Rattle.wac_graph_fields.proofs.TakingLemmas.{the_node, invariant_named, named_node}
use Rattle.wac_graph.specs.private.Inside.{fields_of}
use Rattle.wac_graph_model.proofs.lemmas.nodes.ValidLemmas.{valid_named}
use Rattle.wac_graph.proofs.graph.CompositionGraph.set_node_name.Goals as goal

pub set_name-requires : goal.set_name-requires
set_name-requires c = there c.self.inside.nodes.slots c.args.node.0 (rw (← c.self.view_is) at c.requires)

pub invariant_of-self-2 : goal.invariant_of-self-2
invariant_of-self-2 c =
    let n = the_node _ (there c.self.inside.nodes.slots c.args.node.0 (rw (← c.self.view_is) at c.requires)) in
    invariant_named (fields_of c.self.inside) c.args.node c.args.name.now c.set_name.new.nodes n.0 n.1 c.in_ok-set_name.ensures.named c.self.invariant

pub returns-clause-step : goal.returns-clause-step
returns-clause-step c =
    let n = the_node _ (there c.self.inside.nodes.slots c.args.node.0 (rw (← c.self.view_is) at c.requires)) in
    rw (← c.self.view_is) (named_node (fields_of c.self.inside) c.args.node c.args.name.now c.set_name.new.nodes n.0 n.1 c.in_ok-set_name.ensures.named)

pub returns-clause-valid : goal.returns-clause-valid
returns-clause-valid c = valid_named c.args.self.now _ c.args.node c.args.name.now (Ok tt) c.requires (returns-clause-step c)
