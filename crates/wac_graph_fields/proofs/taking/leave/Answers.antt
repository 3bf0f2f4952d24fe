use Rattle.std.proofs.Common.{refl, ap, ◌∙◌}
use Rattle.std.specs.Option.{option_map}
use Rattle.wac_graph_model.specs.nodes.Nodes.{node_of}
use Rattle.wac_graph_fields.proofs.TiedLemmas.{tied_left}
use Rattle.wac_graph_fields.proofs.LostLemmas.{noted_same}
use Rattle.wac_graph_fields.proofs.taking.leave.Goals as goal

pub returns-clause-edge : goal.returns-clause-edge
returns-clause-edge c = (c.in-Some.edge, c.in-Some.ensures.there.0, refl, c.in-Some.ensures.there.1, c.take_edge.ensures.edges)

pub returns-clause-others : goal.returns-clause-others
returns-clause-others c = λ q differ. ap (option_map node_of) (c.take_node.ensures.updates.others q differ) ∙ c.take_edge.ensures.same q

pub returns-clause-tied : goal.returns-clause-tied
returns-clause-tied c =
    tied_left c.take_edge.new.nodes c.take_node.new.nodes c.args.edges.now c.take_edge.new.edges c.args.here c.in-Some.edge c.requires.into.0 c.take_edge.ensures.tied c.take_edge.ensures.edges c.take_node.ensures.updates c.requires.from c.in-Some.ensures.there.0 c.in-Some.ensures.there.1 c.requires.into.3

pub take_node-requires-clause-noted : goal.take_node-requires-clause-noted
take_node-requires-clause-noted c = noted_same c.args.nodes.now c.take_edge.new.nodes c.args.lost.now c.args.exports.now.entries c.requires.noted c.take_edge.ensures.same
