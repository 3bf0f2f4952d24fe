use Rattle.wac_graph_fields.proofs.OwnedLemmas.{cleared_first, cleared_more}
use Rattle.wac_graph_fields.proofs.TiedLemmas.{fewer_then}
use Rattle.wac_graph_fields.proofs.owned.take_from.Goals as goal

pub loop-edge-init : goal.loop-edge-init
loop-edge-init c = cleared_first c.args.nodes.now c.args.edges.now c.args.node c.requires

pub loop-edge-preserved : goal.loop-edge-preserved
loop-edge-preserved c =
    cleared_more c.args.nodes.now c.args.edges.now c.args.node c.loop-edge.nodes c.take_edge.new.nodes c.loop-edge.edges c.take_edge.new.edges c.in-Some.edge c.loop-edge.invariant c.in-Some.ensures.there.1
    c.take_edge.ensures.edges c.take_edge.ensures.same c.take_edge.ensures.tied

pub loop-edge-smaller : goal.loop-edge-smaller
loop-edge-smaller c = fewer_then c.loop-edge.edges c.take_edge.new.edges c.in-Some.edge c.in-Some.ensures.there.0 c.take_edge.ensures.edges

pub take_edge-requires-clause-stands : goal.take_edge-requires-clause-stands
take_edge-requires-clause-stands c = c.in-Some.ensures.there.0

pub take_edge-requires-clause-tied : goal.take_edge-requires-clause-tied
take_edge-requires-clause-tied c = c.loop-edge.invariant.tied
