use Rattle.wac_graph_fields.proofs.TiedLemmas.{pruned_first, pruned_more, fewer_then, only_kept}
use Rattle.wac_graph_fields.proofs.taking.take_into.Goals as goal

pub loop-edge-init : goal.loop-edge-init
loop-edge-init c = pruned_first c.args.nodes.now c.args.edges.now c.args.node c.args.kept c.requires

pub loop-edge-preserved : goal.loop-edge-preserved
loop-edge-preserved c =
    pruned_more c.args.nodes.now c.args.edges.now c.args.node c.args.kept c.loop-edge.nodes c.take_edge.new.nodes c.loop-edge.edges c.take_edge.new.edges c.in-Some.edge c.loop-edge.invariant c.in-Some.ensures.there.0 c.in-Some.ensures.there.1 c.in-Some.ensures.other
    c.take_edge.ensures.edges c.take_edge.ensures.same c.take_edge.ensures.tied

pub loop-edge-smaller : goal.loop-edge-smaller
loop-edge-smaller c = fewer_then c.loop-edge.edges c.take_edge.new.edges c.in-Some.edge c.in-Some.ensures.there.0 c.take_edge.ensures.edges

pub take_edge-requires-clause-stands : goal.take_edge-requires-clause-stands
take_edge-requires-clause-stands c = c.in-Some.ensures.there.0

pub take_edge-requires-clause-tied : goal.take_edge-requires-clause-tied
take_edge-requires-clause-tied c = c.loop-edge.invariant.tied

pub returns-clause-only : goal.returns-clause-only
returns-clause-only c = λ e h into. only_kept c.args.kept e (c.in_default.ensures.none e h into)
