use Rattle.std.proofs.Common.{arith}
use Rattle.wac_edges.proofs.AddingLemmas.{edge_in, at_place, rise_more, rise_all}
use Rattle.wac_edges.proofs.records.any_falls.Goals as goal

pub loop-edge-preserved : goal.loop-edge-preserved
loop-edge-preserved c =
    rise_more c.args.edges.now c.loop-edge.edge-index (edge_in c.args.edges.now c.loop-edge.edge-index) (at_place c.args.edges.now c.loop-edge.edge-index c.loop-edge-test.true)
    (let up = c.if-edge.false in omega (arith, up)) c.loop-edge.invariant

pub returns : goal.returns
returns c = rise_all c.args.edges.now c.loop-edge.edge-index c.loop-edge-test.false c.loop-edge.invariant
