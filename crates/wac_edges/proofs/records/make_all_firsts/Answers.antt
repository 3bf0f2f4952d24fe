use Rattle.std.proofs.Common.{vec_len, ◌∙◌}
use Rattle.wac_edges.proofs.AddingLemmas.{edge_in, at_place, firsts_more, firsts_all}
use Rattle.wac_edges.proofs.records.make_all_firsts.Goals as goal

pub loop-edge-preserved : goal.loop-edge-preserved
loop-edge-preserved c = (
  λ end n. c.make_firsts-in-loop-edge.ensures.same end n ∙ c.make_firsts.ensures.same end n ∙ c.loop-edge.invariant.0 end n,
  firsts_more (vec_len c.loop-edge.firsts) (vec_len c.make_firsts.new.firsts) (vec_len c.make_firsts-in-loop-edge.new.firsts) c.args.edges.now c.loop-edge.edge-index (edge_in c.args.edges.now c.loop-edge.edge-index)
      (at_place c.args.edges.now c.loop-edge.edge-index c.loop-edge-test.true) c.make_firsts.ensures.longer c.make_firsts-in-loop-edge.ensures.longer c.in_ok-make_firsts.ensures.there c.in_ok-make_firsts-2.ensures.there c.loop-edge.invariant.1,
)

pub returns-clause-there : goal.returns-clause-there
returns-clause-there c = firsts_all (vec_len c.loop-edge.firsts) c.args.edges.now c.loop-edge.edge-index c.loop-edge-test.false c.loop-edge.invariant.1
