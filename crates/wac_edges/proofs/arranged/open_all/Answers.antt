use Rattle.std.proofs.Common.{arith}
use Rattle.wac_edges.proofs.ArrangedSteps.{open_next}
use Rattle.wac_edges.proofs.arranged.open_all.Goals as goal

pub loop-i-preserved : goal.loop-i-preserved
loop-i-preserved c = record {
  within = omega (arith, c.loop-i.invariant.within);
  left = open_next c.args.numbers.now c.loop-i.i c.loop-i.steps.items c.push.new.self.items _ (omega (arith, c.loop-i-test.true)) c.loop-i.invariant.within c.in_ok-push.ensures.items c.loop-i.invariant.left;
}
