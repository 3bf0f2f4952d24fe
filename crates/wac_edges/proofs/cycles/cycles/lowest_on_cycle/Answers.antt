use Rattle.std.proofs.Common.{arith, below_more}
use Rattle.std.proofs.lemmas.Bool.{OnTrue_at, OnFalse_at}
use Rattle.wac_edges.specs.cycles.Cycles.{LeadsBack}
use Rattle.wac_edges.proofs.lemmas.cycles.CycleSearch.{lowest_of, none_at_all}
use Rattle.wac_edges.proofs.cycles.cycles.lowest_on_cycle.Goals as goal

pub loop-n-preserved : goal.loop-n-preserved
loop-n-preserved c = below_more (λ m. LeadsBack c.args.targets.now m → ⊥) _ c.loop-n.invariant (OnFalse_at c.if-branch.false c.in_ok-is_on_cycle.ensures.off)

pub loop-n-preserved-then-is_ruled_out : goal.loop-n-preserved-then-is_ruled_out
loop-n-preserved-then-is_ruled_out c = below_more (λ m. LeadsBack c.args.targets.now m → ⊥) _ c.loop-n.invariant (OnTrue_at c.if-is_ruled_out.true c.is_ruled_out.ensures)

pub returns : goal.returns
returns c = none_at_all c.args.targets.now c.loop-n.n (omega (arith, c.loop-n-test.false)) c.loop-n.invariant

pub returns-then-branch : goal.returns-then-branch
returns-then-branch c = lowest_of c.args.targets.now c.loop-n.n (OnTrue_at c.if-branch.true c.in_ok-is_on_cycle.ensures.on) c.loop-n.invariant
