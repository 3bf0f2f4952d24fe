use Rattle.std.proofs.Common.{◌∙◌}
use Rattle.wac_encode_faults.proofs.OwnedSteps.{so_first, so_next, so_all}
use Rattle.wac_encode_faults.proofs.cycle.add_steps_to.Goals as goal

pub loop-to-init : goal.loop-to-init
loop-to-init c = so_first c.args.from c.args.numbers.now.keys c.into_iter-to-iterator.result c.args.targets.now (c.into_iter-to-iterator.ensures.into_iter_gives ∙ c.iter-to-items.ensures.rest)

pub loop-to-preserved : goal.loop-to-preserved
loop-to-preserved c = so_next c.args.from c.in-Some.to.now c.args.numbers.now.keys c.loop-to.to-iterator c.next.new.self c.args.targets.now c.loop-to.targets c.add_step_to.new.targets c.in-Some.ensures.steps c.in_ok-add_step_to.ensures c.loop-to.invariant

pub returns : goal.returns
returns c = so_all c.args.from c.args.numbers.now.keys c.loop-to.to-iterator c.args.targets.now c.loop-to.targets c.in-None.ensures.steps.0 c.loop-to.invariant
