use Rattle.wac_encode_faults.proofs.Steps.{step_to_none, step_to_itself, step_to_other}
use Rattle.std.proofs.lemmas.Result.{on_ok_weaker}
use Rattle.wac_encode_faults.proofs.cycle.add_step_to.Goals as goal

pub returns-in_default : goal.returns-in_default
returns-in_default c = step_to_none c.args.from c.args.to c.args.targets.now c.in_default.is

pub returns-then-to-from : goal.returns-then-to-from
returns-then-to-from c = step_to_itself c.args.from c.args.to c.args.targets.now c.in-Some.to c.in-Some.is c.if-to-from.true

pub returns : goal.returns
returns c = on_ok_weaker c.add_step.result (λ added. step_to_other c.args.from c.args.to c.args.targets.now c.in-Some.to c.add_step.new.targets c.in-Some.is c.if-to-from.false added) c.add_step.ensures
