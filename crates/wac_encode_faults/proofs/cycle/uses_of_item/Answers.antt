use Rattle.std.proofs.lemmas.Result.{IfOk-weaker}
use Rattle.wac_encode_faults.proofs.ItemSteps.{uses_instance, uses_nothing}
use Rattle.wac_encode_faults.proofs.cycle.uses_of_item.Goals as goal

pub returns-in-Instance : goal.returns-in-Instance
returns-in-Instance c = IfOk-weaker c.wide_uses.result _ _ (λ s e. uses_instance c.args.types.now c.law.ensures c.args.item c.in-Instance.id s.keys c.in-Instance.is e) c.wide_uses.ensures

pub returns-in_default : goal.returns-in_default
returns-in_default c = uses_nothing c.args.types.now c.args.item c.new.result.keys (λ i is. c.in_default.not-Instance i is) c.new.ensures.empty
