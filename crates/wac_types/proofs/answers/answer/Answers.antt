use Rattle.std.proofs.lemmas.Result.{IfOk-weaker}
use Rattle.wac_types.proofs.lemmas.comparison.Asking.{rests_now, rests_iff}
use Rattle.wac_types.proofs.lemmas.comparison.Values.{values_are}
use Rattle.wac_types.proofs.lemmas.comparison.Typing.{modules_are}
use Rattle.wac_types.proofs.answers.answer.Goals as goal

pub returns-in-Value-Value-clause-settled : goal.returns-in-Value-Value-clause-settled
returns-in-Value-Value-clause-settled c =
    let iff = values_are c.args.comparison.first.now c.args.comparison.second.now c.in-Value-Value.v c.in-Value-Value.w in
    rw (c.in-Value-Value.is-0, c.in-Value-Value.is-1) (IfOk-weaker c.answer_value.result _ _ (λ _ s. rests_iff c.args.comparison.turned c.args.comparison.first.now c.args.comparison.second.now _ _ _ _ iff.0 iff.1 s) c.answer_value.ensures.settled)

pub returns-then-is_module_subtype-clause-settled : goal.returns-then-is_module_subtype-clause-settled
returns-then-is_module_subtype-clause-settled c = rw (c.in-Module-Module.is-0, c.in-Module-Module.is-1)
    (rests_now c.args.comparison.turned c.args.comparison.first.now c.args.comparison.second.now _ _ _ ((modules_are c.args.comparison.first.now c.args.comparison.second.now c.law.ensures c.law-2.ensures _ _ _ _ c.index-in-Module-Module.ensures c.index-in-Module-Module-2.ensures).0 (c.is_module_subtype.ensures.0 c.if-is_module_subtype.true)))
