use Rattle.std.proofs.lemmas.Result.{IfOk-weaker}
use Rattle.wac_types.proofs.lemmas.comparison.Agreeing.{handed_on}
use Rattle.wac_types.proofs.lemmas.comparison.Subtyping.{asks_turned, asks_worlds, of_components}
use Rattle.wac_types.proofs.answers.ask_worlds.Goals as goal

pub returns-in_err-ask_items-clause-mismatch : goal.returns-in_err-ask_items-clause-mismatch
returns-in_err-ask_items-clause-mismatch c = λ is h.
    (rw (c.turned-turned.ensures.first, c.turned-turned.ensures.second) at c.in_err-ask_items.ensures.mismatch) (handed_on c.from_residual.result _ _ c.from_residual.ensures.1 is) (of_components _ _ _ _ h).0

pub returns-clause-asked : goal.returns-clause-asked
returns-clause-asked c =
    let imports = rw (c.turned-turned.ensures.turned, c.turned-turned.ensures.first, c.turned-turned.ensures.second) at c.in_ok-ask_items.ensures.asked in
    IfOk-weaker c.ask_items-2.result _ _ (λ _ s. asks_worlds c.args.w.now c.args.v.now (asks_turned c.args.comparison.turned c.args.comparison.first.now c.args.comparison.second.now _ _ _ _ imports) s) c.ask_items-2.ensures.asked
