use Rattle.std.proofs.lemmas.Result.{IfOk-weaker}
use Rattle.indexmap.proofs.DrainLemmas.{same_flag}
use Rattle.wac_types.proofs.lemmas.comparison.Definitions.{asks_funcs}
use Rattle.wac_types.proofs.comparison.comparison.Comparison.ask_func.Goals as goal

pub returns-clause-asked : goal.returns-clause-asked
returns-clause-asked c = IfOk-weaker c.ask_named.result _ _ (λ _ s. asks_funcs c.args.f.now c.args.g.now (same_flag c.args.f.now.is_async c.args.g.now.is_async c.if-f-g.false) c.in_ok-ask_optional.ensures.asked s) c.ask_named.ensures.asked
