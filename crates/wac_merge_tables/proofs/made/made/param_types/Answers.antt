use Rattle.std.proofs.Common.{[], ◌∷◌, ◌++◌, ap, sym, ◌∙◌}
use Rattle.wac_types_collection.proofs.lemmas.subtyping.Taking.{seconds_take}
use Rattle.wac_merge_tables.proofs.made.made.param_types.Goals as goal

pub loop-i-preserved : goal.loop-i-preserved
loop-i-preserved c =
    c.in_ok-push.ensures.items ∙ ap (λ vs. vs ++ c.value_at.result.now ∷ []) c.loop-i.invariant ∙ sym (seconds_take c.args.params.now c.loop-i.i c.value_at.result.now c.value_at.ensures)
