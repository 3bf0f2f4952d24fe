use Rattle.std.proofs.lemmas.Bool.{iff_false}
use Rattle.std.proofs.lemmas.Result.{IfOk-weaker}
use Rattle.wac_types.proofs.lemmas.comparison.Equal.{primitives_told}
use Rattle.wac_types.proofs.lemmas.comparison.Values.{asks_now, asks_values}
use Rattle.wac_types.proofs.lemmas.comparison.Opened.{told_primitives, untold_primitives, asks_told}
use Rattle.wac_types.proofs.comparison.comparison.Comparison.ask_value.Goals as goal

pub returns-then-is_same_record-clause-asked : goal.returns-then-is_same_record-clause-asked
returns-then-is_same_record-clause-asked c = asks_now (c.is_same_record.ensures c.if-is_same_record.true)

pub returns-in-Primitive-Primitive-clause-asked : goal.returns-in-Primitive-Primitive-clause-asked
returns-in-Primitive-Primitive-clause-asked c = IfOk-weaker c.told.result _ _
    (λ _ e. asks_now (told_primitives _ _ _ _ _ _ (rw (c.in-Primitive-Primitive.is-0, c.in-Primitive-Primitive.is-1) at c.opened.ensures) ((primitives_told _ _ _ c.eq.ensures).0 e))) c.told.ensures.yes

pub returns-in-Primitive-Primitive-clause-mismatch : goal.returns-in-Primitive-Primitive-clause-mismatch
returns-in-Primitive-Primitive-clause-mismatch c = λ is. untold_primitives _ _ _ _ _ _ (rw (c.in-Primitive-Primitive.is-0, c.in-Primitive-Primitive.is-1) at c.opened.ensures) (iff_false (primitives_told _ _ _ c.eq.ensures) (c.told.ensures.no is))

pub returns-in_default-clause-asked : goal.returns-in_default-clause-asked
returns-in_default-clause-asked c = IfOk-weaker c.ask_type.result _ _ (λ _ s. asks_told c.args.v c.args.w _ _ c.opened.ensures (asks_values _ _ s)) c.ask_type.ensures.asked
