use Rattle.std.proofs.Common.{ap, sym, ◌∙◌, ◌++◌, ◌∷◌, [], refl}
use Rattle.wac_types.specs.declared.comparison.questions.Asked.{Asked}
use Rattle.wac_types.proofs.lemmas.comparison.Asking.{puts_none, puts_one}
use Rattle.wac_types.proofs.lemmas.comparison.Equal.{same_question}
use Rattle.wac_types.proofs.comparison.questions.Asked.put.Goals as goal

pub returns-in-Ok-true-clause-put : goal.returns-in-Ok-true-clause-put
returns-in-Ok-true-clause-put c =
    let new : Asked = record { questions = c.push.new.self; others = c.insert.new.self; classes = c.args.self.now.classes } in
    puts_one _ same_question c.args.self.now new c.args.question c.in-Ok-true.ensures.keys refl (sym c.in-Ok-true.ensures.added ∙ c.in-Ok-true.field-0-test)
    (rw c.unwrap.ensures at c.push.ensures.items ∙ ap (λ qs. qs ++ c.args.question ∷ []) c.reserve.ensures.items)

pub returns-in-Ok-false-clause-put : goal.returns-in-Ok-false-clause-put
returns-in-Ok-false-clause-put c =
    let new : Asked = record { questions = c.reserve.new.self; others = c.insert.new.self; classes = c.args.self.now.classes } in
    puts_none _ same_question c.args.self.now new c.args.question c.in-Ok-false.ensures.keys refl (sym c.in-Ok-false.ensures.added ∙ c.in-Ok-false.field-0-test) c.reserve.ensures.items
