use Rattle.std.proofs.Common.{ap, ◌∙◌, ◌++◌, ◌∷◌, [], refl}
use Rattle.wac_types.specs.declared.comparison.questions.Asked.{Asked}
use Rattle.wac_types.proofs.lemmas.comparison.Joining.{plain_put, plain_follows}
use Rattle.wac_types.proofs.comparison.questions.Asked.put_plain.Goals as goal

pub returns-then-join-clause-put : goal.returns-then-join-clause-put
returns-then-join-clause-put c =
    let new : Asked = record { questions = c.push.new.self; others = c.args.self.now.others; classes = c.join.new.self } in
    plain_put c.args.self.now new new c.args.question (rw (c.reserve-else-is_err.ensures.same, c.if-join.true) at c.join.ensures) refl refl
    (rw c.unwrap.ensures at c.push.ensures.items ∙ ap (λ qs. qs ++ c.args.question ∷ []) c.reserve.ensures.items)

pub returns-else-join-clause-put : goal.returns-else-join-clause-put
returns-else-join-clause-put c =
    let new : Asked = record { questions = c.reserve.new.self; others = c.args.self.now.others; classes = c.join.new.self } in
    plain_follows c.args.self.now new c.args.question c.reserve.ensures.items refl (rw (c.reserve-else-is_err.ensures.same, c.if-join.false) at c.join.ensures)
