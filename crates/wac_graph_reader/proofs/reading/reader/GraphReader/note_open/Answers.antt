use Rattle.std.proofs.Common.{[], ◌∷◌, ◌++◌, ◌∙◌, ap, cond, sym}
use Rattle.std.proofs.lemmas.List.{append-nil}
use Rattle.wac_graph_reader.proofs.reading.reader.GraphReader.note_open.Goals as goal

pub returns-then-not-is_open : goal.returns-then-not-is_open
returns-then-not-is_open c =
    let none = c.is_open.ensures ∙ ap (λ b. cond b (c.args.n ∷ []) []) c.if-not-is_open.true in
    sym (ap (λ xs. c.args.numbers.now.items ++ xs) none ∙ append-nil c.args.numbers.now.items)

pub returns : goal.returns
returns c =
    let one = c.is_open.ensures ∙ ap (λ b. cond b (c.args.n ∷ []) []) c.if-not-is_open.false in
    c.in_ok-push.ensures.items ∙ sym (ap (λ xs. c.args.numbers.now.items ++ xs) one)
