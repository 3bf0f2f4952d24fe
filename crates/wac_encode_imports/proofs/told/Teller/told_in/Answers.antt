use Rattle.std.proofs.Common.{true, false, sym, ◌∙◌}
use Rattle.wac_encode_scopes.specs.private.Closed.{is_closed_in}
use Rattle.wac_encode_imports.proofs.Telling.{told-none, told-some}
use Rattle.wac_encode_imports.proofs.told.Teller.told_in.Goals as goal

pub returns-in_err-definition : goal.returns-in_err-definition
returns-in_err-definition c = λ n. c.from_residual.ensures ∙ sym (told-none c.args.self.now.types.now (is_closed_in c.args.told.now) (n, c.args.item) (sym (c.definition_in.ensures n) ∙ c.in_err-definition.was))

pub returns-then-contains : goal.returns-then-contains
returns-then-contains c = λ n.
    sym (told-some c.args.self.now.types.now (is_closed_in c.args.told.now) (n, c.args.item) c.in_ok-definition.definition (sym (c.definition_in.ensures n) ∙ c.in_ok-definition.was) true (sym c.contains.ensures ∙ c.if-contains.true))

pub returns-else-contains : goal.returns-else-contains
returns-else-contains c = λ n.
    sym (told-some c.args.self.now.types.now (is_closed_in c.args.told.now) (n, c.args.item) c.in_ok-definition.definition (sym (c.definition_in.ensures n) ∙ c.in_ok-definition.was) false (sym c.contains.ensures ∙ c.if-contains.false))
