use Rattle.std.proofs.Common.{ap, ◌∙◌, ◌++◌, ◌∷◌, [], List}
use Rattle.wac_encode_scopes.specs.declared.scope.Scope.{Scope}
use Rattle.wac_encode_scopes.proofs.state.State.push.Goals as goal

pub returns-clause-around : goal.returns-clause-around
returns-clause-around c = c.in-Ok.ensures.items ∙ ap (λ (xs : List Scope). xs ++ c.replace-outer.result ∷ []) c.reserve.ensures.items ∙ ap (λ (s : Scope). c.args.self.now.around.items ++ s ∷ []) c.replace-outer.ensures.value
