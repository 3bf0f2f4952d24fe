use Rattle.std.proofs.Common.{◌∙◌, sym}
use Rattle.wac_encode_scopes.specs.private.Interfaces.{own_in}
use Rattle.wac_encode_scopes.proofs.Begun.{fresh-none}
use Rattle.wac_encode_scopes.proofs.Limits.{exit-large}
use Rattle.wac_encode_scopes.proofs.scope.Scope.list_own.Goals as goal

pub returns-in_err-list_fresh-clause-too_large : goal.returns-in_err-list_fresh-clause-too_large
returns-in_err-list_fresh-clause-too_large c l =
    fresh-none (own_in c.args.types.now c.args.uses.now (c.args.name.now, c.args.item)) c.in-Some.resource c.args.name.now c.args.self.now.content (sym c.own_resource.ensures ∙ c.in-Some.is)
    (c.in_err-list_fresh.ensures.too_large (exit-large _ c.from_residual.result c.from_residual.ensures.1 l))
