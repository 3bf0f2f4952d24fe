use Rattle.wac_binary.specs.declared.sorts.Description.TheVariants as e
use Rattle.std.proofs.Common.{subst}
use Rattle.wac_encode_scopes.proofs.Limits.{memory-small, exit-none}
use Rattle.wac_encode_scopes.specs.declared.encodable.Encodable.{Encodable}
use Rattle.wac_encode_scopes.specs.Contents.{content_of}
use Rattle.wac_encode_scopes.specs.Roots.{and_import}
use Rattle.wac_encode_scopes.specs.private.Limits.{IsTooLarge}
use Rattle.wac_encode_stacks.specs.private.Sizes.{ContentFits}
use Rattle.wac_encode_scopes.proofs.scope.Scope.import_fresh.Goals as goal

pub returns-in_err-reserve_resource-clause-too_large : goal.returns-in_err-reserve_resource-clause-too_large
returns-in_err-reserve_resource-clause-too_large c = memory-small _ c.from_residual.result _ c.from_residual.ensures.1 c.in_err-reserve_resource.ensures.memory

pub returns-in_err-own-clause-too_large : goal.returns-in_err-own-clause-too_large
returns-in_err-own-clause-too_large c =
    subst (λ (x : Encodable). IsTooLarge c.from_residual-in_err-own.result → ContentFits (content_of (and_import c.args.name.now e.Fresh x)) → ⊥) c.reserve_resource.ensures.content
    (exit-none _ c.from_residual-in_err-own.result _ c.from_residual-in_err-own.ensures.1 c.in_err-own.ensures.too_large)
