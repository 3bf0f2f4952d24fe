use Rattle.std.proofs.Common.{sym, subst, ◌∙◌}
use Rattle.wac_binary.specs.declared.sorts.Sort.TheVariants as s
use Rattle.wac_binary.specs.Items.{outer_alias}
use Rattle.wac_encode_scopes.specs.Contents.{AddsTypes}
use Rattle.wac_encode_scopes.proofs.Added.{adds-alias}
use Rattle.wac_encode_scopes.proofs.Limits.{memory-fits}
use Rattle.wac_encode_scopes.proofs.scope.Scope.alias_resource.Goals as goal

pub returns-in_err-record_resource-clause-types : goal.returns-in_err-record_resource-clause-types
returns-in_err-record_resource-clause-types c = subst (AddsTypes c.args.self.now.content) (sym (c.record_resource.ensures.content ∙ c.in_ok-own.ensures.appended)) (adds-alias (outer_alias s.Type c.args.count c.args.index) tt c.args.self.now.content)

pub returns-clause-types : goal.returns-clause-types
returns-clause-types c = subst (AddsTypes c.args.self.now.content) (sym (c.record_resource.ensures.content ∙ c.in_ok-own.ensures.appended)) (adds-alias (outer_alias s.Type c.args.count c.args.index) tt c.args.self.now.content)

pub returns-in_err-record_resource-clause-too_large : goal.returns-in_err-record_resource-clause-too_large
returns-in_err-record_resource-clause-too_large c = memory-fits _ c.from_residual-in_err-record_resource.result _ c.from_residual-in_err-record_resource.ensures.1 c.in_err-record_resource.ensures.memory c.in_ok-own.ensures.too_large
