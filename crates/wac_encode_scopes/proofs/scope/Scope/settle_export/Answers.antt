use Rattle.std.proofs.Common.{ap, sym, subst, ◌∙◌}
use Rattle.wac_encode_scopes.specs.declared.scope.Scope.{Scope}
use Rattle.wac_encode_scopes.specs.Contents.{AddsTypes}
use Rattle.wac_encode_scopes.specs.Books.{opened}
use Rattle.wac_encode_scopes.proofs.Added.{adds-aliased}
use Rattle.wac_encode_scopes.proofs.Limits.{memory-fits}
use Rattle.wac_encode_scopes.proofs.scope.Scope.settle_export.Goals as goal

pub returns-in_err-record_export-clause-types : goal.returns-in_err-record_export-clause-types
returns-in_err-record_export-clause-types c = subst (AddsTypes c.args.self.now.content) (sym (c.record_export.ensures.content ∙ ap (λ (s : Scope). s.content) c.in_ok-own.ensures.appended)) (adds-aliased ((opened c.args.merged c.args.self.now).exports c.args.definition) c.args.self.now.content)

pub returns-clause-types : goal.returns-clause-types
returns-clause-types c = subst (AddsTypes c.args.self.now.content) (sym (c.record_export.ensures.content ∙ ap (λ (s : Scope). s.content) c.in_ok-own.ensures.appended)) (adds-aliased ((opened c.args.merged c.args.self.now).exports c.args.definition) c.args.self.now.content)

pub returns-in_err-record_export-clause-too_large : goal.returns-in_err-record_export-clause-too_large
returns-in_err-record_export-clause-too_large c = memory-fits _ c.from_residual-in_err-record_export.result _ c.from_residual-in_err-record_export.ensures.1 c.in_err-record_export.ensures.memory c.in_ok-own.ensures.too_large
