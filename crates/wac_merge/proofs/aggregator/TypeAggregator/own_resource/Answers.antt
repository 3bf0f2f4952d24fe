use Rattle.std.proofs.Common.{sym, ap, ◌∙◌}
use Rattle.wac_merge_classes.specs.terms.Merge.{own_resource}
use Rattle.wac_merge_classes.proofs.lemmas.terms.OwnResources.{bound-nowhere, bound-there}
use Rattle.wac_merge.proofs.aggregator.TypeAggregator.own_resource.Goals as goal

pub returns-in_err-kind : goal.returns-in_err-kind
returns-in_err-kind c =
    c.from_residual.ensures ∙ sym (bound-nowhere c.args.self.now.merge c.args.id.now c.args.name.now c.imports.result.now c.imports.ensures c.get.result c.get.ensures c.in_err-kind.was)

pub returns : goal.returns
returns c =
    let m = c.args.self.now.merge in
    c.own_resource.ensures ∙ (ap (λ t. own_resource t c.args.id.now c.args.name.now c.in_ok-kind.kind.now) c.types.ensures
    ∙ sym (bound-there m c.args.id.now c.args.name.now c.imports.result.now c.imports.ensures c.get.result c.in_ok-kind.kind c.get.ensures c.in_ok-kind.was))
