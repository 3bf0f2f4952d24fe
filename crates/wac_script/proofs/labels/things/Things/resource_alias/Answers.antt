use Rattle.wac_script.proofs.ReadLemmas.{exit, exit-memory}
use Rattle.wac_script.proofs.labels.things.Things.resource_alias.Goals as goal

pub returns-in_err-source : goal.returns-in_err-source
returns-in_err-source c = exit _ _ c.from_residual.result (c.in_err-source.field-0).0 c.from_residual.ensures.1 c.in_err-source.ensures (λ none r h. none h.0 h.1)

pub returns-in_err-resource : goal.returns-in_err-resource
returns-in_err-resource c = exit-memory _ _ c.from_residual-in_err-resource.result c.from_residual-in_err-resource.ensures.1
