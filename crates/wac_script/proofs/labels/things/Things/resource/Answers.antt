use Rattle.wac_script.proofs.ReadLemmas.{exit-only}
use Rattle.wac_script.proofs.labels.things.Things.resource.Goals as goal

pub returns-in_err-resource : goal.returns-in_err-resource
returns-in_err-resource c = exit-only _ c.from_residual.result c.from_residual.ensures.1
