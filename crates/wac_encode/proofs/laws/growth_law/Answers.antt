use Rattle.wac_encode.proofs.Growing.{keeps-items, state-grown}
use Rattle.wac_encode.proofs.laws.growth_law.Goals as goal

pub returns : goal.returns
returns c = record { grown = state-grown; added = keeps-items }
