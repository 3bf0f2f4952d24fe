use Rattle.wac_names.proofs.NameFacts.{decided}
use Rattle.wac_names.proofs.name.one_answer.Goals as goal

pub returns : goal.returns
returns c = decided
