use Rattle.wac_encode_interfaces.proofs.Faultless.{definition_of_none}
use Rattle.wac_encode_interfaces.proofs.laws.definition_law.Goals as goal

pub returns : goal.returns
returns c = λ types root k none. definition_of_none types root k none
