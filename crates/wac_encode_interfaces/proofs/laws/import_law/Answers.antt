use Rattle.wac_encode_interfaces.proofs.Faultless.{import_of_none}
use Rattle.wac_encode_interfaces.proofs.laws.import_law.Goals as goal

pub returns : goal.returns
returns c = λ types root k none. import_of_none types root k none
