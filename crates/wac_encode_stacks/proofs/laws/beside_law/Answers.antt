use Rattle.wac_encode_stacks.proofs.Besides.{goes-on-beside}
use Rattle.wac_encode_stacks.proofs.laws.beside_law.Goals as goal

pub returns : goal.returns
returns c = record { goes_on_beside = goes-on-beside }
