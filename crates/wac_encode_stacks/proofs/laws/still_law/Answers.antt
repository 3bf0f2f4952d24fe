use Rattle.wac_encode_stacks.proofs.Steps.{onward-refl}
use Rattle.wac_encode_stacks.proofs.laws.still_law.Goals as goal

pub returns : goal.returns
returns c = onward-refl
