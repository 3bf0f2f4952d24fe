use Rattle.wac_binary.proofs.ScopeLaws.{new_function, functions_earlier}
use Rattle.wac_binary.proofs.laws.module_law.Goals as goal

pub returns : goal.returns
returns c = record { new_function = new_function; earlier = functions_earlier }
