use Rattle.wac_encode_stacks.proofs.Aliases.{is-its-end}
use Rattle.wac_encode_stacks.proofs.laws.alias_law.Goals as goal

pub returns : goal.returns
returns c = is-its-end
