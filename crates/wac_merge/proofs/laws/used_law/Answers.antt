use Rattle.wac_merge.proofs.UsedBefore.{used_before}
use Rattle.wac_merge.proofs.laws.used_law.Goals as goal

pub returns : goal.returns
returns c = λ t es m g. used_before t es m g
