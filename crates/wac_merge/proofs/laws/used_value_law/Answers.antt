use Rattle.wac_merge.proofs.UsedValues.{used-value}
use Rattle.wac_merge.proofs.laws.used_value_law.Goals as goal

pub returns : goal.returns
returns c = λ t es m well g h. used-value t es m well g h
