use Rattle.wac_merge.proofs.UsedResources.{used-resource}
use Rattle.wac_merge.proofs.laws.used_resource_law.Goals as goal

pub returns : goal.returns
returns c = λ t es m well g h. used-resource t es m well g h
