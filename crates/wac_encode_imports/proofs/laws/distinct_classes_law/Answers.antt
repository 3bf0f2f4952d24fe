use Rattle.wac_encode_imports.proofs.Distinct.{distinct_classes_law}
use Rattle.wac_encode_imports.proofs.laws.distinct_classes_law.Goals as goal

pub returns : goal.returns
returns c = λ types entries merge merged ordered. distinct_classes_law types entries merge merged ordered
