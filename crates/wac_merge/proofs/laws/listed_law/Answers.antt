use Rattle.wac_merge.proofs.ListedInOrder.{listed-in-order}
use Rattle.wac_merge.proofs.laws.listed_law.Goals as goal

pub returns : goal.returns
returns c = λ t es m g h. listed-in-order t es m g h
