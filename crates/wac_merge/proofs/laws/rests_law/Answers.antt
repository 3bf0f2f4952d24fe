use Rattle.wac_merge.proofs.OrderOnce.{order_rests}
use Rattle.wac_merge.proofs.laws.rests_law.Goals as goal

pub returns : goal.returns
returns c = λ t es order written. order_rests t es order written
