use Rattle.wac_merge_classes.specs.entries.Classes.{by_names}
use Rattle.wac_merge_agreement.proofs.lemmas.agreement.OrderLaws.{order_each, order_once}
use Rattle.wac_merge.proofs.OrderOnce.{order_only}
use Rattle.wac_merge.proofs.laws.order_law.Goals as goal

pub returns : goal.returns
returns c = λ t es order written. record { each = order_each by_names es t order written; once = order_once by_names es t order written; only = order_only t es order written }
