use Rattle.wac_encode.proofs.Faultless.{item-plain}
use Rattle.wac_encode.proofs.check.item_of_type.Goals as goal

pub returns-in_default : goal.returns-in_default
returns-in_default c = item-plain c.args.ty c.in_default.not-Module
