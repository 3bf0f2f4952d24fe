use Rattle.wac_encode.proofs.ToldItems.{end-plain}
use Rattle.wac_encode.proofs.telling.recorded_type.Goals as goal

pub returns-in_default : goal.returns-in_default
returns-in_default c = end-plain c.args.types.now c.args.ty c.in_default.not-Value
