use Rattle.wac_merge.proofs.Links.{laws}
use Rattle.wac_merge.proofs.laws.class_laws.Goals as goal

pub returns : goal.returns
returns c = laws
