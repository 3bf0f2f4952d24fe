use Rattle.wac_encode_interfaces.proofs.ByFree.{trees_by_free}
use Rattle.wac_encode_interfaces.proofs.laws.free_law.Goals as goal

pub returns : goal.returns
returns c = trees_by_free
