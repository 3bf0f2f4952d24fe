use Rattle.wac_merge.proofs.FaultLemmas.{one_fault}
use Rattle.wac_merge.proofs.laws.fault_law.Goals as goal

pub returns : goal.returns
returns c = one_fault
