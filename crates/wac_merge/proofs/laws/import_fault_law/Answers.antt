use Rattle.wac_merge.proofs.ImportFaults.{entry_fault}
use Rattle.wac_merge.proofs.laws.import_fault_law.Goals as goal

pub returns : goal.returns
returns c = λ rules t es m has p x f at h. entry_fault rules t es m has p x at f h
