use Rattle.wac_graph_model.proofs.lemmas.weight.AskedPaid.{asked-is-paid}
use Rattle.wac_graph_model.proofs.weight.asked_weight_law.Goals as goal

pub returns : goal.returns
returns c = asked-is-paid
