use Rattle.wac_graph_model.proofs.lemmas.weight.Fitting.{costs-fit}
use Rattle.wac_graph_model.proofs.weight.costs_law.Goals as goal

pub returns : goal.returns
returns c = costs-fit
