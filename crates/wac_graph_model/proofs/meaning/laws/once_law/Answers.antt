use Rattle.wac_graph_model.proofs.lemmas.meaning.OnceLemmas.{packages_once}
use Rattle.wac_graph_model.proofs.meaning.laws.once_law.Goals as goal

pub returns : goal.returns
returns c = packages_once
