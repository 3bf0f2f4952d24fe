use Rattle.wac_graph_model.proofs.lemmas.nodes.AgainLemmas.{second_alias, second_argument, given_back}
use Rattle.wac_graph_model.proofs.nodes.laws.again_law.Goals as goal

pub returns : goal.returns
returns c = record { alias = second_alias; argument = second_argument; unset = given_back }
