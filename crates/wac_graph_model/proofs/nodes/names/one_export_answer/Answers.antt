use Rattle.wac_graph_model.proofs.lemmas.nodes.ExternNameLemmas.{export_decided}
use Rattle.wac_graph_model.proofs.nodes.names.one_export_answer.Goals as goal

pub returns : goal.returns
returns c = λ text. export_decided text (c.one_answer.ensures text)
