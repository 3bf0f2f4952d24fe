use Rattle.wac_graph_model.proofs.lemmas.nodes.StaysLemmas.{interface-stays}
use Rattle.wac_demo.proofs.compositions.empty_instance.Goals as goal

pub returns : goal.returns
returns c = interface-stays _ _ _ _ c.add_interface.ensures.added
