use Rattle.std.proofs.Common.{◌∙◌}
use Rattle.wac_graph_model.proofs.lemmas.nodes.NodeLemmas.{lookup_text}
use Rattle.wac_graph.proofs.graph.CompositionGraph.get_export.Goals as goal

pub returns : goal.returns
returns c = rw (← c.self.view_is, lookup_text) (c.copied.ensures ∙ c.get.ensures.value)
