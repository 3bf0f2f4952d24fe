use Rattle.std.proofs.Common.{map, ap, ◌∙◌}
use Rattle.wac_graph.specs.Listed.{node_ids}
use Rattle.wac_graph.specs.private.Left.{id_of}
use Rattle.wac_graph.proofs.ListedLemmas.{ids_are}
use Rattle.wac_graph.specs.private.Inside.{fields_of}
use Rattle.wac_graph.proofs.graph.CompositionGraph.node_ids.Goals as goal

pub returns : goal.returns
returns c = ap (map id_of) c.iter.ensures.rest ∙ ids_are (fields_of c.self.inside) ∙ ap node_ids c.self.view_is
