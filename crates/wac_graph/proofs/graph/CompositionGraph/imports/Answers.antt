use Rattle.wac_graph_reader.proofs.lemmas.writing.ImportRows.{all_left}
use Rattle.wac_graph.specs.private.Inside.{fields_of}
use Rattle.wac_graph.proofs.graph.CompositionGraph.imports.Goals as goal

pub returns : goal.returns
returns c = rw (← c.self.view_is) (all_left (fields_of c.self.inside) c.capacity.result c.capacity.ensures.slots)
