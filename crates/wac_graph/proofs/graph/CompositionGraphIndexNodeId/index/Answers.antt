use Rattle.wac_graph_reader.proofs.lemmas.writing.EncodingLemmas.{has_number, gives_node}
use Rattle.wac_graph.specs.private.Inside.{fields_of}
use Rattle.wac_graph.proofs.graph.CompositionGraphIndexNodeId.index.Goals as goal

pub index-requires : goal.index-requires
index-requires c = has_number (fields_of c.self.inside) c.args.id.0 (rw (← c.self.view_is) at c.requires)

pub returns : goal.returns
returns c = rw (← c.self.view_is) (gives_node (fields_of c.self.inside) c.self.invariant c.args.id c.index.result.now c.index.ensures)
