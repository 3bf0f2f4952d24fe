use Rattle.wac_graph_model.proofs.lemmas.nodes.NodeLemmas.{there}
use Rattle.wac_graph_fields.proofs.ImportLemmas.{name_there}
use Rattle.wac_graph.specs.private.Inside.{fields_of}
use Rattle.wac_graph.proofs.graph.CompositionGraph.get_import_name.Goals as goal

pub index-requires : goal.index-requires
index-requires c = there c.self.inside.nodes.slots c.args.id.0 (rw (← c.self.view_is) at c.requires)

pub returns : goal.returns
returns c = rw (← c.self.view_is) (name_there (fields_of c.self.inside) c.args.id c.index.result.now _ c.index.ensures c.import_name.ensures)
