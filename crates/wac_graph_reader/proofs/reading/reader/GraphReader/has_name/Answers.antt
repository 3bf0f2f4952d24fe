use Rattle.std.proofs.Common.{◌∙◌, sym}
use Rattle.wac_edges.specs.Edge.{node_number}
use Rattle.wac_graph_model.specs.nodes.Nodes.{node_of}
use Rattle.wac_graph_model.proofs.lemmas.nodes.NodeLemmas.{text_read}
use Rattle.wac_graph_reader.proofs.lemmas.writing.NamingLemmas.{none_there, name_there}
use Rattle.wac_graph_reader.specs.private.reading.Inside.{fields_of}
use Rattle.wac_graph_reader.proofs.reading.reader.GraphReader.has_name.Goals as goal

pub returns-in-Some : goal.returns-in-Some
returns-in-Some c = rw (← c.self.view_is) (λ sort h. let (some, sorted) = name_there (fields_of c.self.inside) (node_number c.args.n) sort c.in-Some.node.now (sym c.in-Some.ensures) h in c.is_some.ensures ∙ text_read c.name.result (node_of c.in-Some.node.now).name c.name.ensures ∙ some)

pub returns-in-None : goal.returns-in-None
returns-in-None c = rw (← c.self.view_is) (λ sort h. absurd (none_there (fields_of c.self.inside) (node_number c.args.n) sort (sym c.in-None.ensures) h))
