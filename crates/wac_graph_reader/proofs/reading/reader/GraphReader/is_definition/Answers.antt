use Rattle.std.proofs.Common.{◌≡◌, ◌∙◌, ap, sym}
use Rattle.wac_edges.specs.Edge.{node_number}
use Rattle.wac_graph_model.specs.nodes.Graph as graph
use Rattle.wac_graph_model.specs.nodes.Nodes.{kind_of}
use Rattle.wac_graph_reader.proofs.lemmas.writing.EncodingLemmas.{of_node}
use Rattle.wac_graph_reader.specs.private.reading.Inside.{fields_of}
use Rattle.wac_graph_reader.specs.private.reading.Seen.{is_definition}
use Rattle.wac_graph_reader.proofs.lemmas.reading.SeenLemmas.{no_definition_there}
use Rattle.wac_graph_reader.proofs.reading.reader.GraphReader.is_definition.Goals as goal

pub returns-in-Some : goal.returns-in-Some
returns-in-Some c = rw (← c.self.view_is) (λ is. c.is_definition.ensures ∙ ap (λ k. is_definition (kind_of k)) c.kind.ensures ∙ ap is_definition (of_node (fields_of c.self.inside) c.args.n c.in-Some.node.now (λ x. x.kind ≡ graph.definition) is (sym c.in-Some.ensures)))

pub returns-in-None : goal.returns-in-None
returns-in-None c = rw (← c.self.view_is) (λ is. absurd (no_definition_there (fields_of c.self.inside) (node_number c.args.n) (sym c.in-None.ensures) is))
