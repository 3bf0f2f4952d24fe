use Rattle.wac_graph_model.proofs.lemmas.nodes.NodeLemmas.{get-nodes_of, is_some-node_of}
use Rattle.wac_graph.proofs.graph.CompositionGraph.has_node.Goals as goal

pub returns : goal.returns
returns c = rw (← c.self.view_is, get-nodes_of, is_some-node_of) c.contains.ensures
