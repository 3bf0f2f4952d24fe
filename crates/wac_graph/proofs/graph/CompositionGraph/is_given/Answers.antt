use Rattle.std.proofs.Common.{◌≡◌, ◌∙◌}
use Rattle.wac_graph_model.specs.nodes.Graph.{instantiation}
use Rattle.wac_graph_reader.proofs.lemmas.writing.EncodingLemmas.{contains_node, of_node, the_set}
use Rattle.wac_graph.specs.private.Inside.{fields_of}
use Rattle.wac_graph.proofs.graph.CompositionGraph.is_given.Goals as goal

pub index-requires : goal.index-requires
index-requires c = contains_node (fields_of c.self.inside) c.args.instantiation.0 (λ x. x.kind ≡ instantiation) (rw (← c.self.view_is) at c.requires)

pub unreachable-requires : goal.unreachable-requires
unreachable-requires c =
    let (s, is) = the_set c.index.result.now.kind (of_node (fields_of c.self.inside) c.args.instantiation.0 c.index.result.now (λ x. x.kind ≡ instantiation) (rw (← c.self.view_is) at c.requires) c.index.ensures) in
    c.in_default.not-Instantiation s (c.kind.ensures ∙ is)
