use Rattle.std.proofs.Common.{◌≡◌, [], ◌∷◌, None, MatchOption, subst}
use Rattle.wac_edges.specs.Edge.{node_number}
use Rattle.wac_graph_fields.specs.private.ImportsLeft.{node_left}
use Rattle.wac_graph_model.specs.nodes.Graph.{Graph, node_at}
use Rattle.wac_graph.proofs.graph.CompositionGraph.unset_at.Goals as goal

pub returns : goal.returns
returns c = subst (λ (g : Graph). MatchOption c.unset_at.result (node_left g c.args.n c.args.from (node_at g (node_number c.args.n)) ≡ []) (λ r. node_left g c.args.n c.args.from (node_at g (node_number c.args.n)) ≡ (r.1.now, r.2, None) ∷ node_left g c.args.n r.0 (node_at g (node_number c.args.n)))) c.reader.ensures c.unset_at.ensures
