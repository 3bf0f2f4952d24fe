use Rattle.std.proofs.Common.{◌≡◌, [], ◌∷◌, Some, MatchOption, subst}
use Rattle.wac_edges.specs.Edge.{node_number}
use Rattle.wac_graph_model.specs.nodes.Imports.{node_rows}
use Rattle.wac_graph.proofs.graph.CompositionGraph.import_node_at.Goals as goal

pub returns : goal.returns
returns c = subst (λ g. MatchOption c.import_node_at.result (node_rows g c.args.n ≡ []) (λ r. node_rows g c.args.n ≡ (r.0.now, r.1, Some (node_number c.args.n)) ∷ [])) c.reader.ensures c.import_node_at.ensures
