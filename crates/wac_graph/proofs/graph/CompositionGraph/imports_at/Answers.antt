use Rattle.std.proofs.Common.{◌≡◌, IfSome, sym, subst}
use Rattle.std.specs.Prelude.{IsSomeAnd}
use Rattle.wac_edges.specs.Edge.{node_number}
use Rattle.wac_graph_model.specs.nodes.Graph.{node_at, imports_of, instantiation}
use Rattle.wac_graph.proofs.graph.CompositionGraph.imports_at.Goals as goal

pub imports_at-requires : goal.imports_at-requires
imports_at-requires c = subst (λ g. IsSomeAnd (node_at g (node_number c.args.n)) (λ node. node.kind ≡ instantiation)) (sym c.reader.ensures) c.requires

pub returns : goal.returns
returns c = subst (λ g. IfSome (node_at g (node_number c.args.n)) (λ node. c.imports_at.result.now ≡ imports_of g node)) c.reader.ensures c.imports_at.ensures
