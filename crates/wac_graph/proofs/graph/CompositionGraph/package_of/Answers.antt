use Rattle.std.proofs.Common.{◌≡◌, IfSome, Some, sym, subst}
use Rattle.std.specs.Prelude.{IsSomeAnd}
use Rattle.wac_edges.specs.Edge.{node_number}
use Rattle.wac_graph_model.specs.nodes.Graph.{node_at, package_at, instantiation}
use Rattle.wac_graph.proofs.graph.CompositionGraph.package_of.Goals as goal

pub package_of-requires : goal.package_of-requires
package_of-requires c = subst (λ g. IsSomeAnd (node_at g (node_number c.args.n)) (λ node. node.kind ≡ instantiation)) (sym c.reader.ensures) c.requires

pub returns-clause-owner : goal.returns-clause-owner
returns-clause-owner c = subst (λ g. IfSome (node_at g (node_number c.args.n)) (λ node. node.owner ≡ Some c.package_of.result.0)) c.reader.ensures c.package_of.ensures.owner

pub returns-clause-registered : goal.returns-clause-registered
returns-clause-registered c = subst (λ g. package_at g c.package_of.result.0 ≡ Some c.package_of.result.1.now) c.reader.ensures c.package_of.ensures.registered
