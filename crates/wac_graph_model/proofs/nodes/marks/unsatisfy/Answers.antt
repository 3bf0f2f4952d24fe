use Rattle.std.proofs.Common.{ap, refl, sym, Some}
use Rattle.std.specs.Option.{option_map}
use Rattle.wac_graph_model.specs.declared.nodes.node.Node.{Node}
use Rattle.wac_graph_model.specs.declared.nodes.node.NodeKind.{NodeKind}
use Rattle.wac_graph_model.specs.nodes.Nodes.{node_of}
use Rattle.wac_graph_model.proofs.lemmas.nodes.SatisfyLemmas.{kept_at, unmarked}
use Rattle.wac_graph_model.proofs.nodes.marks.unsatisfy.Goals as goal

pub returns-clause-same : goal.returns-clause-same
returns-clause-same c = λ q. kept_at (option_map node_of) c.args.nodes.now c.args.number c.index_mut-node.result.now _ c.index_mut-node.ensures.value
    (ap (λ (k : NodeKind). let n : Node = record c.index_mut-node.result.now { kind = k } in Some (node_of n)) (sym c.in-Instantiation.is)) q

pub returns-clause-marks : goal.returns-clause-marks
returns-clause-marks c =
    unmarked c.args.nodes.now c.args.number c.index_mut-node.result.now _ _ _ c.index_mut-node.ensures.value c.in-Instantiation.is refl c.args.position c.remove.ensures.updates.0
