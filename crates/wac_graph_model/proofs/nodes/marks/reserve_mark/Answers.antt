use Rattle.std.proofs.Common.{ap, sym, ◌∙◌, Some}
use Rattle.std.specs.Option.{option_map}
use Rattle.wac_graph_model.specs.declared.nodes.node.Node.{Node}
use Rattle.wac_graph_model.specs.declared.nodes.node.NodeKind.{NodeKind}
use Rattle.wac_graph_model.specs.nodes.Nodes.{node_of, satisfied, satisfied_at}
use Rattle.std.proofs.lemmas.Result.{on_ok_weaker}
use Rattle.wac_graph_model.proofs.lemmas.nodes.SatisfyLemmas.{kept_at, room_at}
use Rattle.wac_graph_model.proofs.nodes.marks.reserve_mark.Goals as goal

pub returns-clause-same : goal.returns-clause-same
returns-clause-same c = λ q. kept_at (option_map node_of) c.args.nodes.now c.args.number c.index_mut-node.result.now _ c.index_mut-node.ensures.value
    (ap (λ (k : NodeKind). let n : Node = record c.index_mut-node.result.now { kind = k } in Some (node_of n)) (sym c.in-Instantiation.is)) q

pub returns-clause-marks : goal.returns-clause-marks
returns-clause-marks c = λ q i. kept_at (λ o. satisfied_at o i) c.args.nodes.now c.args.number c.index_mut-node.result.now _ c.index_mut-node.ensures.value
    (c.reserve.ensures.keys.2 i ∙ sym (ap (λ k. satisfied k i) c.in-Instantiation.is)) q

pub returns-clause-room : goal.returns-clause-room
returns-clause-room c =
    on_ok_weaker c.reserve.result (λ room. room_at c.args.nodes.now c.args.number c.index_mut-node.result.now c.index_mut-node.ensures.value _ room) c.reserve.ensures.ok
