use Rattle.std.proofs.Common.{ap, refl, sym, subst, Some}
use Rattle.std.specs.Option.{option_map}
use Rattle.wac_graph_model.specs.declared.nodes.node.Node.{Node}
use Rattle.wac_graph_model.specs.declared.nodes.node.NodeKind.{NodeKind}
use Rattle.wac_graph_model.specs.nodes.Nodes.{node_of, KindHasRoom}
use Rattle.slab.specs.Slab.{get}
use Rattle.wac_graph_model.proofs.lemmas.nodes.SatisfyLemmas.{kept_at, room_there, room_of, no_room, of_ok, marked}
use Rattle.wac_graph_model.proofs.nodes.marks.satisfy.Goals as goal

pub index_mut-node-requires : goal.index_mut-node-requires
index_mut-node-requires c = room_there (get c.args.nodes.now c.args.number) c.requires

pub unreachable-requires : goal.unreachable-requires
unreachable-requires c = no_room c.index_mut-node.result.now.kind c.in_default.not-Instantiation (room_of c.args.nodes.now c.args.number c.index_mut-node.result.now c.index_mut-node.ensures.value c.requires)

pub unwrap-requires : goal.unwrap-requires
unwrap-requires c = c.insert.ensures.succeeds (subst KindHasRoom c.in-Instantiation.is (room_of c.args.nodes.now c.args.number c.index_mut-node.result.now c.index_mut-node.ensures.value c.requires))

pub returns-clause-same : goal.returns-clause-same
returns-clause-same c = λ q. kept_at (option_map node_of) c.args.nodes.now c.args.number c.index_mut-node.result.now _ c.index_mut-node.ensures.value
    (ap (λ (k : NodeKind). let n : Node = record c.index_mut-node.result.now { kind = k } in Some (node_of n)) (sym c.in-Instantiation.is)) q

pub returns-clause-marks : goal.returns-clause-marks
returns-clause-marks c =
    marked c.args.nodes.now c.args.number c.index_mut-node.result.now _ _ _ c.index_mut-node.ensures.value c.in-Instantiation.is refl c.args.position
    (of_ok c.insert.result (c.insert.ensures.succeeds (subst KindHasRoom c.in-Instantiation.is (room_of c.args.nodes.now c.args.number c.index_mut-node.result.now c.index_mut-node.ensures.value c.requires))) c.insert.ensures.updates).0
