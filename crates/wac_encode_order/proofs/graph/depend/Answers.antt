use Rattle.wac_edges.specs.declared.edges.Edge.{Edge}
use Rattle.wac_edges.specs.declared.edges.Label.TheVariants.{Dependency}
use Rattle.wac_edges.specs.Edge.{node_number}
use Rattle.wac_encode_order.proofs.Edging.{edge-adds, on-ok}
use Rattle.wac_encode_order.proofs.graph.depend.Goals as goal

pub returns : goal.returns
returns c =
    let x : Edge = record { source = node_number c.args.source; target = node_number c.args.target; label = Dependency } in
    on-ok c.add.result (edge-adds c.args.edges.now c.add.new.self x) c.add.ensures.ok
