use Rattle.std.proofs.Common.{◌++◌, List}
use Rattle.wac_edges.specs.declared.node.NodeId.{NodeId}
use Rattle.wac_edges.specs.Edge.{is_left}
use Rattle.wac_edges.specs.Order.{Edges, Writes}
use Rattle.wac_edges.specs.private.Ready.{AllRise}
use Rattle.wac_edges.proofs.RisingLemmas.{left_from}
use Rattle.wac_edges.proofs.order.rising.Given as goal

abbrev pub invariant-loop-n : goal.invariant-loop-n
invariant-loop-n l = (edges : Edges) → AllRise edges → (ns : List NodeId) → Writes edges (left_from l.left l.n) ns → Writes edges (is_left l.left) (l.ids.items ++ ns)
