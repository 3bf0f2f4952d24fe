use Rattle.std.proofs.Common.{◌≡◌, ◌++◌, List, length}
use Rattle.std.specs.Prelude.{count_by}
use Rattle.wac_edges.specs.declared.node.NodeId.{NodeId}
use Rattle.wac_edges.specs.Edge.{is_left}
use Rattle.wac_edges.specs.Order.{Writes}
use Rattle.wac_edges.specs.private.Ready.{AreCounted, AreReady}
use Rattle.wac_edges.proofs.order.order_by_counts.Given as goal

abbrev pub invariant-loop-n : goal.invariant-loop-n
invariant-loop-n l = record {
  later : (ns : List NodeId) → Writes l.edges (is_left l.left.items) ns → Writes l.edges (is_left l.fn.left.items) (l.written.items ++ ns);
  long : length l.counts.items ≡ length l.left.items;
  counted : AreCounted l.left.items l.edges l.counts.items;
  ready : AreReady l.ready l.bound l.left.items l.counts.items;
}

abbrev pub decreases-loop-n : goal.decreases-loop-n
decreases-loop-n l = count_by (λ b. b) l.left.items
