use Rattle.std.proofs.Common.{ap, ◌∙◌}
use Rattle.wac_encode_order.proofs.Chosen.{node-taken, node-passed}
use Rattle.wac_encode_order.proofs.type_items.items_after.Goals as goal
use Rattle.wac_encode_order.proofs.type_items.items_after.Goals.{then-node-count+in_ok-push, else-node-count}

pub loop-node-preserved : goal.loop-node-preserved
loop-node-preserved c =
    elim c.if-node-count.branch [
      | then-node-count+in_ok-push w ↦ ap (λ v. v.items) w.items-is ∙ node-taken c.args.count c.loop-node.node-index c.args.nodes.now _ c.loop-node.items.items w.push.new.self.items c.loop-node-test.true w.if-node-count.true c.loop-node.invariant w.in_ok-push.ensures.items
      | else-node-count w ↦ ap (λ v. v.items) w.items-is ∙ node-passed c.args.count c.loop-node.node-index c.args.nodes.now _ c.loop-node.items.items c.loop-node-test.true w.if-node-count.false c.loop-node.invariant
    ]
