use Rattle.std.proofs.Common.{◌≡◌, take}
use Rattle.wac_encode_order.specs.private.Graph.{items_of}
use Rattle.wac_encode_order.proofs.type_items.items_after.Given as goal

abbrev pub invariant-loop-node : goal.invariant-loop-node
invariant-loop-node l = l.items.items ≡ items_of l.count (take l.node-index l.nodes)
