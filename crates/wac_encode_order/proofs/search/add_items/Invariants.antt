use Rattle.wac_encode_order.specs.private.Graph.{AllHeld, HaveItems}
use Rattle.wac_encode_order.proofs.search.add_items.Given as goal

abbrev pub invariant-loop-i : goal.invariant-loop-i
invariant-loop-i l = record {
  items : HaveItems l.types l.items l.i l.found.keys;
  held : AllHeld l.types l.found.keys;
}
