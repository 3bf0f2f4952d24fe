use Rattle.std.proofs.Common.{◌≡◌, drop}
use Rattle.wac_merge_tables.specs.private.tables.Nodes.{types_of}
use Rattle.wac_merge_tables.specs.private.tables.NodeViews.{listed}
use Rattle.wac_edges.specs.private.Arranging.{with_all}
use Rattle.wac_merge_agreement.proofs.agreement.reach.put_items.Given as goal

abbrev pub invariant-loop-item : goal.invariant-loop-item
invariant-loop-item l = with_all l.numbers.keys (types_of (listed (drop l.item-index l.items))) ≡ with_all l.initial.numbers.keys (types_of (listed l.items))
