use Rattle.std.proofs.Common.{◌≡◌, drop}
use Rattle.std.specs.List.{list_any}
use Rattle.wac_merge_tables.specs.private.tables.Nodes.{types_of}
use Rattle.wac_merge_tables.specs.private.tables.NodeViews.{listed}
use Rattle.wac_merge_agreement.specs.private.agreement.ReachSteps.{flag_of}
use Rattle.wac_merge_agreement.proofs.agreement.flags.any_item.Given as goal

abbrev pub invariant-loop-item : goal.invariant-loop-item
invariant-loop-item l = list_any (flag_of l.flags) (types_of (listed (drop l.item-index l.items))) ≡ list_any (flag_of l.flags) (types_of (listed l.items))
