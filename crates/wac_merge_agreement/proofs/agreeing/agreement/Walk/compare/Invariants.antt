use Rattle.std.proofs.Common.{◌≡◌, ◌≤◌, map, take}
use Rattle.wac_merge_tables.specs.private.tables.NodeViews.{item_view}
use Rattle.wac_merge_agreement.specs.private.agreeing.Groups.{Splits}
use Rattle.wac_merge_agreement.specs.private.agreeing.Rows.{row_view}
use Rattle.wac_merge_agreement.proofs.agreeing.agreement.Walk.compare.Given as goal

abbrev pub invariant-loop-i : goal.invariant-loop-i
invariant-loop-i l = record {
  from : 1 ≤ l.i;
  groups : l.self.groups ≡ l.fn.self.groups;
  splits : Splits l.nodes l.holder (item_view l.held) l.fn.self.first (take l.i (map row_view l.rows)) (map row_view l.group.items) l.self.first;
}
