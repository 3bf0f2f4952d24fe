use Rattle.std.proofs.Common.{[], map, take}
use Rattle.wac_merge_tables.specs.private.tables.NodeViews.{item_view}
use Rattle.wac_merge_agreement.specs.private.agreeing.Rows.{ArePut, members_put, table_view}
use Rattle.wac_merge_agreement.proofs.agreeing.rows.members.Given as goal

abbrev pub invariant-loop-i : goal.invariant-loop-i
invariant-loop-i l = ArePut [] (take l.i (members_put 0 (map item_view l.items) l.classes)) (table_view l.rows.entries)
