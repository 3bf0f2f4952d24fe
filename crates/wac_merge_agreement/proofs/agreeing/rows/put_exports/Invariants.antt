use Rattle.std.proofs.Common.{take}
use Rattle.wac_merge_tables.specs.private.tables.NodeViews.{listed}
use Rattle.wac_merge_agreement.specs.private.agreeing.Rows.{ArePut, exports_put, table_view}
use Rattle.wac_merge_agreement.proofs.agreeing.rows.put_exports.Given as goal

abbrev pub invariant-loop-i : goal.invariant-loop-i
invariant-loop-i l = ArePut (table_view l.fn.rows.entries) (take l.i (exports_put l.entry (listed l.exports))) (table_view l.rows.entries)
