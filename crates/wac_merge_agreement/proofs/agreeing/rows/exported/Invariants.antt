use Rattle.std.proofs.Common.{[], map, take}
use Rattle.wac_merge_agreement.specs.private.agreeing.Rows.{all_put, ArePut, row_view, table_view}
use Rattle.wac_merge_agreement.proofs.agreeing.rows.exported.Given as goal

abbrev pub invariant-loop-i : goal.invariant-loop-i
invariant-loop-i l = ArePut [] (all_put l.nodes (take l.i (map row_view l.group))) (table_view l.rows.entries)
