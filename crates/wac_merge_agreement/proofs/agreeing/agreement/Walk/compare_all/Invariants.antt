use Rattle.std.proofs.Common.{take}
use Rattle.wac_merge_agreement.specs.private.agreeing.Groups.{ComparesAll}
use Rattle.wac_merge_agreement.specs.private.agreeing.Rows.{table_view}
use Rattle.wac_merge_agreement.proofs.agreeing.agreement.Walk.compare_all.Given as goal

abbrev pub invariant-loop-i : goal.invariant-loop-i
invariant-loop-i l = ComparesAll l.nodes l.fn.self (take l.i (table_view l.rows.entries)) l.self
