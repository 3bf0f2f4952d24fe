use Rattle.std.proofs.Common.{take}
use Rattle.wac_merge_trees.specs.private.coding.Coding.{source_tree, values_of, IsGrown, AreFields}
use Rattle.wac_merge_trees.proofs.coding.memo.Memo.fields.Given as goal

abbrev pub invariant-loop-i : goal.invariant-loop-i
invariant-loop-i l = record { grown : IsGrown l.fn.nodes l.nodes; numbers : AreFields l.nodes (values_of (source_tree l.source)) (take l.i l.fields) l.numbers.items }
