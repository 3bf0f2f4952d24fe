use Rattle.std.proofs.Common.{take}
use Rattle.wac_merge_trees.specs.private.coding.Coding.{source_tree, values_of, IsGrown, AreParts}
use Rattle.wac_merge_trees.proofs.coding.memo.Memo.parts.Given as goal

abbrev pub invariant-loop-i : goal.invariant-loop-i
invariant-loop-i l = record { grown : IsGrown l.fn.nodes l.nodes; numbers : AreParts l.nodes (values_of (source_tree l.source)) (take l.i l.values) l.numbers.items }
