use Rattle.std.specs.List.Sorted.{IsPermutation}
use Rattle.wac_merge_trees.proofs.coding.order.exchange_all.Given as goal

abbrev pub invariant-loop-i : goal.invariant-loop-i
invariant-loop-i l = IsPermutation l.fn.entries l.entries
