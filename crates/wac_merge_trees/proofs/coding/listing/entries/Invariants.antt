use Rattle.std.proofs.Common.{take}
use Rattle.wac_merge_trees.specs.private.coding.Coding.{source_tree}
use Rattle.wac_merge_trees.proofs.lemmas.coding.SortedEntries.{AreEntries}
use Rattle.wac_merge_trees.proofs.coding.listing.entries.Given as goal

abbrev pub invariant-loop-i : goal.invariant-loop-i
invariant-loop-i l = AreEntries l.nodes (source_tree l.source) (take l.i l.kinds) l.entries.items
