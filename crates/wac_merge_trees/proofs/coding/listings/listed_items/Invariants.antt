use Rattle.std.proofs.Common.{take}
use Rattle.wac_merge_trees.specs.private.coding.Coding.{source_tree, IsGrown, IsRight}
use Rattle.wac_merge_trees.specs.private.coding.ItemCoding.{AreItems}
use Rattle.wac_merge_trees.proofs.coding.listings.listed_items.Given as goal

abbrev pub invariant-loop-i : goal.invariant-loop-i
invariant-loop-i l = record {
  grown : IsGrown l.fn.nodes l.nodes;
  right : IsRight (source_tree l.source) l.memo l.nodes;
  items : AreItems l.nodes (source_tree l.source) (take l.i l.kinds) l.items.items;
}
