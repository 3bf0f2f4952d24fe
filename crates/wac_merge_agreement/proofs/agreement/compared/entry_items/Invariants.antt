use Rattle.std.proofs.Common.{◌≡◌, length, map}
use Rattle.wac_merge_trees.specs.private.coding.Coding.{IsGrown}
use Rattle.wac_merge_trees.specs.private.coding.Listings.{AreKnown}
use Rattle.wac_merge_agreement.specs.private.agreement.Compared.{AreCompared}
use Rattle.wac_merge_agreement.specs.private.agreement.Marks.{AreMarks}
use Rattle.wac_merge_tables.specs.private.tables.NodeViews.{item_view}
use Rattle.wac_merge_agreement.proofs.agreement.compared.entry_items.Given as goal

abbrev pub invariant-loop-i : goal.invariant-loop-i
invariant-loop-i l = record {
  counted : length l.items.items ≡ l.i;
  grown : IsGrown l.fn.nodes l.nodes;
  are : AreCompared l.nodes l.types l.entries (map item_view l.items.items);
  known : AreKnown l.nodes l.types l.known.items;
  marks : AreMarks l.nodes l.marks.items;
}
