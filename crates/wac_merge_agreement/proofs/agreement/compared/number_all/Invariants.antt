use Rattle.wac_merge_trees.specs.private.coding.Coding.{IsGrown}
use Rattle.wac_merge_trees.specs.private.coding.Listings.{AreKnown}
use Rattle.wac_merge_agreement.specs.private.agreement.Marks.{AreMarks}
use Rattle.wac_merge_agreement.proofs.agreement.compared.number_all.Given as goal

abbrev pub invariant-loop-i : goal.invariant-loop-i
invariant-loop-i l = record {
  grown : IsGrown l.fn.nodes l.nodes;
  known : AreKnown l.nodes l.asked.types.now l.known.items;
  marks : AreMarks l.nodes l.marks.items;
}
