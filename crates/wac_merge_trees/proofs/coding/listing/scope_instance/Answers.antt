use Rattle.std.proofs.Common.{ap, ◌∙◌}
use Rattle.wac_types_shapes.specs.primitives.Tree.{instance}
use Rattle.wac_merge_trees.specs.private.coding.CallsView.{names_in}
use Rattle.wac_merge_trees.specs.private.coding.Coding.{source_tree}
use Rattle.wac_merge_trees.specs.private.coding.ItemCoding.{listing_under}
use Rattle.wac_merge_trees.proofs.lemmas.coding.CodingGrowth.{answer_same}
use Rattle.wac_merge_trees.proofs.lemmas.coding.CodingListing.{scope_is}
use Rattle.wac_merge_trees.proofs.coding.listing.scope_instance.Goals as goal

pub returns-clause-number : goal.returns-clause-number
returns-clause-number c =
    let s = c.args.source.now in
    let here = ap (λ ks. instance (listing_under (source_tree s) ks)) c.listed_kinds-kinds.ensures in
    answer_same c.listing.result c.listing.new.nodes _ _ (here ∙ scope_is s.types.now (names_in s.types.now s.calls.now) c.args.opener) c.listing.ensures.number
