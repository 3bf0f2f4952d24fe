use Rattle.wac_merge_tables.specs.private.tables.NodeViews.{listed}
use Rattle.wac_merge_trees.specs.private.coding.Coding.{source_tree}
use Rattle.wac_merge_trees.proofs.lemmas.coding.CodingGrowth.{answer_same}
use Rattle.wac_merge_trees.proofs.lemmas.coding.CodingListing.{fits_instance}
use Rattle.wac_merge_trees.proofs.coding.listing.listing.Goals as goal

pub returns-clause-number : goal.returns-clause-number
returns-clause-number c =
    let fits = fits_instance c.args.nodes.now (source_tree c.args.source.now) c.args.kinds.now (listed c.in_ok-exports.exports.items) c.in_ok-exports.ensures.lists in
    answer_same c.add.result c.add.new.nodes _ _ fits.is c.add.ensures.number
