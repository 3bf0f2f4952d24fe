use Rattle.std.proofs.Common.{◌≡◌, [], ap, sym, ◌∙◌}
use Rattle.wac_types_shapes.specs.primitives.Name.{option_case}
use Rattle.wac_types_collection.specs.collection.Collection.{world_imports, world_exports}
use Rattle.wac_merge_tables.specs.private.tables.NodeViews.{listed}
use Rattle.wac_merge_trees.specs.private.coding.Coding.{source_tree}
use Rattle.wac_merge_trees.specs.private.coding.ItemCoding.{component_tree}
use Rattle.wac_merge_trees.proofs.lemmas.coding.CodingGrowth.{answer_same}
use Rattle.wac_merge_trees.proofs.lemmas.coding.CodingListing.{fits_component}
use Rattle.wac_merge_trees.proofs.coding.listing.component.Goals as goal

pub returns-clause-number : goal.returns-clause-number
returns-clause-number c =
    let t = source_tree c.args.inside.now in
    let u = source_tree c.args.outside.now in
    let x = c.index.result.now in
    let y = c.index-2.result.now in
    let imported : x.imports ≡ world_imports c.args.inside.now.types.now c.args.id = ap (λ o. option_case o [] (λ w. w.imports)) (sym c.index.ensures) in
    let exported : y.exports ≡ world_exports c.args.outside.now.types.now c.args.id = ap (λ o. option_case o [] (λ w. w.exports)) (sym c.index-2.ensures) in
    let fits = fits_component c.args.nodes.now t u x.imports y.exports (listed c.in_ok-imports.imports.items) (listed c.in_ok-exports.exports.items) c.in_ok-imports.ensures.lists c.in_ok-exports.ensures.lists in
    answer_same c.add.result c.add.new.nodes _ _ (fits.is ∙ (λ j. component_tree t (imported j) u (exported j))) c.add.ensures.number
