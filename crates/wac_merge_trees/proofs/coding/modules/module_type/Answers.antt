use Rattle.std.proofs.Common.{sym, ◌∙◌}
use Rattle.wac_merge_tables.specs.private.tables.NodeViews.{core_items, core_modules}
use Rattle.wac_merge_trees.specs.private.coding.CallsView.{names_in}
use Rattle.wac_merge_trees.proofs.lemmas.coding.CodingGrowth.{answer_same}
use Rattle.wac_merge_trees.proofs.lemmas.coding.CodingModules.{fits_module}
use Rattle.wac_merge_trees.proofs.lemmas.coding.CodingTrees.{module_is}
use Rattle.wac_merge_trees.proofs.coding.modules.module_type.Goals as goal

pub returns-clause-number : goal.returns-clause-number
returns-clause-number c =
    let s = c.args.source.now in
    let x = c.index-module.result.now in
    let fits = fits_module c.args.nodes.now x (core_modules c.in_ok-imports.imports.items) (core_items c.in_ok-exports.exports.items) c.in_ok-imports.ensures c.in_ok-exports.ensures in
    let e = module_is s.types.now (names_in s.types.now s.calls.now) c.args.id x c.index-module.ensures in
    answer_same c.add.result c.add.new.nodes _ _ (fits.is ∙ sym e) c.add.ensures.number
