use Rattle.std.proofs.Common.{rules, ◌<◌, length, refl, ap, ◌∙◌}
use Rattle.wac_types_collection.specs.collection.Collection.{world_imports, world_exports}
use Rattle.wac_types_shapes.specs.declared.shapes.component.ItemKind.TheVariants as kind
use Rattle.wac_types_shapes.specs.declared.shapes.component.«Type».TheVariants as ty
use Rattle.wac_merge_trees.specs.declared.coding.calls.Calls.{Calls}
use Rattle.wac_merge_trees.specs.declared.coding.coder.Source.{Source}
use Rattle.wac_merge_classes.specs.declared.entries.scopes.Opener.TheVariants as opener
use Rattle.wac_merge_trees.specs.private.coding.CallsView.{names_in}
use Rattle.wac_merge_trees.specs.private.coding.Coding.{source_tree, tree_in}
use Rattle.wac_merge_trees.specs.private.coding.ItemCoding.{component_tree}
use Rattle.wac_merge_trees.specs.private.coding.Listings.{at_scope}
use Rattle.wac_merge_trees.proofs.lemmas.coding.CodingGrowth.{answer_same}
use Rattle.wac_merge_trees.proofs.lemmas.coding.Opened.{world-is, inner-names, imports-listed, exports-listed, listed-within, listing-read}
use Rattle.wac_merge_trees.proofs.coding.listings.inner_component.Goals as goal

pub position-imports-requires : goal.position-imports-requires
position-imports-requires c = c.requires.opened (opener.Imports c.args.id) (imports-listed (kind.TypeItem (ty.World c.args.id)) c.args.id refl) c.requires.unknown

pub position-exports-requires : goal.position-exports-requires
position-exports-requires c = c.requires.opened (opener.Exports c.args.id) (exports-listed (kind.TypeItem (ty.World c.args.id)) c.args.id refl) c.requires.unknown

pub offset_bounds-listings-imports : goal.offset_bounds-listings-imports
offset_bounds-listings-imports c =
    let lt : c.position-imports.result < length c.args.listings.now = listed-within c.args.source.now.calls.now c.position-imports.result (length c.args.listings.now) _ c.requires.counted c.position-imports.ensures in
    search rules

pub bounds-listings-imports : goal.bounds-listings-imports
bounds-listings-imports c = listed-within c.args.source.now.calls.now c.position-imports.result (length c.args.listings.now) _ c.requires.counted c.position-imports.ensures

pub offset_bounds-listings-exports : goal.offset_bounds-listings-exports
offset_bounds-listings-exports c =
    let lt : c.position-exports.result < length c.args.listings.now = listed-within c.args.source.now.calls.now c.position-exports.result (length c.args.listings.now) _ c.requires.counted c.position-exports.ensures in
    search rules

pub bounds-listings-exports : goal.bounds-listings-exports
bounds-listings-exports c = listed-within c.args.source.now.calls.now c.position-exports.result (length c.args.listings.now) _ c.requires.counted c.position-exports.ensures

pub component-requires-clause-imported : goal.component-requires-clause-imported
component-requires-clause-imported c =
    let s = c.args.source.now in
    let lt = listed-within s.calls.now c.position-imports.result (length c.args.listings.now) _ c.requires.counted c.position-imports.ensures in
    listing-read c.args.nodes.now s.types.now s.calls.now c.position-imports.result (opener.Imports c.args.id) c.args.listings.now c.index-listings-imports.result c.as_slice-imported.result.now c.with-inside.result
    c.requires.listings c.position-imports.ensures lt c.index-listings-imports.is c.as_slice-imported.ensures.value (ap (λ (x : Source). x.types.now) c.with-inside.ensures)
    (ap (λ (x : Source). x.calls.now) c.with-inside.ensures ∙ c.at-calls.ensures)

pub component-requires-clause-exported : goal.component-requires-clause-exported
component-requires-clause-exported c =
    let s = c.args.source.now in
    let lt = listed-within s.calls.now c.position-exports.result (length c.args.listings.now) _ c.requires.counted c.position-exports.ensures in
    listing-read c.args.nodes.now s.types.now s.calls.now c.position-exports.result (opener.Exports c.args.id) c.args.listings.now c.index-listings-exports.result c.as_slice-exported.result.now c.with-outside.result
    c.requires.listings c.position-exports.ensures lt c.index-listings-exports.is c.as_slice-exported.ensures.value (ap (λ (x : Source). x.types.now) c.with-outside.ensures)
    (ap (λ (x : Source). x.calls.now) c.with-outside.ensures ∙ c.at-calls-2.ensures)

pub returns-clause-number : goal.returns-clause-number
returns-clause-number c =
    let s = c.args.source.now in
    let t = s.types.now in
    let id = c.args.id in
    let imports = inner-names t s.calls.now c.requires.named c.requires.around (opener.Imports id) c.position-imports.result c.position-imports.ensures in
    let exports = inner-names t s.calls.now c.requires.named c.requires.around (opener.Exports id) c.position-exports.result c.position-exports.ensures in
    let one = c.with-inside.ensures in
    let two = c.with-outside.ensures in
    let first = c.at-calls.ensures in
    let next = c.at-calls-2.ensures in
    let sides = λ (x y : Source). component_tree (source_tree x) (world_imports x.types.now id) (source_tree y) (world_exports y.types.now id) in
    let called = λ (x y : Calls). component_tree (tree_in t (names_in t x)) (world_imports t id) (tree_in t (names_in t y)) (world_exports t id) in
    let same =
    (λ i. sides (one i) (two i))
    ∙ ((λ i. called (first i) (next i))
    ∙ world-is t (names_in t s.calls.now) c.trees_are_whole.ensures.bound (names_in t (at_scope s.calls.now c.position-imports.result)) (names_in t (at_scope s.calls.now c.position-exports.result)) id c.requires.held imports exports) in
    answer_same c.component.result c.component.new.nodes _ _ same c.component.ensures.number
