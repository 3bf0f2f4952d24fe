use Rattle.std.proofs.Common.{◌≡◌, ℕ, ◌+◌, ◌-◌, ◌/◌, ◌<◌, [], slice_index_or, sym, Some, length, arith}
use Rattle.std.specs.Prelude.{slice_get}
use Rattle.std.specs.declared.cmp.Ordering.TheVariants.{Less, Equal, Greater}
use Rattle.std.proofs.lemmas.Option.{slice_get-get_or}
use Rattle.wac_merge_tables.specs.private.tables.NodeViews.{item_view, listed}
use Rattle.wac_merge_tables.specs.declared.tables.nodes.Item.{Item as AnItem}
use Rattle.wac_merge_tables.specs.declared.tables.nodes.Item.TheVariants as item
use Rattle.wac_types_collection.proofs.lemmas.subtyping.Telling.{Borrowed}
use Rattle.wac_merge_classes.proofs.lemmas.terms.Found.{get_map}
use Rattle.wac_merge_agreement.specs.private.agreement.Shapes.{compare}
use Rattle.wac_merge_agreement.proofs.lemmas.agreement.Searching.{before_more, behind_more, found_here, found_nowhere}
use Rattle.wac_merge_agreement.proofs.agreement.apart.find_export.Goals as goal

abbrev none : Borrowed × AnItem
none = (record { ref_ptr = (0, 0); now = [] }, item.«Type» 0)

pub loop-low-preserved-in-Less : goal.loop-low-preserved-in-Less
loop-low-preserved-in-Less c =
    let es = c.args.exports.now in
    let m : ℕ = c.loop-low.low + (c.loop-low.high - c.loop-low.low) / 2 in
    let e = slice_index_or es m none in
    let lt : m < length es = omega (arith, c.loop-low-test.true, c.loop-low.invariant.within) in
    let at : slice_get es m ≡ Some e = slice_get-get_or es m none lt in
    let less : compare e.0.now c.args.name.now ≡ Less = sym c.in-Less.ensures in
    record {
      within = c.loop-low.invariant.within;
      before = before_more (listed es) c.args.name.now m (e.0.now, item_view e.1) c.requires (get_map (λ x. (x.0.now, item_view x.1)) es m e at) less;
      behind = c.loop-low.invariant.behind;
    }

pub loop-low-preserved : goal.loop-low-preserved
loop-low-preserved c =
    let es = c.args.exports.now in
    let m : ℕ = c.loop-low.low + (c.loop-low.high - c.loop-low.low) / 2 in
    let e = slice_index_or es m none in
    let lt : m < length es = omega (arith, c.loop-low-test.true, c.loop-low.invariant.within) in
    let at : slice_get es m ≡ Some e = slice_get-get_or es m none lt in
    let more : compare e.0.now c.args.name.now ≡ Greater = sym c.in-Greater.ensures in
    record {
      within = omega (arith, lt);
      before = c.loop-low.invariant.before;
      behind = behind_more (listed es) c.args.name.now m (e.0.now, item_view e.1) c.requires (get_map (λ x. (x.0.now, item_view x.1)) es m e at) more;
    }

pub returns-in-Equal : goal.returns-in-Equal
returns-in-Equal c =
    let es = c.args.exports.now in
    let m : ℕ = c.loop-low.low + (c.loop-low.high - c.loop-low.low) / 2 in
    let e = slice_index_or es m none in
    let lt : m < length es = omega (arith, c.loop-low-test.true, c.loop-low.invariant.within) in
    let at : slice_get es m ≡ Some e = slice_get-get_or es m none lt in
    let equal : compare e.0.now c.args.name.now ≡ Equal = sym c.in-Equal.ensures in
    sym (found_here (listed es) c.args.name.now m (e.0.now, item_view e.1) c.requires (get_map (λ x. (x.0.now, item_view x.1)) es m e at) equal)

pub returns : goal.returns
returns c = sym (found_nowhere (listed c.args.exports.now) c.args.name.now c.loop-low.low c.loop-low.high c.loop-low.invariant.before c.loop-low.invariant.behind c.loop-low-test.false)
