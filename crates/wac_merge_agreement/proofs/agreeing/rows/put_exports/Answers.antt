use Rattle.std.proofs.Common.{◌≡◌, ◌≤◌, take, length, List, [], Some, slice_index_or, refl, subst, arith, add-one}
use Rattle.std.specs.Prelude.{slice_get}
use Rattle.std.proofs.lemmas.Option.{slice_get-get_or}
use Rattle.wac_types_shapes.specs.primitives.Name.{Name}
use Rattle.wac_merge_tables.specs.private.tables.Nodes.{Item}
use Rattle.wac_merge_tables.specs.private.tables.NodeViews.{item_view, listed}
use Rattle.wac_merge_tables.specs.declared.tables.nodes.Item.{Item as AnItem}
use Rattle.wac_merge_tables.specs.declared.tables.nodes.Item.TheVariants as item
use Rattle.wac_types_collection.proofs.lemmas.subtyping.Telling.{Borrowed}
use Rattle.wac_types_shapes.proofs.lemmas.shapes.Names.{take_at}
use Rattle.wac_merge_classes.proofs.lemmas.terms.Found.{get_map, mapped_length}
use Rattle.wac_merge_agreement.specs.private.agreeing.Rows.{ArePut, export, exports_put, IsPut, Row, Spot, table_view}
use Rattle.wac_merge_agreement.proofs.lemmas.agreeing.Tables.{none_put, puts_more, taken}
use Rattle.wac_merge_agreement.proofs.agreeing.rows.put_exports.Goals as goal

pub loop-i-init : goal.loop-i-init
loop-i-init c = none_put (exports_put c.args.entry (listed c.args.exports.now)) (table_view c.args.rows.now.entries) _ refl

pub loop-i-preserved : goal.loop-i-preserved
loop-i-preserved c =
    let es = c.args.exports.now in
    let i = c.loop-i.i in
    let none : Borrowed × AnItem = (record { ref_ptr = (0, 0); now = [] }, item.«Type» 0) in
    let e = slice_index_or es i none in
    let ps = exports_put c.args.entry (listed es) in
    let at : slice_get es i ≡ Some e = slice_get-get_or es i none c.loop-i-test.true in
    let there : slice_get ps i ≡ Some (export e.0.now, (c.args.entry, item_view e.1)) =
    get_map {B = Spot × Row} (λ (x : Name × Item). (export x.0, (c.args.entry, x.1))) (listed es) i (e.0.now, item_view e.1) (get_map {B = Name × Item} (λ x. (x.0.now, item_view x.1)) es i e at) in
    let one : IsPut (table_view c.loop-i.rows.entries) (export e.0.now) (c.args.entry, item_view e.1) (table_view c.put.new.rows.entries) = c.in_ok-put.ensures in
    rw (add-one, take_at ps i (export e.0.now, (c.args.entry, item_view e.1)) there)
    (puts_more (take i ps) (export e.0.now, (c.args.entry, item_view e.1)) (table_view c.args.rows.now.entries) (table_view c.loop-i.rows.entries) (table_view c.put.new.rows.entries) c.loop-i.invariant one)

pub returns : goal.returns
returns c =
    let es = listed c.args.exports.now in
    let ps = exports_put c.args.entry es in
    let long : length ps ≤ c.loop-i.i =
    omega (arith, mapped_length {B = Spot × Row} (λ (x : Name × Item). (export x.0, (c.args.entry, x.1))) es, mapped_length {B = Name × Item} (λ x. (x.0.now, item_view x.1)) c.args.exports.now, c.loop-i-test.false) in
    subst (λ (qs : List (Spot × Row)). ArePut (table_view c.args.rows.now.entries) qs (table_view c.loop-i.rows.entries)) (taken ps c.loop-i.i long) c.loop-i.invariant
