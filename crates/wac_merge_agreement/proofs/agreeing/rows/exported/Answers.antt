use Rattle.std.proofs.Common.{◌≡◌, ◌≤◌, ◌<◌, [], map, take, length, slice_index_or, List, Some, ap, sym, subst, arith, add-one}
use Rattle.std.specs.Prelude.{slice_get}
use Rattle.std.proofs.lemmas.Option.{slice_get-get_or}
use Rattle.wac_types_shapes.specs.primitives.Name.{option_case}
use Rattle.wac_types_shapes.proofs.lemmas.shapes.Names.{take_at}
use Rattle.wac_types_shapes.proofs.lemmas.shapes.Under.{none_mapped}
use Rattle.wac_merge_tables.specs.private.tables.Nodes.{type_of}
use Rattle.wac_merge_tables.specs.private.tables.NodeViews.{item_view, listed}
use Rattle.wac_merge_tables.specs.declared.tables.nodes.Item.TheVariants as item
use Rattle.wac_merge_agreement.specs.private.agreeing.Fitting.{exports_of}
use Rattle.wac_merge_agreement.specs.private.agreeing.Rows.{ArePut, all_put, exports_put, Row, row_view, table_view}
use Rattle.wac_merge_classes.proofs.lemmas.terms.Found.{get_map, mapped_length}
use Rattle.wac_merge_agreement.proofs.lemmas.agreeing.Comparing.{all_at}
use Rattle.wac_merge_agreement.proofs.lemmas.agreeing.Tables.{no_put, none_put_rows, put_row, some_put, taken}
use Rattle.wac_merge_agreement.proofs.agreeing.rows.exported.Goals.{in-Some+in_ok-put_exports, in_default}
use Rattle.wac_merge_agreement.proofs.agreeing.rows.exported.Goals as goal

pub loop-i-init : goal.loop-i-init
loop-i-init c = none_put_rows c.args.nodes.now (map row_view c.args.group.now) _ (ap (λ es. table_view es) c.new-rows.ensures.empty)

pub exports-requires : goal.exports-requires
exports-requires c =
    let group = c.args.group.now in
    let p = slice_index_or group c.loop-i.i (0, item.«Type» 0) in
    let at : slice_get (map row_view group) c.loop-i.i ≡ Some (row_view p) = get_map row_view group c.loop-i.i p (slice_get-get_or group c.loop-i.i (0, item.«Type» 0) c.loop-i-test.true) in
    all_at (λ (r : Row). type_of r.1 < length c.args.nodes.now) (map row_view group) c.loop-i.i (row_view p) c.requires at

pub loop-i-preserved : goal.loop-i-preserved
loop-i-preserved c =
    let ns = c.args.nodes.now in
    let group = c.args.group.now in
    let i = c.loop-i.i in
    let p = slice_index_or group i (0, item.«Type» 0) in
    let at : slice_get (map row_view group) i ≡ Some (row_view p) = get_map row_view group i p (slice_get-get_or group i (0, item.«Type» 0) c.loop-i-test.true) in
    let old = table_view c.loop-i.rows.entries in
    let new = table_view c.match-exports.rows.entries in
    let one : ArePut old (option_case (exports_of ns (item_view p.1)) [] (exports_put p.0)) new = elim c.match-exports.branch [
      | in-Some+in_ok-put_exports w ↦
          some_put p.0 (exports_of ns (item_view p.1)) (listed w.in-Some.exports.now) old (table_view w.put_exports.new.rows.entries) new (sym w.in-Some.ensures) (ap (λ r. table_view r.entries) w.rows-is) w.in_ok-put_exports.ensures
      | in_default w ↦ no_put p.0 (exports_of ns (item_view p.1)) old new (none_mapped _ c.exports.result (exports_of ns (item_view p.1)) w.in_default.not-Some c.exports.ensures) (ap (λ r. table_view r.entries) w.rows-is)
    ] in
    rw (add-one, take_at (map row_view group) i (row_view p) at) (put_row ns (take i (map row_view group)) (row_view p) [] old new c.loop-i.invariant one)

pub returns : goal.returns
returns c =
    let g = map row_view c.args.group.now in
    let long : length g ≤ c.loop-i.i = omega (arith, mapped_length row_view c.args.group.now, c.loop-i-test.false) in
    subst (λ (rs : List Row). ArePut [] (all_put c.args.nodes.now rs) (table_view c.loop-i.rows.entries)) (taken g c.loop-i.i long) c.loop-i.invariant
