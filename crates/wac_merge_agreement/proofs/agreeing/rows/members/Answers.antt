use Rattle.std.proofs.Common.{◌≤◌, [], map, take, length, ap, subst, arith, add-one, List}
use Rattle.std.proofs.lemmas.Option.{slice_get-get_or}
use Rattle.wac_merge_tables.specs.private.tables.NodeViews.{item_view}
use Rattle.wac_types_shapes.proofs.lemmas.shapes.Names.{take_at}
use Rattle.wac_merge_classes.proofs.lemmas.terms.Found.{get_map, mapped_length}
use Rattle.wac_merge_agreement.specs.private.agreeing.Rows.{ArePut, members_put, Row, Spot, table_view}
use Rattle.wac_merge_agreement.proofs.lemmas.agreeing.Going.{members_from_first, members_length}
use Rattle.wac_merge_agreement.proofs.lemmas.agreeing.Tables.{puts_more, none_put, taken}
use Rattle.wac_merge_agreement.proofs.agreeing.rows.members.Goals as goal

pub loop-i-init : goal.loop-i-init
loop-i-init c = none_put (members_put 0 (map item_view c.args.items.now) c.args.classes.now) [] _ (ap (λ es. table_view es) c.new-rows.ensures.empty)

pub loop-i-preserved : goal.loop-i-preserved
loop-i-preserved c =
    let items = c.args.items.now in
    let classes = c.args.classes.now in
    let i = c.loop-i.i in
    let ps = members_put 0 (map item_view items) classes in
    let class_at = slice_get-get_or classes i 0 (omega (arith, c.loop-i-test.true, c.requires)) in
    let at = get_map item_view items i _ (slice_get-get_or items i _ c.loop-i-test.true) in
    rw (add-one, take_at ps i _ (members_from_first (map item_view items) classes i _ _ at class_at)) (puts_more (take i ps) _ [] _ _ c.loop-i.invariant c.in_ok-put.ensures)

pub returns : goal.returns
returns c =
    let items = map item_view c.args.items.now in
    let classes = c.args.classes.now in
    let ps = members_put 0 items classes in
    let long : length ps ≤ c.loop-i.i = let a = members_length 0 items classes in omega (arith, a, mapped_length item_view c.args.items.now, c.loop-i-test.false) in
    subst (λ (qs : List (Spot × Row)). ArePut [] qs (table_view c.loop-i.rows.entries)) (taken ps c.loop-i.i long) c.loop-i.invariant
