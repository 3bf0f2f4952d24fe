use Rattle.std.proofs.Common.{◌≡◌, ◌<◌, ◌∙◌, ℕ, [], map, length, List, Some, None, refl, ap, sym, subst, arith}
use Rattle.std.specs.Prelude.{slice_get, option_copied}
use Rattle.std.specs.List.{AllByRecursion}
use Rattle.wac_merge_tables.specs.private.tables.Nodes.{Item, type_of}
use Rattle.wac_merge_tables.specs.private.tables.NodeViews.{item_view}
use Rattle.wac_merge_tables.specs.declared.tables.nodes.Item.{Item as AnItem}
use Rattle.wac_merge_classes.proofs.lemmas.terms.Found.{get_map, mapped_length}
use Rattle.wac_merge_agreement.specs.private.agreeing.Groups.{IsGroup}
use Rattle.wac_merge_agreement.specs.private.agreeing.Rows.{all_put, ArePut, groups_view, row_view, table_view}
use Rattle.wac_merge_agreement.proofs.lemmas.agreeing.Comparing.{all_at}
use Rattle.wac_merge_agreement.proofs.lemmas.agreeing.Going.{going_first, going_next, listed_full, members_full, told}
use Rattle.wac_merge_agreement.proofs.lemmas.agreeing.Sizes.{less_left}
use Rattle.wac_merge_agreement.proofs.agreeing.agreement.first_disagreement.Goals as goal

pub compare_all-requires : goal.compare_all-requires
compare_all-requires c =
    let ns = c.args.nodes.now in
    let items = map item_view c.args.items.now in
    members_full ns c.table_law.ensures items c.args.classes.now (λ j x at. all_at (λ (y : Item). type_of y < length ns) items j x c.requires.low at) (table_view c.in_ok-rows.rows.entries) c.in_ok-rows.ensures

pub loop-next-init : goal.loop-next-init
loop-next-init c =
    let ns = c.args.nodes.now in
    let items = map item_view c.args.items.now in
    going_first ns c.table_law.ensures items c.args.classes.now (λ j x at. all_at (λ (y : Item). type_of y < length ns) items j x c.requires.low at)
    (record { groups = c.new.result; first = None }) c.compare_all.new.self (table_view c.in_ok-rows.rows.entries) (ap (λ ks. groups_view ks) c.new.ensures.empty) refl c.in_ok-rows.ensures c.in_ok-compare_all.ensures

pub exported-requires : goal.exported-requires
exported-requires c =
    let ns = c.args.nodes.now in
    let w = c.loop-next.walk in
    let g = c.unwrap-group.result.now in
    let at : slice_get w.groups.keys c.loop-next.next ≡ Some g = sym c.get_index.ensures.key ∙ ap option_copied c.unwrap-group.ensures in
    let is : IsGroup ns (map item_view c.args.items.now) c.args.classes.now (map row_view g.items) = c.loop-next.invariant.known.groups c.loop-next.next (map row_view g.items) (get_map (λ v. map row_view v.items) w.groups.keys c.loop-next.next g at) in
    subst (λ (xs : List (ℕ × AnItem)). AllByRecursion (λ r. type_of r.1 < length ns) (map row_view xs)) (sym c.as_slice.ensures.value) is.0.full.1

pub compare_all-requires-in-loop-next : goal.compare_all-requires-in-loop-next
compare_all-requires-in-loop-next c =
    let ns = c.args.nodes.now in
    let items = map item_view c.args.items.now in
    let w = c.loop-next.walk in
    let g = c.unwrap-group.result.now in
    let at : slice_get w.groups.keys c.loop-next.next ≡ Some g = sym c.get_index.ensures.key ∙ ap option_copied c.unwrap-group.ensures in
    let put = subst (λ (xs : List (ℕ × AnItem)). ArePut [] (all_put ns (map row_view xs)) (table_view c.in_ok-rows-2.rows.entries)) c.as_slice.ensures.value c.in_ok-rows-2.ensures in
    listed_full ns c.table_law.ensures items c.args.classes.now (λ j x at. all_at (λ (y : Item). type_of y < length ns) items j x c.requires.low at)
    w c.loop-next.next (map row_view g.items) (table_view c.in_ok-rows-2.rows.entries) c.loop-next.invariant (get_map (λ v. map row_view v.items) w.groups.keys c.loop-next.next g at) put

pub loop-next-smaller : goal.loop-next-smaller
loop-next-smaller c =
    let ns = c.args.nodes.now in
    let items = map item_view c.args.items.now in
    let w = c.loop-next.walk in
    let g = c.unwrap-group.result.now in
    let at : slice_get w.groups.keys c.loop-next.next ≡ Some g = sym c.get_index.ensures.key ∙ ap option_copied c.unwrap-group.ensures in
    let put = subst (λ (xs : List (ℕ × AnItem)). ArePut [] (all_put ns (map row_view xs)) (table_view c.in_ok-rows-2.rows.entries)) c.as_slice.ensures.value c.in_ok-rows-2.ensures in
    let there = get_map (λ v. map row_view v.items) w.groups.keys c.loop-next.next g at in
    let is : IsGroup ns items c.args.classes.now (map row_view g.items) = c.loop-next.invariant.known.groups c.loop-next.next (map row_view g.items) there in
    less_left ns c.table_law.ensures w c.compare_all-in-loop-next.new.self c.loop-next.next (map row_view g.items) (table_view c.in_ok-rows-2.rows.entries) there is.0.full is.1 put c.in_ok-compare_all-2.ensures

pub loop-next-preserved : goal.loop-next-preserved
loop-next-preserved c =
    let ns = c.args.nodes.now in
    let items = map item_view c.args.items.now in
    let w = c.loop-next.walk in
    let g = c.unwrap-group.result.now in
    let at : slice_get w.groups.keys c.loop-next.next ≡ Some g = sym c.get_index.ensures.key ∙ ap option_copied c.unwrap-group.ensures in
    let put = subst (λ (xs : List (ℕ × AnItem)). ArePut [] (all_put ns (map row_view xs)) (table_view c.in_ok-rows-2.rows.entries)) c.as_slice.ensures.value c.in_ok-rows-2.ensures in
    going_next ns c.table_law.ensures items c.args.classes.now (λ j x at. all_at (λ (y : Item). type_of y < length ns) items j x c.requires.low at)
    w c.compare_all-in-loop-next.new.self c.loop-next.next (map row_view g.items) (table_view c.in_ok-rows-2.rows.entries) c.loop-next.invariant (get_map (λ v. map row_view v.items) w.groups.keys c.loop-next.next g at) put c.in_ok-compare_all-2.ensures

pub returns : goal.returns
returns c =
    let ns = c.args.nodes.now in
    let items = map item_view c.args.items.now in
    let w = c.loop-next.walk in
    told ns c.table_law.ensures items c.args.classes.now (λ j x at. all_at (λ (y : Item). type_of y < length ns) items j x c.requires.low at)
    w c.loop-next.next c.loop-next.invariant (omega (arith, mapped_length (λ v. map row_view v.items) w.groups.keys, c.loop-next-test.false, c.len.ensures.len))
