use Rattle.std.proofs.Common.{◌∙◌, sym, ap, ◌++◌, ◌∷◌, [], inl, inr}
use Rattle.wac_types_shapes.proofs.lemmas.shapes.Names.{key_passes}
use Rattle.wac_types_shapes.proofs.lemmas.shapes.Under.{now_is, none_mapped}
use Rattle.wac_merge_agreement.specs.private.agreeing.Rows.{row_view, spot_view, table_view}
use Rattle.wac_merge_agreement.proofs.lemmas.agreeing.SpotKeys.{spot_eq, free_of, longer_at, push_view, put_new, value_at}
use Rattle.wac_merge_agreement.proofs.agreeing.rows.put.Goals as goal

pub returns-in-Some : goal.returns-in-Some
returns-in-Some c =
    let es = c.args.rows.now.entries in
    let i = c.in-Some.position in
    let k = c.in-Some.field-0-1.now in
    let v = c.in-Some.field-0-2.now in
    let now = now_is c.get_index_mut.result c.unwrap-there.result _ v c.get_index_mut.ensures.value c.unwrap-there.ensures (value_at es i k v c.in-Some.ensures.entry) in
    inl (longer_at es i c.args.spot k v c.push.new.self (row_view (c.args.entry, c.args.item)) c.in-Some.ensures.entry (key_passes (spot_eq c.args.spot) es k (sym c.in-Some.ensures.key))
    (push_view v.items c.push.new.self.items (c.args.entry, c.args.item) (c.in_ok-push.ensures.items ∙ ap (λ x. x.items ++ (c.args.entry, c.args.item) ∷ []) now)))

pub returns-in-Ok : goal.returns-in-Ok
returns-in-Ok c =
    let es = c.args.rows.now.entries in
    let w = c.push-2.new.self in
    let free = free_of es c.args.spot (none_mapped _ c.get_full.result _ c.in_default.not-Some c.get_full.ensures.value) in
    let items = push_view [] w.items (c.args.entry, c.args.item) (c.in_ok-push-2.ensures.items ∙ ap (λ x. x ++ (c.args.entry, c.args.item) ∷ []) c.new-there.ensures.items) in
    inr (free, ap table_view c.in-Ok.ensures.entries ∙ (put_new es c.args.spot w free ∙ ap (λ l. table_view es ++ (spot_view c.args.spot, l) ∷ []) items))
