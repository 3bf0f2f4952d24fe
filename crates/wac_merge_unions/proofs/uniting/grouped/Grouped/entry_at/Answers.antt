use Rattle.std.proofs.Common.{◌≡◌, ◌∙◌, Some, slice_get, ap, sym}
use Rattle.std.specs.Option.{option_map}
use Rattle.std.specs.Map.Iter.{deref_pair}
use Rattle.wac_merge_unions.proofs.lemmas.uniting.GroupViews.{viewed_at}
use Rattle.wac_merge_unions.proofs.uniting.grouped.Grouped.entry_at.Goals as goal

pub returns : goal.returns
returns c =
    let es = c.self.inside.entries.entries in
    let i = c.args.index in
    let p = c.unwrap.result in
    let at : slice_get es i ≡ Some (p.0.now, p.1.now) = sym c.get_index.ensures.entry ∙ ap (option_map deref_pair) c.unwrap.ensures in
    ap (λ gs. slice_get gs i) (sym c.self.view_is) ∙ viewed_at es i p.0.now p.1.now at ∙ ap (λ l. Some (p.0.now.now, l)) (sym c.as_slice.ensures)
