use Rattle.std.proofs.Common.{◌≡◌, ◌∙◌, ◌≤◌, ℕ, map, take, length, List, Some, ap, sym, subst, arith, add-one}
use Rattle.std.specs.Prelude.{slice_get}
use Rattle.std.specs.Option.{option_map}
use Rattle.std.specs.Map.Iter.{deref_pair}
use Rattle.wac_types_shapes.proofs.lemmas.shapes.Names.{take_at}
use Rattle.wac_merge_classes.proofs.lemmas.terms.Found.{mapped_length}
use Rattle.wac_merge_tables.specs.declared.tables.nodes.Item.{Item as AnItem}
use Rattle.wac_merge_agreement.specs.private.agreeing.Groups.{Compares, ComparesAll, IsFull, more}
use Rattle.wac_merge_agreement.specs.private.agreeing.Rows.{Row, row_view, Spot, spot_view, Table, table_view}
use Rattle.wac_merge_agreement.proofs.lemmas.agreeing.Comparing.{all_at}
use Rattle.wac_merge_agreement.proofs.lemmas.agreeing.Looking.{none_compared}
use Rattle.wac_merge_agreement.proofs.lemmas.agreeing.SpotKeys.{viewed_at}
use Rattle.wac_merge_agreement.proofs.lemmas.agreeing.Tables.{taken}
use Rattle.wac_merge_agreement.proofs.agreeing.agreement.Walk.compare_all.Goals as goal

pub loop-i-init : goal.loop-i-init
loop-i-init c = none_compared c.args.nodes.now c.args.self.now (table_view c.args.rows.now.entries)

pub compare-requires : goal.compare-requires
compare-requires c =
    let es = c.args.rows.now.entries in
    let i = c.loop-i.i in
    let p = c.unwrap.result in
    let at : slice_get es i ≡ Some (p.0.now, p.1.now) = sym c.get_index.ensures.entry ∙ ap (option_map deref_pair) c.unwrap.ensures in
    subst (λ (xs : List (ℕ × AnItem)). IsFull c.args.nodes.now (map row_view xs)) (sym c.as_slice.ensures.value)
    (all_at (λ (g : Spot × List Row). IsFull c.args.nodes.now g.1) (table_view es) i (spot_view p.0.now, map row_view p.1.now.items) c.requires (viewed_at es i p.0.now p.1.now at))

pub loop-i-preserved : goal.loop-i-preserved
loop-i-preserved c =
    let ns = c.args.nodes.now in
    let es = c.args.rows.now.entries in
    let i = c.loop-i.i in
    let p = c.unwrap.result in
    let at : slice_get es i ≡ Some (p.0.now, p.1.now) = sym c.get_index.ensures.entry ∙ ap (option_map deref_pair) c.unwrap.ensures in
    let one : Compares ns c.loop-i.self (map row_view p.1.now.items) c.compare.new.self = subst (λ (xs : List (ℕ × AnItem)). Compares ns c.loop-i.self (map row_view xs) c.compare.new.self) c.as_slice.ensures.value c.in_ok-compare.ensures in
    rw (add-one, take_at (table_view es) i (spot_view p.0.now, map row_view p.1.now.items) (viewed_at es i p.0.now p.1.now at))
    (more (take i (table_view es)) (spot_view p.0.now) (map row_view p.1.now.items) c.loop-i.self c.compare.new.self c.loop-i.invariant one)

pub returns : goal.returns
returns c =
    let t = table_view c.args.rows.now.entries in
    let long : length t ≤ c.loop-i.i =
    omega (arith, mapped_length {B = Spot × List Row} (λ e. (spot_view e.0, map row_view e.1.items)) c.args.rows.now.entries, c.len-i-end.ensures.len, c.loop-i-test.false) in
    subst (λ (l : Table). ComparesAll c.args.nodes.now c.args.self.now l c.loop-i.self) (taken t c.loop-i.i long) c.loop-i.invariant
