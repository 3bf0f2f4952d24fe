use Rattle.std.proofs.Common.{◌∙◌, map, sym, Some}
use Rattle.std.proofs.lemmas.Bool.{false≢true}
use Rattle.wac_merge_tables.specs.private.tables.NodeViews.{item_view}
use Rattle.wac_merge_agreement.specs.private.agreeing.Groups.{apart}
use Rattle.wac_merge_agreement.specs.private.agreeing.Rows.{row_view}
use Rattle.wac_merge_agreement.proofs.lemmas.agreeing.GroupKeys.{item_back, item_same, split_fits, split_same}
use Rattle.wac_merge_agreement.proofs.lemmas.agreeing.SpotKeys.{push_view}
use Rattle.wac_merge_agreement.proofs.agreeing.agreement.Walk.set_beside.Goals as goal

pub returns-then-eq-clause-splits : goal.returns-then-eq-clause-splits
returns-then-eq-clause-splits c = λ old rows h.
    split_same c.args.nodes.now c.args.holder (item_view c.args.held) (item_view c.args.item) old rows (map row_view c.args.group.now.items) c.args.self.now.first c.args.entry
    (item_same c.args.item c.args.held (sym c.eq.ensures ∙ c.if-eq.true)) h

pub returns-then-fits-clause-splits : goal.returns-then-fits-clause-splits
returns-then-fits-clause-splits c = λ old rows h.
    split_fits c.args.nodes.now c.args.holder (item_view c.args.held) (item_view c.args.item) old rows (map row_view c.args.group.now.items) (map row_view c.push.new.self.items) c.args.self.now.first c.args.entry
    (λ same. false≢true (sym c.if-eq.false ∙ c.eq.ensures ∙ item_back c.args.item c.args.held same)) (c.fits.ensures.0 c.if-fits.true)
    (push_view c.args.group.now.items c.push.new.self.items (c.args.entry, c.args.item) c.in_ok-push.ensures.items) h

pub returns-clause-splits : goal.returns-clause-splits
returns-clause-splits c = λ old rows h.
    apart rows (map row_view c.args.group.now.items) c.args.self.now.first (Some c.lesser.result) c.args.entry (item_view c.args.item) h (λ fit. false≢true (sym c.if-fits.false ∙ c.fits.ensures.1 fit)) c.lesser.ensures
