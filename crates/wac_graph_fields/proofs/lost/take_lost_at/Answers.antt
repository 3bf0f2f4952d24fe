use Rattle.std.proofs.Common.{◌≡◌, IfSome, ◌∙◌, sym, subst}
use Rattle.std.specs.Prelude.{swap_remove}
use Rattle.wac_graph_fields.proofs.LostLemmas.{lost, absent, stored, entry_gone, entry_stays}
use Rattle.wac_graph_fields.proofs.lost.take_lost_at.Goals as goal

pub returns-then-not-contains : goal.returns-then-not-contains
returns-then-not-contains c =
    entry_gone (lost c.args.nodes.now) c.args.exports.now.entries c.args.position c.swap_remove_index.new.self.entries (c.in-Some.field-0-0.now, c.in-Some.node.now) (sym c.in-Some.ensures.entry) (absent c.args.nodes.now (c.in-Some.node.now).0 c.contains.result c.contains.ensures c.if-not-contains.true)
    (subst (λ o. IfSome o (λ p. c.swap_remove_index.new.self.entries ≡ swap_remove c.args.exports.now.entries c.args.position p)) (c.swap_remove_index.ensures.entry ∙ sym c.in-Some.ensures.entry) c.swap_remove_index.ensures.entries)

pub returns-else-not-contains : goal.returns-else-not-contains
returns-else-not-contains c = entry_stays (lost c.args.nodes.now) c.args.exports.now.entries c.args.position (c.in-Some.field-0-0.now, c.in-Some.node.now) (sym c.in-Some.ensures.entry) (stored c.args.nodes.now (c.in-Some.node.now).0 c.contains.result c.contains.ensures c.if-not-contains.false)
