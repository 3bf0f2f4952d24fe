use Rattle.std.proofs.Common.{◌≡◌, IfSome, ◌∙◌, sym, subst}
use Rattle.std.specs.Prelude.{swap_remove}
use Rattle.std.proofs.lemmas.Bool.{eq-eqb, ne_eqb}
use Rattle.wac_graph_fields.proofs.TakingLemmas.{entry_taken, entry_left}
use Rattle.wac_graph.proofs.graph.take_export.Goals as goal

pub returns-then-other-node : goal.returns-then-other-node
returns-then-other-node c =
    entry_taken c.args.node c.args.exports.now.entries c.swap_remove_index.new.self.entries c.args.position (c.in-Some.field-0-0.now, c.in-Some.other.now) (sym c.in-Some.ensures.entry) (eq-eqb (c.in-Some.other.now).0 c.args.node.0 c.if-other-node.true)
    (subst (λ o. IfSome o (λ p. c.swap_remove_index.new.self.entries ≡ swap_remove c.args.exports.now.entries c.args.position p)) (c.swap_remove_index.ensures.entry ∙ sym c.in-Some.ensures.entry) c.swap_remove_index.ensures.entries)

pub returns-else-other-node : goal.returns-else-other-node
returns-else-other-node c = entry_left c.args.node c.args.exports.now.entries c.args.position (c.in-Some.field-0-0.now, c.in-Some.other.now) (sym c.in-Some.ensures.entry) (ne_eqb (c.in-Some.other.now).0 c.args.node.0 c.if-other-node.false)
