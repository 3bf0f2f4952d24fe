use Rattle.std.proofs.Common.{not, is_some, subst, sym, ◌∙◌}
use Rattle.slab.specs.Slab.{get}
use Rattle.wac_graph_model.specs.nodes.Nodes.{names_of}
use Rattle.wac_graph_fields.proofs.LostLemmas.{IsEmptying, emptying_first, emptying_next, emptying_last, lost_none, no_items}
use Rattle.wac_graph_fields.proofs.lost.take_noted.Goals as goal

pub loop-position-init : goal.loop-position-init
loop-position-init c =
    emptying_first (λ m. not (is_some (get c.args.nodes.now m.0))) (names_of c.args.exports.now.entries) c.args.positions.now.items c.sort_unstable.new.self.items
    (λ i e at is. c.requires i e.0 e.1 at (lost_none (get c.args.nodes.now (e.1).0) is)) c.sort_unstable.ensures.permutation c.sort_unstable.ensures.sorted

pub loop-position-preserved : goal.loop-position-preserved
loop-position-preserved c =
    emptying_next (λ m. not (is_some (get c.args.nodes.now m.0))) (names_of c.args.exports.now.entries) (names_of c.loop-position.exports.entries) c.pop.new.self.items c.in-Some.position
    (subst (IsEmptying (λ m. not (is_some (get c.args.nodes.now m.0))) (names_of c.args.exports.now.entries) (names_of c.loop-position.exports.entries)) c.in-Some.ensures.items c.loop-position.invariant)
    (names_of c.take_lost_at.new.exports.entries) c.take_lost_at.ensures

pub returns : goal.returns
returns c =
    emptying_last (λ m. not (is_some (get c.args.nodes.now m.0))) (names_of c.args.exports.now.entries) (names_of c.loop-position.exports.entries) c.loop-position.positions.items c.loop-position.invariant
    (no_items c.loop-position.positions.items (sym c.loop-position.positions.ok.0 ∙ c.in_default.ensures.cases.0))
