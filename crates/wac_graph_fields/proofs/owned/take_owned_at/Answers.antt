use Rattle.std.proofs.Common.{sym, ◌∙◌}
use Rattle.wac_graph_fields.proofs.OwnedLemmas.{one_taken, tied_alone}
use Rattle.wac_graph_fields.proofs.owned.take_owned_at.Goals as goal

pub returns-clause-taken : goal.returns-clause-taken
returns-clause-taken c =
    one_taken c.args.id c.args.nodes.now c.args.edges.now c.args.number (sym c.is_owned.ensures ∙ c.if-not-is_owned.false) c.take_into.new.nodes c.take_from.new.nodes c.remove.new.self c.take_into.new.edges c.take_from.new.edges
    c.take_into.ensures.less c.take_into.ensures.others c.take_into.ensures.only c.take_into.ensures.same c.take_from.ensures.less c.take_from.ensures.others c.take_from.ensures.none c.take_from.ensures.same c.take_from.ensures.tied c.remove.ensures.updates

pub returns-clause-tied : goal.returns-clause-tied
returns-clause-tied c =
    tied_alone c.args.id c.args.nodes.now c.args.edges.now c.args.number (sym c.is_owned.ensures ∙ c.if-not-is_owned.false) c.take_into.new.nodes c.take_from.new.nodes c.remove.new.self c.take_into.new.edges c.take_from.new.edges
    c.take_into.ensures.less c.take_into.ensures.others c.take_into.ensures.only c.take_into.ensures.same c.take_from.ensures.less c.take_from.ensures.others c.take_from.ensures.none c.take_from.ensures.same c.take_from.ensures.tied c.remove.ensures.updates
