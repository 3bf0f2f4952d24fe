use Rattle.std.proofs.Common.{sym, ◌∙◌}
use Rattle.wac_graph_fields.proofs.LostLemmas.{noted_found, noted_missing}
use Rattle.wac_graph_fields.specs.private.Lost.{is_again}
use Rattle.wac_graph_fields.proofs.lost.Lost.note_exports.Goals as goal

pub returns-in-Some-get_index_of-clause-noted : goal.returns-in-Some-get_index_of-clause-noted
returns-in-Some-get_index_of-clause-noted c =
    noted_found c.args.exports.now.entries c.get_index_of.ensures.unique c.args.node.now c.note.new.self (is_again c.args.self.now c.args.number) (sym c.unmark.ensures.was ∙ c.if-unmark.false) c.in-Some.name.now (sym c.in-Some.ensures) c.in-Some-get_index_of.position c.in-Some-get_index_of.ensures.index c.note.ensures.noted

pub returns-in_default-get_index_of-clause-noted : goal.returns-in_default-get_index_of-clause-noted
returns-in_default-get_index_of-clause-noted c =
    noted_missing c.args.exports.now.entries c.get_index_of.ensures.unique c.args.node.now c.unmark.new.self (is_again c.args.self.now c.args.number) (sym c.unmark.ensures.was ∙ c.if-unmark.false) c.in-Some.name.now (sym c.in-Some.ensures) c.in_default-get_index_of.ensures.index
