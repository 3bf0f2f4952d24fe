use Rattle.wac_graph_fields.proofs.LostLemmas.{noted_without}
use Rattle.wac_graph_fields.proofs.lost.take_node.Goals as goal

pub returns-clause-noted : goal.returns-clause-noted
returns-clause-noted c =
    noted_without c.args.nodes.now c.remove.new.self c.args.lost.now c.note_exports.new.self c.args.exports.now.entries c.args.number c.index-node.result.now c.requires.noted c.index-node.ensures c.remove.ensures.updates c.note_exports.ensures.kept c.note_exports.ensures.others c.note_exports.ensures.noted
