use Rattle.wac_graph_fields.proofs.LostLemmas.{noted_gone}
use Rattle.wac_graph_fields.proofs.lost.take_lost.Goals as goal

pub take_noted-requires : goal.take_noted-requires
take_noted-requires c = λ i name n at gone. noted_gone c.args.nodes.now c.args.lost.now i name n (c.requires i name n at) gone c.if-lost.true
