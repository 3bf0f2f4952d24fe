use Rattle.wac_graph_encode.proofs.lemmas.places.PlaceLemmas.{name_more}
use Rattle.wac_graph_encode.proofs.places.places.import_names.Goals as goal

pub loop-i-preserved : goal.loop-i-preserved
loop-i-preserved c = name_more c.args.imports.now c.loop-i.i c.name_at.result c.loop-i.names.items c.push.new.self.items c.name_at.ensures c.in_ok-push.ensures.items c.loop-i.invariant
