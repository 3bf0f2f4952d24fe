use Rattle.wac_graph_reader.proofs.lemmas.writing.MeansLemmas.{has_room}
use Rattle.wac_graph_reader.specs.private.reading.Inside.{fields_of}
use Rattle.wac_graph_reader.proofs.reading.reader.GraphReader.capacity.Goals as goal

pub returns : goal.returns
returns c n there = has_room (fields_of c.self.inside) c.self.invariant c.args.self.now c.self.view_is c.capacity.result c.capacity.ensures.slots n there
