use Rattle.std.proofs.Common.{◌≡◌, sym}
use Rattle.wac_graph_model.proofs.lemmas.nodes.NodeLemmas.{there}
use Rattle.wac_graph_reader.proofs.lemmas.writing.EncodingLemmas.{if_node}
use Rattle.wac_graph_reader.specs.private.reading.Inside.{fields_of}
use Rattle.wac_graph_reader.proofs.reading.reader.GraphReader.item_kind.Goals as goal

pub index-requires : goal.index-requires
index-requires c = let a = fields_of c.self.inside in there a.nodes.slots c.args.n.0 (rw (← c.self.view_is) at c.requires)

pub returns : goal.returns
returns c = rw (← c.self.view_is) (if_node (fields_of c.self.inside) c.args.n.0 c.index.result.now (λ node. node.item_kind ≡ c.item_kind.result) c.index.ensures (sym c.item_kind.ensures))
