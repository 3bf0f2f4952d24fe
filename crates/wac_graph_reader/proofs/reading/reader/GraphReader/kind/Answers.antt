use Rattle.std.proofs.Common.{◌≡◌, ap, sym}
use Rattle.wac_graph_model.specs.nodes.Nodes.{kind_of}
use Rattle.wac_graph_model.proofs.lemmas.nodes.NodeLemmas.{there}
use Rattle.wac_graph_reader.proofs.lemmas.writing.EncodingLemmas.{if_node}
use Rattle.wac_graph_reader.specs.private.reading.Inside.{fields_of}
use Rattle.wac_graph_reader.proofs.reading.reader.GraphReader.kind.Goals as goal

pub index-requires : goal.index-requires
index-requires c = let a = fields_of c.self.inside in there a.nodes.slots c.args.n.0 (rw (← c.self.view_is) at c.requires)

pub returns : goal.returns
returns c = rw (← c.self.view_is) (if_node (fields_of c.self.inside) c.args.n.0 c.index.result.now (λ node. node.kind ≡ kind_of c.kind.result.now) c.index.ensures (ap kind_of (sym c.kind.ensures)))
