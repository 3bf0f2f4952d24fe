use Rattle.std.proofs.Common.{◌≡◌, Some, sym}
use Rattle.wac_graph_reader.proofs.lemmas.writing.EncodingLemmas.{some_and}
use Rattle.wac_graph_reader.proofs.lemmas.writing.NamingLemmas.{named_number, has_name}
use Rattle.wac_graph_reader.specs.private.reading.Inside.{fields_of}
use Rattle.wac_graph_reader.proofs.reading.reader.GraphReader.name_of.Goals as goal

pub index-requires : goal.index-requires
index-requires c = named_number (fields_of c.self.inside) c.args.n (rw (← c.self.view_is) at c.requires)

pub unreachable-requires : goal.unreachable-requires
unreachable-requires c = has_name (fields_of c.self.inside) c.args.n c.index.result.now c.index.ensures (rw (← c.self.view_is) at c.requires) (sym c.in_default.ensures)

pub returns : goal.returns
returns c = rw (← c.self.view_is) (some_and (fields_of c.self.inside) c.args.n.0 c.index.result.now (λ node. node.name ≡ Some c.in-Some.name.now) c.index.ensures (sym c.in-Some.ensures))
