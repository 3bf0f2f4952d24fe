use Rattle.std.proofs.Common.{sym}
use Rattle.wac_graph_reader.proofs.lemmas.writing.FurtherRows.{nothing_first, some_first}
use Rattle.wac_graph_reader.specs.private.reading.Inside.{fields_of}
use Rattle.wac_graph_reader.proofs.reading.reader.GraphReader.first_name.Goals as goal

pub returns-in-None : goal.returns-in-None
returns-in-None c = nothing_first (fields_of c.self.inside) c.self.invariant c.args.self.now c.self.view_is c.args.n.0 (sym c.in-None.ensures)

pub returns-in-Some : goal.returns-in-Some
returns-in-Some c = some_first (fields_of c.self.inside) c.self.invariant c.args.self.now c.self.view_is c.args.n.0 c.in-Some.node.now c.first_name.result (sym c.in-Some.ensures) c.first_name.ensures
