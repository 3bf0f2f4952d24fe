use Rattle.std.proofs.Common.{sym}
use Rattle.wac_graph_reader.proofs.lemmas.writing.ImportRows.{no_node_row, no_name, named_row}
use Rattle.wac_graph_reader.specs.private.reading.Inside.{fields_of}
use Rattle.wac_graph_reader.proofs.reading.reader.GraphReader.import_node_at.Goals as goal

pub returns-in_err-node : goal.returns-in_err-node
returns-in_err-node c = rw (c.from_residual.ensures, ← c.self.view_is) (no_node_row (fields_of c.self.inside) c.args.n (sym c.in_err-node.ensures))

pub returns-in_err-name : goal.returns-in_err-name
returns-in_err-name c = rw (c.from_residual-in_err-name.ensures, ← c.self.view_is) (no_name (fields_of c.self.inside) c.args.n c.in_ok-node.node.now (sym c.in_ok-node.ensures) c.in_err-name.ensures)

pub returns : goal.returns
returns c = rw (c.item_kind.ensures, ← c.self.view_is) (named_row (fields_of c.self.inside) c.args.n c.in_ok-node.node.now (sym c.in_ok-node.ensures) c.in_ok-name.name.now c.in_ok-name.ensures)
