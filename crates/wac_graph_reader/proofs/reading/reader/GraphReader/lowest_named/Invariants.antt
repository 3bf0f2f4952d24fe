use Rattle.wac_graph_model.specs.private.meaning.Encoding.{index_in}
use Rattle.wac_graph_reader.specs.private.writing.Naming.{AreLowest, IsNamedAt}
use Rattle.wac_graph_reader.proofs.reading.reader.GraphReader.lowest_named.Given as goal

abbrev pub invariant-loop-n : goal.invariant-loop-n
invariant-loop-n l = AreLowest (IsNamedAt l.self (index_in l.indexes) l.sort) l.n l.lowest
