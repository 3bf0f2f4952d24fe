use Rattle.wac_edges.specs.Edge.{node_number}
use Rattle.wac_graph_reader.proofs.lemmas.writing.SourceLemmas.{Noting}
use Rattle.wac_graph_reader.proofs.reading.reader.GraphReader.sources.Given as goal

abbrev pub invariant-loop-edge : goal.invariant-loop-edge
invariant-loop-edge l =
    (goal.iterator-loop-edge).can_next l.edge-iterator × (goal.iterator-loop-edge).is_finite l.edge-iterator ×
    Noting l.self.edges (node_number l.n) l.count l.edge-iterator.left l.sources.items
