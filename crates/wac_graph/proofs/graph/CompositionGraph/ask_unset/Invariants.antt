use Rattle.std.proofs.Common.{◌++◌, length}
use Rattle.std.specs.List.{AllByRecursion}
use Rattle.wac_edges.specs.Edge.{node_number}
use Rattle.wac_graph_model.specs.nodes.Graph.{node_at}
use Rattle.wac_graph_fields.specs.private.ImportsLeft.{node_left}
use Rattle.wac_graph_fields.specs.private.EntriesLeft.{entries_of, left_entries, asked_at, all_with_used, IsRight, IsHeldKind, IsSettled, AsksAlike}
use Rattle.wac_graph.proofs.graph.CompositionGraph.ask_unset.Given as goal

abbrev pub invariant-loop-behind : goal.invariant-loop-behind
invariant-loop-behind l = record {
  right : IsRight l.asking;
  settled : IsSettled l.self.types l.asking;
  held : AllByRecursion (λ r. IsHeldKind l.self.types r.1) (node_left l.self l.n l.from (node_at l.self (node_number l.n)));
  stands : AsksAlike l.self.types (entries_of l.fn.asking ++ all_with_used l.self.types (asked_at l.self l.n)) (entries_of l.asking ++ all_with_used l.self.types (left_entries l.self l.n l.from));
}

abbrev pub decreases-loop-behind : goal.decreases-loop-behind
decreases-loop-behind l = length (node_left l.self l.n l.from (node_at l.self (node_number l.n)))
