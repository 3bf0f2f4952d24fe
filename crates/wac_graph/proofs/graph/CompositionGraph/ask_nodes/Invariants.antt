use Rattle.std.proofs.Common.{◌++◌}
use Rattle.std.specs.List.{flat_map, range_with_len}
use Rattle.wac_graph_fields.specs.private.EntriesLeft.{entries_of, imported_at, all_with_used, IsRight, IsSettled, AsksAlike}
use Rattle.wac_graph.proofs.graph.CompositionGraph.ask_nodes.Given as goal

abbrev pub invariant-loop-node : goal.invariant-loop-node
invariant-loop-node l = record {
  right : IsRight l.asking;
  settled : IsSettled l.self.types l.asking;
  stands : AsksAlike l.self.types (entries_of l.fn.asking ++ all_with_used l.self.types (flat_map (imported_at l.self) (range_with_len 0 l.node))) (entries_of l.asking);
}
