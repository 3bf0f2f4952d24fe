use Rattle.std.proofs.Common.{◌++◌, []}
use Rattle.std.specs.List.{flat_map, range_with_len}
use Rattle.wac_graph_fields.specs.private.EntriesLeft.{entries_of, all_with_used, IsRight, IsSettled, AsksAlike}
use Rattle.wac_graph_model.specs.causes.TypeFaults.{wanted_at}
use Rattle.wac_graph.proofs.graph.CompositionGraph.wanted_entries.Given as goal

abbrev pub invariant-loop-n : goal.invariant-loop-n
invariant-loop-n l = record {
  right : IsRight l.asking;
  settled : IsSettled l.self.types l.asking;
  stands : AsksAlike l.self.types ([] ++ all_with_used l.self.types (flat_map (wanted_at l.self l.define_components) (range_with_len 0 l.n))) (entries_of l.asking);
}
