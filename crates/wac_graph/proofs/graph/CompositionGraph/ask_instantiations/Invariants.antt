use Rattle.std.proofs.Common.{◌++◌, take}
use Rattle.std.specs.List.{flat_map}
use Rattle.wac_graph_fields.specs.private.EntriesLeft.{entries_of, asked_at, all_with_used, IsRight, IsSettled, AsksAlike}
use Rattle.wac_graph.proofs.graph.CompositionGraph.ask_instantiations.Given as goal

abbrev pub invariant-loop-n : goal.invariant-loop-n
invariant-loop-n l = record {
  right : IsRight l.asking;
  settled : IsSettled l.self.types l.asking;
  stands : AsksAlike l.self.types (entries_of l.fn.asking ++ all_with_used l.self.types (flat_map (asked_at l.self) (take l.n-index l.instantiations))) (entries_of l.asking);
}
