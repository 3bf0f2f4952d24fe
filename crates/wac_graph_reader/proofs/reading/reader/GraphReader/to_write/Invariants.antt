use Rattle.std.proofs.Common.{◌≡◌, ◌<◌, false, length}
use Rattle.std.specs.List.{flat_map, range_with_len}
use Rattle.wac_binary.specs.declared.sorts.Sort.{Sort}
use Rattle.wac_edges.specs.declared.node.NodeId.{NodeId}
use Rattle.wac_edges.specs.Edge.{is_left}
use Rattle.wac_graph_model.specs.meaning.Means.{is_written}
use Rattle.wac_graph_reader.specs.private.writing.Naming.{IsNamed}
use Rattle.wac_graph_reader.specs.private.reading.Seen.{open_at}
use Rattle.wac_graph_reader.proofs.lemmas.reading.SeenLemmas.{IsDefinition}
use Rattle.wac_graph_reader.proofs.reading.reader.GraphReader.to_write.Given as goal

abbrev pub invariant-loop-n : goal.invariant-loop-n
invariant-loop-n l = record {
  counted : length l.left.items ≡ l.n;
  written : (m : NodeId) → m.0 < l.n → is_left l.left.items m ≡ is_written l.self m;
  named : l.named ≡ false → (sort : Sort) (m : NodeId) → m.0 < l.n → IsNamed l.self sort m → ⊥;
  defined : l.defined ≡ false → (m : NodeId) → m.0 < l.n → IsDefinition l.self m → ⊥;
  numbers : l.numbers.items ≡ flat_map (open_at l.self) (range_with_len 0 l.n);
}
