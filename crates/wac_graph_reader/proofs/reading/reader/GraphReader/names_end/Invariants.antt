use Rattle.std.proofs.Common.{◌≤◌}
use Rattle.wac_binary.specs.declared.sorts.Sort.{Sort}
use Rattle.wac_edges.specs.declared.node.NodeId.{NodeId}
use Rattle.wac_graph_reader.specs.private.writing.Naming.{IsNamed}
use Rattle.wac_graph_reader.proofs.reading.reader.GraphReader.names_end.Given as goal

abbrev pub invariant-loop-n : goal.invariant-loop-n
invariant-loop-n l = (sort : Sort) (m : NodeId) → l.n ≤ m.0 → IsNamed l.self sort m → ⊥
