use Rattle.std.proofs.Common.{ℕ, ◌<◌}
use Rattle.wac_edges.specs.declared.node.NodeId.{NodeId}
use Rattle.wac_graph_model.specs.nodes.Nodes.{names_of, has_position}
use Rattle.wac_graph_model.specs.private.causes.Search.{Clashes}
use Rattle.wac_graph.proofs.conflicts.first_clash.Given as goal

abbrev pub invariant-loop-i : goal.invariant-loop-i
invariant-loop-i l = (j : ℕ) (node : NodeId) → j < l.i → Clashes (has_position l.satisfied) l.imports (names_of l.nodes.entries) j node → ⊥
