use Rattle.std.proofs.Common.{ℕ, ◌<◌}
use Rattle.wac_types_shapes.specs.primitives.Name.{Name}
use Rattle.wac_edges.specs.declared.node.NodeId.{NodeId}
use Rattle.wac_graph_model.specs.causes.Cause.{IsConflict}
use Rattle.wac_edges.specs.Edge.{node_number}
use Rattle.wac_graph.proofs.graph.CompositionGraph.check_conflicts.Given as goal

abbrev pub invariant-loop-n : goal.invariant-loop-n
invariant-loop-n l = (m : ℕ) → m < l.n → (import : NodeId) (i : ℕ) (name : Name) → IsConflict l.self import (node_number m) i name → ⊥
