use Rattle.std.proofs.Common.{◌≡◌, ◌<◌, ℕ, length}
use Rattle.std.specs.Prelude.{◌↔◌}
use Rattle.wac_edges.specs.Edge.{node_number}
use Rattle.wac_edges.specs.cycles.Cycles.{IsStep}
use Rattle.wac_edges.specs.Order.{IsEdge}
use Rattle.wac_edges.proofs.edges.Edges.targets.Given as goal

abbrev pub invariant-loop-a : goal.invariant-loop-a
invariant-loop-a l = record {
  counted : length l.targets.items ≡ l.nodes;
  steps : (n b : ℕ) → IsStep l.targets.items n b ↔ ((n < l.a) × IsEdge l.self (node_number n) (node_number b));
}
