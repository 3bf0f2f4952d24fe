use Rattle.std.proofs.Common.{◌≡◌, ◌<◌, ◌≤◌, ℕ, true}
use Rattle.wac_graph_model.specs.nodes.Nodes.{has_position}
use Rattle.wac_graph_model.proofs.nodes.positions.first_gap.Given as goal

abbrev pub invariant-loop-i : goal.invariant-loop-i
invariant-loop-i l = record {
  above : l.fn.from ≤ l.i-counter;
  before : (j : ℕ) → l.fn.from ≤ j → j < l.i-counter → has_position l.positions j ≡ true;
}
