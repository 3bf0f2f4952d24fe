-- Sets of positions.
use Rattle.std.specs.Prelude.{ℕ, ◌≡◌, ◌<◌, ◌≤◌, true, false}
use Rattle.wac_graph_model.specs.nodes.Nodes.{Positions, has_position}

-- The position is the first in the range that is not in the set.
pub record IsGap (s : Positions) (from end i : ℕ) : Type 0 where
  pub above : from ≤ i
  pub below : i < end
  pub absent : has_position s i ≡ false
  pub before : (j : ℕ) → from ≤ j → j < i → has_position s j ≡ true
