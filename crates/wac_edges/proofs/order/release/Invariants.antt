use Rattle.std.proofs.Common.{◌≡◌, ℕ, ◌<◌, ◌-◌, length}
use Rattle.std.specs.Prelude.{slice_index}
use Rattle.wac_edges.specs.private.Ready.{leading, AreReady}
use Rattle.wac_edges.proofs.order.release.Given as goal

abbrev pub invariant-loop-edge : goal.invariant-loop-edge
invariant-loop-edge l =
    (goal.iterator-loop-edge).can_next l.edge-iterator × (goal.iterator-loop-edge).is_finite l.edge-iterator ×
    (length l.counts ≡ length l.left) × ((q : ℕ) → q < length l.initial.counts → slice_index l.counts q - leading l.edge-iterator.left q ≡ slice_index l.initial.counts q - leading l.fn.walk.left q) × AreReady l.ready l.bound l.left l.counts
