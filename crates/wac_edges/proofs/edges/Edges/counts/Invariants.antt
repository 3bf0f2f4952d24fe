use Rattle.std.proofs.Common.{◌≡◌, ℕ, ◌<◌, ◌+◌, length}
use Rattle.std.specs.Prelude.{slice_index}
use Rattle.wac_edges.specs.private.Ready.{incoming}
use Rattle.wac_edges.proofs.CountLemmas.{edges_of}
use Rattle.wac_edges.proofs.edges.Edges.counts.Given as goal

abbrev pub invariant-loop-record : goal.invariant-loop-record
invariant-loop-record l =
    (goal.iterator-loop-record).can_next l.record-iterator × (goal.iterator-loop-record).is_finite l.record-iterator ×
    (length l.counts.items ≡ length l.left) × ((b : ℕ) → b < length l.left → slice_index l.counts.items b + incoming l.left (edges_of l.record-iterator) b ≡ incoming l.left (edges_of l.initial.record-iterator) b)
