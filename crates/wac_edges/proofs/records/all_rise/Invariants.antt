use Rattle.std.proofs.Common.{◌≡◌, ◌<◌, ℕ, Some}
use Rattle.slab.specs.Slab.{get}
use Rattle.wac_edges.specs.declared.edges.Edge.{Edge}
use Rattle.wac_edges.specs.private.Records.{edge_at}
use Rattle.wac_edges.proofs.records.all_rise.Given as goal

abbrev pub invariant-loop-key : goal.invariant-loop-key
invariant-loop-key l = (k : ℕ) (e : Edge) → k < l.key → edge_at (get l.records) k ≡ Some e → e.source.0 < e.target.0
