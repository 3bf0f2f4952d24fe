use Rattle.std.proofs.Common.{◌≡◌, ◌+◌, length}
use Rattle.slab.specs.Slab.{get, slab_len}
use Rattle.wac_edges.specs.private.Records.{AreListed}
use Rattle.wac_edges.proofs.AddingLemmas.{AreAdded}
use Rattle.wac_edges.proofs.records.put_all.Given as goal

abbrev pub invariant-loop-edge : goal.invariant-loop-edge
invariant-loop-edge l =
    AreListed (get l.records) l.firsts × AreAdded (get l.fn.records) l.edges l.edge-index (get l.records) × (length l.firsts ≡ length l.fn.firsts)
    × (slab_len l.records ≡ slab_len l.fn.records + l.edge-index) × (l.records.capacity ≡ l.fn.records.capacity)
