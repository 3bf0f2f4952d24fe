use Rattle.std.proofs.Common.{◌≡◌, length}
use Rattle.wac_merge_classes.specs.entries.Bindings.{HaveTracks}
use Rattle.wac_merge_classes.proofs.entries.bindings.class_tracks.Given as goal

abbrev pub invariant-loop-k : goal.invariant-loop-k
invariant-loop-k l = record { counted : length l.tracks.items ≡ l.k; tracks : HaveTracks l.entries l.tracks.items }
