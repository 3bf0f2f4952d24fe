use Rattle.std.proofs.Common.{◌≡◌, List, ℕ, ◌++◌, length}
use Rattle.wac_binary.specs.private.declarations.Chunks.{chunk_bytes, outer_bytes}
use Rattle.wac_binary.proofs.declarations.shared.Chunk.put.Given as goal

abbrev pub invariant-loop-after : goal.invariant-loop-after
invariant-loop-after l = (l.out.items ++ outer_bytes l.outer.items ≡ l.fn.out.items ++ chunk_bytes l.self) × ((more : List ℕ) × (l.out.items ≡ l.fn.out.items ++ more))

abbrev pub decreases-loop-after : goal.decreases-loop-after
decreases-loop-after l = length l.outer.items
