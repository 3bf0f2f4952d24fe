use Rattle.std.proofs.Common.{◌≡◌, List, ℕ, ◌++◌}
use Rattle.wac_binary.specs.private.declarations.Chunks.{chunk_bytes, outer_bytes}
use Rattle.wac_binary.proofs.declarations.shared.Chunk.put_first.Given as goal

abbrev pub invariant-loop-chunk : goal.invariant-loop-chunk
invariant-loop-chunk l = (l.out.items ++ (chunk_bytes l.chunk ++ outer_bytes l.outer.items) ≡ l.fn.out.items ++ chunk_bytes l.self) × ((more : List ℕ) × (l.out.items ≡ l.fn.out.items ++ more))
