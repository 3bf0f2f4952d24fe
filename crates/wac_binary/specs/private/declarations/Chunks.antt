-- The bytes of chunks around one another.
use Rattle.std.specs.Prelude.{ℕ, List, [], ◌∷◌, ◌++◌}
use Rattle.std.specs.Borrow.{Bor}
use Rattle.wac_binary.specs.declared.declarations.shared.Chunk.{Chunk}
use Rattle.wac_binary.specs.declared.declarations.shared.Chunk.TheVariants.{Flat, Around'}

-- Those of a flat chunk; or those before the inner chunk, its own, and those after it.
abbrev pub chunk_bytes : Chunk → List ℕ
chunk_bytes (Flat bytes) = bytes.items
chunk_bytes (Around' before p inner after) = before.items ++ (chunk_bytes inner ++ after.items)

-- The bytes after inner chunks, listed from the outermost chunk to the innermost.
abbrev pub outer_bytes : List (Bor (List ℕ)) → List ℕ
outer_bytes [] = []
outer_bytes (after ∷ inner) = outer_bytes inner ++ after.now
