-- The value and the invariant of `SharedBytes`.
use Rattle.std.specs.Prelude.{◌≡◌, ℕ, List, [], length, Option, Some, None}
use Rattle.std.specs.Global.{Global}
use Rattle.std.specs.declared.rc.Rc.{Rc}
use Rattle.wac_binary.specs.declared.declarations.shared.Chunk.{Chunk}
use Rattle.wac_binary.specs.declared.declarations.shared.SharedBytes.TheInside.{Inside}
use Rattle.wac_binary.specs.private.declarations.Chunks.{chunk_bytes}

-- The bytes of a chunk, if there is one.
abbrev pub held_bytes : Option (Rc Chunk Global) → List ℕ
held_bytes None = []
held_bytes (Some chunk) = chunk_bytes chunk.value

abbrev pub view : Inside → List ℕ
view s = held_bytes s.chunk

-- `len` is the number of bytes.
abbrev pub IsCounted : Inside → Type 0
IsCounted s = s.len ≡ length (view s)
