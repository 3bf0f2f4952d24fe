-- The bytes of a buffer: those of `front`, which are in reverse order, then those of `core`, then those of `back`.
use Rattle.std.specs.Prelude.{ℕ, List, ◌++◌, reverse}
use Rattle.wac_binary.specs.declared.declarations.buffer.Buffer.TheInside.{Inside}

abbrev pub view : Inside → List ℕ
view b = reverse b.front.items ++ (b.core ++ b.back.items)
