-- The value and the invariant of `ComponentBuilder`.
use Rattle.std.specs.Prelude.{List}
use Rattle.wac_binary.specs.Items.{Item}
use Rattle.wac_binary.specs.private.builder.Written.{items, State}
use Rattle.wac_binary.specs.declared.builder.builder.ComponentBuilder.TheInside.{Inside}

abbrev pub view : Inside → List Item
view b = items b.written

abbrev pub IsWritten : Inside → Type 0
IsWritten b = State (view b) b.bytes.items b.things.items b.counts b.open_section
