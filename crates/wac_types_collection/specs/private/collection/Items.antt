-- The items of a list that clones share. No public contract cites them.
use Rattle.std.specs.Prelude.{List, [], Option, Some, None, Vec}
use Rattle.std.specs.Global.{Global}
use Rattle.std.specs.declared.sync.Arc.{Arc}
use Rattle.std.specs.Arc.{arc_value}
use Rattle.wac_types_collection.specs.declared.collection.collection.Held.{Held}

-- The items of a list, if there is one.
abbrev pub entries : {T : Type 0} → Option (Arc (Vec (Held T) Global) Global) → List (Held T)
entries None = []
entries (Some list) = (arc_value list).items
