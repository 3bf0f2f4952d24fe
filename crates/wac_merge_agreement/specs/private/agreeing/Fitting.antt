-- The exports of instances in a table.
use Rattle.std.specs.Prelude.{◌≡◌, ◌⊎◌, List, Option, Some, None, slice_get}
use Rattle.wac_types_shapes.specs.primitives.Name.{Name, option_case}
use Rattle.wac_merge_tables.specs.private.tables.Nodes.{Item, an_instance, Node, of_instance}

-- The exports of an instance's node.
abbrev pub exports_in : Node → Option (List (Name × Item))
exports_in (of_instance es) = Some es
exports_in _ = None

-- The exports of an item that is an instance.
abbrev pub exports_of : List Node → Item → Option (List (Name × Item))
exports_of ns (an_instance n) = option_case (slice_get ns n) None exports_in
exports_of ns _ = None

-- The item is an instance.
abbrev pub IsOpen : List Node → Item → Type 0
IsOpen ns x = (es : List (Name × Item)) × (exports_of ns x ≡ Some es)

-- The items are equal, or both are instances.
abbrev pub Fits : List Node → Item → Item → Type 0
Fits ns x y = (x ≡ y) ⊎ (IsOpen ns x × IsOpen ns y)
