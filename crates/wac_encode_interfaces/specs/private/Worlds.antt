-- The component types of worlds, which are written before the scopes that mention them.
use Rattle.std.specs.Prelude.{◌≡◌, Bool, true, false, List, Option, Some}
use Rattle.indexmap.specs.IndexMap.{get_by}
use Rattle.wac_types_shapes.specs.contracts.shapes.component.WorldIdPartialEq.TheImpl as IdEq
use Rattle.wac_types_shapes.specs.declared.shapes.component.InterfaceId.{InterfaceId}
use Rattle.wac_types_shapes.specs.declared.shapes.component.ItemKind.TheVariants as kind
use Rattle.wac_types_shapes.specs.declared.shapes.component.WorldId.{WorldId}
use Rattle.wac_types_shapes.specs.declared.shapes.component.«Type».{«Type» as AnyType}
use Rattle.wac_types_shapes.specs.declared.shapes.component.«Type».TheVariants as ty
use Rattle.wac_types_collection.specs.collection.Collection.{Collection, interface_exports}
use Rattle.wac_types_collection.specs.collection.Bound.{Bindings}
use Rattle.wac_binary.specs.Items.{Decl}
use Rattle.wac_encode_stacks.specs.Good.{IsHeld}
use Rattle.wac_encode_scopes.specs.private.Components.{ComponentHasMeaning, component_tree}
use Rattle.wac_encode_faults.specs.Faults.{IsInside, IsListed}
use Rattle.wac_encode_interfaces.specs.declared.worlds.WorldTypes.{WorldTypes}

-- The declarations of each world that is written.
abbrev pub Worlds : Type 0
Worlds = WorldId → Option (List Decl)

-- The declarations have a meaning, and the tree of the world.
abbrev pub AreWorldTypes : Collection → Worlds → Type 0
AreWorldTypes c ws = (w : WorldId) (ds : List Decl) → ws w ≡ Some ds → ComponentHasMeaning ds × ((m : Bindings) → IsHeld c m (ty.World w) (component_tree ds))

-- Each world inside the type is written.
abbrev pub HaveWorlds : Collection → Worlds → AnyType → Type 0
HaveWorlds c ws a = (w : WorldId) → IsInside c (ty.World w) a → (ds : List Decl) × (ws w ≡ Some ds)

-- Each world inside the interface is written: inside its type items, or inside all its items.
abbrev pub HaveInterfaceWorlds : Collection → Worlds → Bool → InterfaceId → Type 0
HaveInterfaceWorlds c ws true i = (a : AnyType) → IsListed (kind.TypeItem a) (interface_exports c i) → HaveWorlds c ws a
HaveInterfaceWorlds c ws false i = HaveWorlds c ws (ty.Interface i)

-- The declarations of each world in a table.
abbrev pub written_in : WorldTypes → Worlds
written_in ws w = get_by ((IdEq.ghosts).eq w) ws.written
