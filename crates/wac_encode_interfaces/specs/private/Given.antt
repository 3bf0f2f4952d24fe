-- The sides of a component type, as they are given.
use Rattle.std.specs.Prelude.{◌≡◌, true, List, Contains}
use Rattle.std.specs.List.{flat_map}
use Rattle.wac_types_shapes.specs.primitives.Name.{Name}
use Rattle.wac_types_shapes.specs.shapes.Kinds.{kind_type}
use Rattle.wac_types_shapes.specs.declared.shapes.component.InterfaceId.{InterfaceId}
use Rattle.wac_types_shapes.specs.declared.shapes.component.ItemKind.{ItemKind}
use Rattle.wac_types_collection.specs.collection.Collection.{Collection, holds_type}
use Rattle.wac_types_collection.specs.wide.Wide.{AreThere}
use Rattle.wac_encode_faults.specs.Sides.{Sides, under_id}
use Rattle.wac_encode_interfaces.specs.declared.sides.Sides.{Sides as GivenSides}
use Rattle.wac_encode_interfaces.specs.private.Worlds.{Worlds, HaveWorlds, HaveInterfaceWorlds}

-- The sides, in which additional imports are instances under the ids of their interfaces.
abbrev pub sides_of : Collection → GivenSides → Sides
sides_of c x = record { imports = x.imports.now; additional = flat_map (under_id c) x.additional.now; exports = x.exports.now; uses = x.uses.now }

-- The types of the items are of the collection.
abbrev pub AreHeldItems : Collection → List (Name × ItemKind) → Type 0
AreHeldItems c es = (e : Name × ItemKind) → Contains es e → holds_type c (kind_type e.1) ≡ true

-- The items are of the collection, and so are the additional interfaces.
pub record AreHeldSides (c : Collection) (x : GivenSides) : Type 0 where
  pub imports : AreHeldItems c x.imports.now
  pub exports : AreHeldItems c x.exports.now
  pub additional : AreThere c x.additional.now

-- The worlds inside the items are written.
abbrev pub HaveItemWorlds : Collection → Worlds → List (Name × ItemKind) → Type 0
HaveItemWorlds c ws es = (e : Name × ItemKind) → Contains es e → HaveWorlds c ws (kind_type e.1)

-- The worlds inside the imports and exports are written. Of an additional import, those inside its types.
pub record HaveSidesWorlds (c : Collection) (ws : Worlds) (x : GivenSides) : Type 0 where
  pub imports : HaveItemWorlds c ws x.imports.now
  pub exports : HaveItemWorlds c ws x.exports.now
  pub additional : (i : InterfaceId) → Contains x.additional.now i → HaveInterfaceWorlds c ws true i
