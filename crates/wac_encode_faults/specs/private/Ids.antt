-- Interfaces that have an id.
use Rattle.std.specs.Prelude.{◌≡◌, List, Some, Contains}
use Rattle.wac_types_shapes.specs.primitives.Name.{Name}
use Rattle.wac_types_shapes.specs.declared.shapes.component.Interface.{Interface}
use Rattle.wac_types_shapes.specs.declared.shapes.component.InterfaceId.{InterfaceId}
use Rattle.wac_types_collection.specs.collection.Collection.{Collection, item_at}

-- The interface is of the collection, and has an id.
abbrev pub HasInterfaceId : Collection → InterfaceId → Type 0
HasInterfaceId c i = (x : Interface) × (n : Name) × (item_at c.interfaces i.0 ≡ Some x) × (x.id ≡ Some n)

-- Each of the interfaces is of the collection, and has an id.
abbrev pub HaveIds : Collection → List InterfaceId → Type 0
HaveIds c is = (i : InterfaceId) → Contains is i → HasInterfaceId c i
