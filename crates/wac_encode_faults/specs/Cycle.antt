-- Which imports and exports of a component type depend on each other.
use Rattle.std.specs.Prelude.{ℕ, ◌≡◌, List, ◌∷◌, ◌++◌, map, slice_get, Option, Some, None, Contains}
use Rattle.std.specs.Map.{lookup}
use Rattle.wac_types_shapes.specs.primitives.Name.{Name}
use Rattle.wac_types_shapes.specs.primitives.Tree.{Side, imported, exported, Leaf, Place, named}
use Rattle.wac_types_shapes.specs.contracts.shapes.component.ResourceIdPartialEq.TheImpl as IdEq
use Rattle.wac_types_shapes.specs.declared.shapes.component.InterfaceId.{InterfaceId}
use Rattle.wac_types_shapes.specs.declared.shapes.component.UsedType.{UsedType}
use Rattle.wac_types_shapes.specs.declared.shapes.component.ResourceId.{ResourceId}
use Rattle.wac_types_shapes.specs.declared.shapes.component.ItemKind.{ItemKind}
use Rattle.wac_types_shapes.specs.declared.shapes.component.ItemKind.TheVariants as kind
use Rattle.wac_types_collection.specs.collection.Collection.{Collection}
use Rattle.wac_types_collection.specs.collection.Bound.{Bindings}
use Rattle.wac_types_collection.specs.wide.Wide.{interface_uses, UsesWidely}
use Rattle.wac_encode_faults.specs.Sides.{Sides, all_imports, listed_interface, listed_interfaces, side_bindings}
use Rattle.wac_encode_faults.specs.Free.{SideItem, IsFreeInItem}

-- The item uses the interface: an instance widely, an additional import by its own uses.
pub data ItemUses (c : Collection) (s : Sides) : SideItem → InterfaceId → Type 0 where
  by_import : (n : Name) (i j : InterfaceId) → Contains s.imports (n, kind.Instance i) → UsesWidely c i j
      → ItemUses c s (record { side = imported; name = n }) j
  by_additional : (n m : Name) (i : InterfaceId) (u : UsedType) → Contains s.additional (n, kind.Instance i) → Contains (interface_uses c i) (m, u)
      → ItemUses c s (record { side = imported; name = n }) u.interface
  by_export : (n : Name) (i j : InterfaceId) → Contains s.exports (n, kind.Instance i) → UsesWidely c i j
      → ItemUses c s (record { side = exported; name = n }) j

-- The item of this name is the interface's instance under the interface's id.
abbrev pub IsListedAs : Collection → List (Name × ItemKind) → Name → InterfaceId → Type 0
IsListedAs c items n i = Contains items (n, kind.Instance i) × Contains (listed_interface c (n, kind.Instance i)) i

-- The item from which a side takes the types of an interface: the import; for an export, if no import is it, the export.
pub data Supplies (c : Collection) (s : Sides) : Side → SideItem → InterfaceId → Type 0 where
  as_import : (side : Side) (n : Name) (i : InterfaceId) → IsListedAs c (all_imports s) n i → Supplies c s side (record { side = imported; name = n }) i
  as_export : (n : Name) (i : InterfaceId) → IsListedAs c s.exports n i → (Contains (listed_interfaces c (all_imports s)) i → ⊥)
      → Supplies c s exported (record { side = exported; name = n }) i

-- The binding is at the item or inside it.
abbrev pub IsBindingOf : SideItem → Leaf → Type 0
IsBindingOf x l = (l.side ≡ x.side) × (rest : List Place) × (l.path ≡ named x.name ∷ rest)

-- The first item depends on the second: it uses an interface of the second, or a resource that the second binds is free in it.
pub data ItemDependsOn (c : Collection) (s : Sides) : SideItem → SideItem → Type 0 where
  by_use : (x y : SideItem) (i : InterfaceId) → (x ≡ y → ⊥) → ItemUses c s x i → Supplies c s x.side y i → ItemDependsOn c s x y
  by_resource : (x y : SideItem) (r : ResourceId) (l : Leaf) → (x ≡ y → ⊥) → IsFreeInItem c s x r → side_bindings c s x.side r ≡ Some l → IsBindingOf y l
      → ItemDependsOn c s x y

-- A chain of one or more dependencies leads from the first item to the second.
pub data LeadsToItem (c : Collection) (s : Sides) : SideItem → SideItem → Type 0 where
  one : (x y : SideItem) → ItemDependsOn c s x y → LeadsToItem c s x y
  more : (x y z : SideItem) → ItemDependsOn c s x y → LeadsToItem c s y z → LeadsToItem c s x z

-- Items depend on each other in a cycle.
abbrev pub HasItemCycle : Collection → Sides → Type 0
HasItemCycle c s = (x : SideItem) × LeadsToItem c s x x

-- The items by their numbers: imports, additional imports, exports.
abbrev pub numbered_items : Sides → List SideItem
numbered_items s = map (λ e. record { side = imported; name = e.0 }) (all_imports s) ++ map (λ e. record { side = exported; name = e.0 }) s.exports

-- The item with the first number depends on the item with the second.
abbrev pub DependsByNumber : Collection → Sides → ℕ → ℕ → Type 0
DependsByNumber c s a b =
    (x y : SideItem) × (slice_get (numbered_items s) a ≡ Some x) × (slice_get (numbered_items s) b ≡ Some y) × ItemDependsOn c s x y

-- The number of a resource in a map.
abbrev pub owner_of : List (ResourceId × ℕ) → ResourceId → Option ℕ
owner_of entries r = lookup ((IdEq.ghosts).eq r) entries

-- The number is that of the item with the binding. There is none if there is no binding.
abbrev pub IsOwner : List SideItem → Option ℕ → Option Leaf → Type 0
IsOwner all None o = o ≡ None
IsOwner all (Some n) o = (l : Leaf) × (x : SideItem) × (o ≡ Some l) × (slice_get all n ≡ Some x) × IsBindingOf x l

-- The map has the number of the item with the binding of each resource.
abbrev pub AreOwners : List SideItem → Bindings → List (ResourceId × ℕ) → Type 0
AreOwners all m entries = (r : ResourceId) → IsOwner all (owner_of entries r) (m r)
