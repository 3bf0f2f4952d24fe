-- Which items cannot be written, and by which fault.
use Rattle.std.specs.Prelude.{ℕ, ◌≡◌, ◌≤◌, ◌⊎◌, ◌++◌, List, [], Option, Some, None, Contains}
use Rattle.wac_types_shapes.specs.primitives.Name.{Name, option_case}
use Rattle.wac_types_shapes.specs.shapes.Kinds.{kind_type}
use Rattle.wac_types_shapes.specs.declared.shapes.component.InterfaceId.{InterfaceId}
use Rattle.wac_types_shapes.specs.declared.shapes.component.World.{World}
use Rattle.wac_types_shapes.specs.declared.shapes.component.WorldId.{WorldId}
use Rattle.wac_types_shapes.specs.declared.shapes.component.ItemKind.{ItemKind}
use Rattle.wac_types_shapes.specs.declared.shapes.component.ItemKind.TheVariants as kind
use Rattle.wac_types_shapes.specs.declared.shapes.component.UsedType.{UsedType}
use Rattle.wac_types_shapes.specs.declared.shapes.component.«Type».{«Type» as AnyType}
use Rattle.wac_types_shapes.specs.declared.shapes.component.«Type».TheVariants as ty
use Rattle.wac_types_collection.specs.collection.Collection.{Collection, item_at, interface_exports, world_imports, world_exports}
use Rattle.wac_types_collection.specs.collection.Bound.{Bindings}
use Rattle.wac_encode_faults.specs.declared.fault.WriteFault.{WriteFault}
use Rattle.wac_encode_faults.specs.declared.fault.WriteFault.TheVariants as fault
use Rattle.wac_encode_faults.specs.declared.faults.Role.{Role}
use Rattle.wac_encode_faults.specs.declared.faults.Role.TheVariants as role
use Rattle.wac_types_collection.specs.wide.Wide.{world_uses, UsesWidely}
use Rattle.wac_encode_faults.specs.Sides.{Sides, world_sides, defined_sides, listed_interfaces}
use Rattle.wac_encode_faults.specs.Free.{IsUnbound, HasUnboundItem}
use Rattle.wac_encode_faults.specs.Cycle.{HasItemCycle}

-- The number of a fault. No fault has the number 6.
abbrev pub fault_rank : WriteFault → ℕ
fault_rank fault.UnboundResource = 1
fault_rank fault.ModuleAsType = 2
fault_rank fault.UnnamedDefinition = 3
fault_rank fault.NestedItem = 4
fault_rank fault.ValueItem = 5
fault_rank fault.UnlistedDependency = 7
fault_rank fault.InterfaceTwice = 8
fault_rank fault.TypesUseEachOther = 9

-- The lowest fault that satisfies the predicate, or none if no fault does.
abbrev pub IsLowest : (WriteFault → Type 0) → Option WriteFault → Type 0
IsLowest Is None = (f : WriteFault) → Is f → ⊥
IsLowest Is (Some f) = Is f × ((other : WriteFault) → Is other → fault_rank f ≤ fault_rank other)

-- The imports and exports of a type.
abbrev pub listed_items : Collection → AnyType → List (Name × ItemKind)
listed_items c (ty.Interface i) = interface_exports c i
listed_items c (ty.World w) = world_imports c w ++ world_exports c w
listed_items c (ty.Resource r) = []
listed_items c (ty.Func f) = []
listed_items c (ty.Value v) = []
listed_items c (ty.Module m) = []

-- The item is one of these, under some name.
abbrev pub IsListed : ItemKind → List (Name × ItemKind) → Type 0
IsListed k items = (n : Name) × Contains items (n, k)

-- The first type is written inside the second: it is that type, or inside the type of one of its imports and exports.
pub data IsInside (c : Collection) : AnyType → AnyType → Type 0 where
  itself : (s t : AnyType) → s ≡ t → IsInside c s t
  in_item : (s t : AnyType) (k : ItemKind) → IsListed k (listed_items c t) → IsInside c s (kind_type k) → IsInside c s t

-- The fault of an import or export of an interface or a world.
abbrev pub listed_fault : ItemKind → Option WriteFault
listed_fault (kind.TypeItem (ty.Module m)) = Some fault.ModuleAsType
listed_fault (kind.TypeItem t) = None
listed_fault (kind.Func f) = None
listed_fault (kind.Instance i) = None
listed_fault (kind.Component w) = Some fault.NestedItem
listed_fault (kind.Module m) = Some fault.NestedItem
listed_fault (kind.Value v) = Some fault.NestedItem

-- One of the imports and exports has this fault.
abbrev pub IsFaultOfListed : List (Name × ItemKind) → WriteFault → Type 0
IsFaultOfListed items f = (k : ItemKind) × IsListed k items × (listed_fault k ≡ Some f)

-- A world has an unlisted dependency: an interface that it uses, or that an import uses widely, and that it does not import under its id; or one that
-- an export uses widely, and that it neither imports nor exports under its id.
pub data HasUnlisted (c : Collection) (w : WorldId) : Type 0 where
  by_world : (n : Name) (u : UsedType) → Contains (world_uses c w) (n, u) → (Contains (listed_interfaces c (world_imports c w)) u.interface → ⊥) → HasUnlisted c w
  by_import : (n : Name) (i j : InterfaceId) → Contains (world_imports c w) (n, kind.Instance i) → UsesWidely c i j
      → (Contains (listed_interfaces c (world_imports c w)) j → ⊥) → HasUnlisted c w
  by_export : (n : Name) (i j : InterfaceId) → Contains (world_exports c w) (n, kind.Instance i) → UsesWidely c i j
      → (Contains (listed_interfaces c (world_imports c w ++ world_exports c w)) j → ⊥) → HasUnlisted c w

-- A world has this fault, wherever it is written.
pub data IsWorldFault (c : Collection) (w : WorldId) : WriteFault → Type 0 where
  unbound : (x : World) → item_at c.worlds w.0 ≡ Some x → HasUnboundItem c (world_sides x) → IsWorldFault c w fault.UnboundResource
  unlisted : HasUnlisted c w → IsWorldFault c w fault.UnlistedDependency
  cycle : (x : World) → item_at c.worlds w.0 ≡ Some x → HasItemCycle c (world_sides x) → IsWorldFault c w fault.TypesUseEachOther

-- A type has this fault, wherever it is written: that of an import or export, or that of a world.
pub data IsTypeFault (c : Collection) : AnyType → WriteFault → Type 0 where
  of_listed : (t : AnyType) (f : WriteFault) → IsFaultOfListed (listed_items c t) f → IsTypeFault c t f
  of_world : (w : WorldId) (f : WriteFault) → IsWorldFault c w f → IsTypeFault c (ty.World w) f

-- A type that is written inside this one has this fault.
abbrev pub IsFaultInside : Collection → AnyType → WriteFault → Type 0
IsFaultInside c t f = (s : AnyType) × IsInside c s t × IsTypeFault c s f

-- One of the imports and exports has this fault, or its type does inside.
abbrev pub IsFaultOfItems : Collection → List (Name × ItemKind) → WriteFault → Type 0
IsFaultOfItems c items f = IsFaultOfListed items f ⊎ ((k : ItemKind) × IsListed k items × IsFaultInside c (kind_type k) f)

-- A type item of the interface has this fault, or its type does inside.
abbrev pub IsFaultOfTypes : Collection → InterfaceId → WriteFault → Type 0
IsFaultOfTypes c i f =
    (t : AnyType) × IsListed (kind.TypeItem t) (interface_exports c i) × ((listed_fault (kind.TypeItem t) ≡ Some f) ⊎ IsFaultInside c t f)

-- An additional import has the name of another import.
pub data HasNameTwice (s : Sides) : Type 0 where
  of_import : (n : Name) (k : ItemKind) (i : InterfaceId) → Contains s.imports (n, k) → Contains s.additional (n, kind.Instance i) → HasNameTwice s
  of_additional : (n : Name) (i j : InterfaceId) → Contains s.additional (n, kind.Instance i) → Contains s.additional (n, kind.Instance j)
      → (i ≡ j → ⊥) → HasNameTwice s

-- The component type of a definition has this fault.
pub data IsSidesFault (c : Collection) (s : Sides) : WriteFault → Type 0 where
  unbound : HasUnboundItem c s → IsSidesFault c s fault.UnboundResource
  of_items : (f : WriteFault) → IsFaultOfItems c (s.imports ++ s.exports) f → IsSidesFault c s f
  of_additional : (n : Name) (i : InterfaceId) (f : WriteFault) → Contains s.additional (n, kind.Instance i) → IsFaultOfTypes c i f → IsSidesFault c s f
  twice : HasNameTwice s → IsSidesFault c s fault.InterfaceTwice
  cycle : HasItemCycle c s → IsSidesFault c s fault.TypesUseEachOther

-- The fault that an item has as an import of the root.
abbrev pub import_fault : ItemKind → Option WriteFault
import_fault (kind.TypeItem (ty.Module m)) = Some fault.ModuleAsType
import_fault (kind.TypeItem t) = None
import_fault (kind.Func f) = None
import_fault (kind.Instance i) = None
import_fault (kind.Component w) = None
import_fault (kind.Module m) = None
import_fault (kind.Value v) = Some fault.ValueItem

-- The fault of a defined interface or world with this id.
abbrev pub unnamed : Option Name → Option WriteFault
unnamed None = Some fault.UnnamedDefinition
unnamed (Some id) = None

-- The fault that a type has as a definition.
abbrev pub definition_fault : Collection → AnyType → Option WriteFault
definition_fault c (ty.Interface i) = option_case (item_at c.interfaces i.0) None (λ it. unnamed it.id)
definition_fault c (ty.World w) = option_case (item_at c.worlds w.0) None (λ it. unnamed it.id)
definition_fault c (ty.Module m) = Some fault.ModuleAsType
definition_fault c (ty.Resource r) = None
definition_fault c (ty.Func f) = None
definition_fault c (ty.Value v) = None

-- An import of the root has this fault, under the root's bindings. The component of a package is an import of its world.
pub data IsImportFault (c : Collection) (root : Bindings) (k : ItemKind) : WriteFault → Type 0 where
  own : (f : WriteFault) → import_fault k ≡ Some f → IsImportFault c root k f
  unbound : IsUnbound c root (kind_type k) → IsImportFault c root k fault.UnboundResource
  inside : (f : WriteFault) → IsFaultInside c (kind_type k) f → IsImportFault c root k f

-- A definition has this fault, under the root's bindings: of its component type, if it is one, or of the type as it is.
abbrev pub IsDefinedFault : Collection → Bindings → AnyType → Option Sides → WriteFault → Type 0
IsDefinedFault c root t (Some s) f = IsSidesFault c s f
IsDefinedFault c root t None f = IsUnbound c root t × (f ≡ fault.UnboundResource)

-- The definition of a type has this fault, under the root's bindings.
abbrev pub IsDefinitionFault : Collection → Bindings → AnyType → WriteFault → Type 0
IsDefinitionFault c root t f = (definition_fault c t ≡ Some f) ⊎ IsDefinedFault c root t (defined_sides c t) f

-- The item has this fault in its role, under the root's bindings.
abbrev pub HasFault : Collection → Bindings → Role → ItemKind → WriteFault → Type 0
HasFault c root role.Imported k f = IsImportFault c root k f
HasFault c root role.Defined k f = IsDefinitionFault c root (kind_type k) f
