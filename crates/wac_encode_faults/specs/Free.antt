-- The free resources of a type: those that it mentions and that no scope inside it binds.
use Rattle.std.specs.Prelude.{◌≡◌, List, [], None, Some, Contains}
use Rattle.wac_types_shapes.specs.primitives.Name.{Name}
use Rattle.wac_types_shapes.specs.primitives.Tree.{Side, imported, exported}
use Rattle.wac_types_shapes.specs.shapes.Kinds.{kind_type}
use Rattle.wac_types_shapes.specs.declared.shapes.component.Interface.{Interface}
use Rattle.wac_types_shapes.specs.declared.shapes.component.InterfaceId.{InterfaceId}
use Rattle.wac_types_shapes.specs.declared.shapes.component.ResourceId.{ResourceId}
use Rattle.wac_types_shapes.specs.declared.shapes.component.ItemKind.{ItemKind}
use Rattle.wac_types_shapes.specs.declared.shapes.component.ItemKind.TheVariants as kind
use Rattle.wac_types_shapes.specs.declared.shapes.component.«Type».{«Type» as AnyType}
use Rattle.wac_types_shapes.specs.declared.shapes.component.«Type».TheVariants as ty
use Rattle.wac_types_collection.specs.collection.Collection.{Collection, item_at}
use Rattle.wac_types_collection.specs.collection.Held.{resolved}
use Rattle.wac_types_collection.specs.collection.Bound.{Bindings, own_name}
use Rattle.wac_types_collection.specs.reach.Reach.{mentions}
use Rattle.wac_encode_faults.specs.Sides.{Sides, side_bindings}

-- The types that a function type or a value type mentions; other types open a scope or mention nothing that counts.
abbrev pub parts : Collection → AnyType → List AnyType
parts c (ty.Func f) = mentions c (ty.Func f)
parts c (ty.Value v) = mentions c (ty.Value v)
parts c t = []

-- The resource, the end of its aliases, is free in the type. An instance type binds its own; a component type has none free.
pub data IsFree (c : Collection) : AnyType → ResourceId → Type 0 where
  itself : (r : ResourceId) → IsFree c (ty.Resource r) (resolved c r)
  in_part : (t u : AnyType) (r : ResourceId) → Contains (parts c t) u → IsFree c u r → IsFree c t r
  in_export : (i : InterfaceId) (it : Interface) (n : Name) (k : ItemKind) (r : ResourceId) → item_at c.interfaces i.0 ≡ Some it
      → Contains it.exports (n, k) → own_name c it.uses it.exports r ≡ None → IsFree c (kind_type k) r → IsFree c (ty.Interface i) r

-- The resource is free in an instance of the interface with its types only.
pub record IsFreeInTypes (c : Collection) (i : InterfaceId) (r : ResourceId) : Type 0 where
  pub interface : Interface
  pub there : item_at c.interfaces i.0 ≡ Some interface
  pub name : Name
  pub type : AnyType
  pub listed : Contains interface.exports (name, kind.TypeItem type)
  pub not_own : own_name c interface.uses interface.exports r ≡ None
  pub free : IsFree c type r

-- An import or export of a component type.
pub record SideItem : Type 0 where
  pub side : Side
  pub name : Name

-- The resource is free in the import or export.
pub data IsFreeInItem (c : Collection) (s : Sides) : SideItem → ResourceId → Type 0 where
  of_import : (n : Name) (k : ItemKind) (r : ResourceId) → Contains s.imports (n, k) → IsFree c (kind_type k) r
      → IsFreeInItem c s (record { side = imported; name = n }) r
  of_additional : (n : Name) (i : InterfaceId) (r : ResourceId) → Contains s.additional (n, kind.Instance i) → IsFreeInTypes c i r
      → IsFreeInItem c s (record { side = imported; name = n }) r
  of_export : (n : Name) (k : ItemKind) (r : ResourceId) → Contains s.exports (n, k) → IsFree c (kind_type k) r
      → IsFreeInItem c s (record { side = exported; name = n }) r

-- A free resource of the type has no binding.
abbrev pub IsUnbound : Collection → Bindings → AnyType → Type 0
IsUnbound c m t = (r : ResourceId) × IsFree c t r × (m r ≡ None)

-- A free resource of an import or export has no binding on its side.
abbrev pub HasUnboundItem : Collection → Sides → Type 0
HasUnboundItem c s = (x : SideItem) × (r : ResourceId) × IsFreeInItem c s x r × (side_bindings c s x.side r ≡ None)
