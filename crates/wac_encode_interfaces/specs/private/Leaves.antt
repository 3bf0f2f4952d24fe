-- The resources to which the recursion of trees gives no leaf.
use Rattle.std.specs.Prelude.{◌≡◌, ◌⊎◌, ◌↔◌, None, Some, Contains}
use Rattle.wac_types_shapes.specs.primitives.Name.{Name}
use Rattle.wac_types_shapes.specs.shapes.Kinds.{kind_type}
use Rattle.wac_types_shapes.specs.declared.shapes.component.Interface.{Interface}
use Rattle.wac_types_shapes.specs.declared.shapes.component.InterfaceId.{InterfaceId}
use Rattle.wac_types_shapes.specs.declared.shapes.component.World.{World}
use Rattle.wac_types_shapes.specs.declared.shapes.component.WorldId.{WorldId}
use Rattle.wac_types_shapes.specs.declared.shapes.component.ResourceId.{ResourceId}
use Rattle.wac_types_shapes.specs.declared.shapes.component.ItemKind.{ItemKind}
use Rattle.wac_types_shapes.specs.declared.shapes.component.«Type».{«Type» as AnyType}
use Rattle.wac_types_shapes.specs.declared.shapes.component.«Type».TheVariants as ty
use Rattle.wac_types_collection.specs.collection.Collection.{Collection, item_at}
use Rattle.wac_types_collection.specs.collection.Held.{resolved}
use Rattle.wac_types_collection.specs.collection.Bound.{Bindings, inside_interface, bound_by_imports, bound_in_world}
use Rattle.wac_encode_faults.specs.Faults.{IsInside}
use Rattle.wac_encode_faults.specs.Free.{parts, IsFree, SideItem, IsFreeInItem}
use Rattle.wac_encode_faults.specs.Sides.{world_sides, side_bindings}

-- Under these bindings the type mentions the resource, the end of its aliases, where no binding gives it a leaf. An instance type
-- and both sides of a component type have the bindings by which their trees are made.
pub data HasNoLeaf (c : Collection) : Bindings → AnyType → ResourceId → Type 0 where
  itself : (m : Bindings) (r : ResourceId) → m (resolved c r) ≡ None → HasNoLeaf c m (ty.Resource r) (resolved c r)
  in_part : (m : Bindings) (t u : AnyType) (r : ResourceId) → Contains (parts c t) u → HasNoLeaf c m u r → HasNoLeaf c m t r
  in_interface : (m : Bindings) (i : InterfaceId) (it : Interface) (n : Name) (k : ItemKind) (r : ResourceId) → item_at c.interfaces i.0 ≡ Some it
      → Contains it.exports (n, k) → HasNoLeaf c (inside_interface c it m) (kind_type k) r → HasNoLeaf c m (ty.Interface i) r
  in_imports : (m : Bindings) (w : WorldId) (x : World) (n : Name) (k : ItemKind) (r : ResourceId) → item_at c.worlds w.0 ≡ Some x
      → Contains x.imports (n, k) → HasNoLeaf c (bound_by_imports c x) (kind_type k) r → HasNoLeaf c m (ty.World w) r
  in_exports : (m : Bindings) (w : WorldId) (x : World) (n : Name) (k : ItemKind) (r : ResourceId) → item_at c.worlds w.0 ≡ Some x
      → Contains x.exports (n, k) → HasNoLeaf c (bound_in_world c x) (kind_type k) r → HasNoLeaf c m (ty.World w) r

-- The resource is free in an import or export of a world inside the type, and has no binding on its side.
pub record IsUnboundInWorld (c : Collection) (t : AnyType) (r : ResourceId) : Type 0 where
  pub world : WorldId
  pub inside : IsInside c (ty.World world) t
  pub item : World
  pub there : item_at c.worlds world.0 ≡ Some item
  pub place : SideItem
  pub free : IsFreeInItem c (world_sides item) place r
  pub unbound : side_bindings c (world_sides item) place.side r ≡ None

-- A resource has no leaf in a type if and only if it is free there and not bound, or has no binding in a world inside the type.
abbrev pub LeavesByFree : Type 0
LeavesByFree = (c : Collection) (m : Bindings) (t : AnyType) (r : ResourceId) → HasNoLeaf c m t r ↔ ((IsFree c t r × (m r ≡ None)) ⊎ IsUnboundInWorld c t r)
