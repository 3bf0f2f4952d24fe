-- What interfaces use widely: what they use themselves, and what the instances that they export use widely.
use Rattle.std.specs.Prelude.{ℕ, zero, suc, ◌==◌, Bool, if◌then◌else◌, List, [], ◌∷◌, ◌++◌, map, Contains}
use Rattle.std.specs.List.{flat_map, list_any}
use Rattle.wac_types_shapes.specs.primitives.Name.{Name, option_case}
use Rattle.wac_types_shapes.specs.declared.shapes.component.InterfaceId.{InterfaceId}
use Rattle.wac_types_shapes.specs.declared.shapes.component.ItemKind.{ItemKind}
use Rattle.wac_types_shapes.specs.declared.shapes.component.ItemKind.TheVariants as kind
use Rattle.wac_types_shapes.specs.declared.shapes.component.UsedType.{UsedType}
use Rattle.wac_types_shapes.specs.declared.shapes.component.WorldId.{WorldId}
use Rattle.wac_types_collection.specs.collection.Collection.{Collection, HasInterface, size, item_at, interface_exports}

-- The types that an interface uses.
abbrev pub interface_uses : Collection → InterfaceId → List (Name × UsedType)
interface_uses c i = option_case (item_at c.interfaces i.0) [] (λ it. it.uses)

-- The types that a world uses.
abbrev pub world_uses : Collection → WorldId → List (Name × UsedType)
world_uses c w = option_case (item_at c.worlds w.0) [] (λ it. it.uses)

-- The interfaces from which types are used.
abbrev pub used_interfaces : List (Name × UsedType) → List InterfaceId
used_interfaces uses = map (λ u. u.1.interface) uses

-- The interface of an instance.
abbrev pub instance_of : ItemKind → List InterfaceId
instance_of (kind.Instance i) = i ∷ []
instance_of k = []

-- The interfaces of the instances among the items.
abbrev pub instances_of : List (Name × ItemKind) → List InterfaceId
instances_of items = flat_map (λ e. instance_of e.1) items

-- The interfaces are of the collection.
abbrev pub AreThere : Collection → List InterfaceId → Type 0
AreThere c is = (i : InterfaceId) → Contains is i → HasInterface c i

-- The first interface uses the second widely: itself, or an instance that it exports uses it widely.
pub data UsesWidely (c : Collection) : InterfaceId → InterfaceId → Type 0 where
  by_itself : (i : InterfaceId) (n : Name) (u : UsedType) → Contains (interface_uses c i) (n, u) → UsesWidely c i u.interface
  by_instance : (i j k : InterfaceId) (n : Name) → Contains (interface_exports c i) (n, kind.Instance j) → UsesWidely c j k → UsesWidely c i k

-- What an interface uses widely, down to the given depth of instances: its own uses, then those of its instances in order.
abbrev pub wide_uses_to : ℕ → Collection → InterfaceId → List InterfaceId
wide_uses_to zero c i = []
wide_uses_to (suc d) c i = used_interfaces (interface_uses c i) ++ flat_map (wide_uses_to d c) (instances_of (interface_exports c i))

-- What an interface uses widely, in order. No chain of instances is longer than the number of items.
abbrev pub wide_uses : Collection → InterfaceId → List InterfaceId
wide_uses c = wide_uses_to (size c) c

-- What the instances among the items use widely.
abbrev pub wide_uses_of_items : Collection → List (Name × ItemKind) → List InterfaceId
wide_uses_of_items c items = flat_map (wide_uses c) (instances_of items)

-- The interface is one of these.
abbrev pub is_among : List InterfaceId → InterfaceId → Bool
is_among is i = list_any (λ j. i.0 == j.0) is

-- The interfaces, with each of the others appended that is not there yet.
abbrev pub with_each : List InterfaceId → List InterfaceId → List InterfaceId
with_each found [] = found
with_each found (i ∷ is) = with_each (if is_among found i then found else found ++ i ∷ []) is

-- The interfaces without repetition: the first of several remains.
abbrev pub each_once : List InterfaceId → List InterfaceId
each_once is = with_each [] is
