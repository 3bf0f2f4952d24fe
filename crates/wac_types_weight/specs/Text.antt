-- The part of a weight that pays for a type where it is written: without ids, and without what is only used. A merged
-- interface uses merged interfaces, so its weight may be more than the sum of its members' weights. This part is not.
use Rattle.std.specs.Prelude.{ℕ, zero, suc, ◌+◌, if◌then◌else◌, List, [], ◌++◌}
use Rattle.std.specs.List.{sum_by}
use Rattle.wac_types_shapes.specs.primitives.Name.{Name, option_case}
use Rattle.wac_types_shapes.specs.declared.shapes.component.InterfaceId.{InterfaceId}
use Rattle.wac_types_shapes.specs.declared.shapes.component.ItemKind.{ItemKind}
use Rattle.wac_types_shapes.specs.declared.shapes.component.«Type».{«Type» as AnyType}
use Rattle.wac_types_shapes.specs.declared.shapes.component.«Type».TheVariants as ty
use Rattle.wac_types_collection.specs.collection.Collection.{Collection, item_at, size, kind_types, interface_exports, world_imports, world_exports}
use Rattle.wac_types_collection.specs.collection.Bound.{is_alias}
use Rattle.wac_types_weight.specs.Weight.{own, named_parts, is_scope, near_all}

-- The items of an interface or of a world, imports first.
abbrev pub items_of : Collection → AnyType → List (Name × ItemKind)
items_of c (ty.Interface i) = interface_exports c i
items_of c (ty.World w) = world_imports c w ++ world_exports c w
items_of c t = []

-- The types of these items.
abbrev pub item_types : Collection → AnyType → List AnyType
item_types c t = kind_types (items_of c t)

-- The items of an interface or of a world: 1 for each, and the bytes of its name.
abbrev pub entry_weight : Collection → AnyType → ℕ
entry_weight c t = named_parts (items_of c t)

-- The own weight of a type that is written near an item. Of a resource its name is not written, and of an alias nothing.
abbrev pub own_text : Collection → AnyType → ℕ
own_text c (ty.Resource r) = if is_alias c r then 0 else option_case (item_at c.resources r.0) 0 (λ x. 1)
own_text c t = own c t

abbrev pub own_texts : Collection → List AnyType → ℕ
own_texts c ts = sum_by (own_text c) ts

-- The weight of an interface or a world where it is written, n interfaces and worlds deep: 1, its items, what is near
-- their types, each once, and for each item that is an interface or a world, that one's weight. Another type is near.
abbrev pub scope_weight_to : ℕ → Collection → AnyType → ℕ
scope_weight_to zero c t = 0
scope_weight_to (suc n) c t = if is_scope t then 1 + entry_weight c t + (own_texts c (near_all c (item_types c t)) + sum_by (scope_weight_to n c) (item_types c t)) else 0

-- The weight of an interface or a world where it is written.
unfoldable pub scope_weight : Collection → AnyType → ℕ
scope_weight c t = scope_weight_to (suc (size c)) c t

-- The part of it that is inside: what is near the types of items, and the interfaces and worlds among them.
abbrev pub inner_weight : Collection → AnyType → ℕ
inner_weight c t = own_texts c (near_all c (item_types c t)) + sum_by (scope_weight c) (item_types c t)

-- Of an interface or a world where it is written, besides its items' names: these pay for aliases too. Others are near.
abbrev pub bare_weight : Collection → AnyType → ℕ
bare_weight c t = if is_scope t then 1 + inner_weight c t else 0

-- The weight of an interface that is imported in addition, with its types only: its id and its uses count.
abbrev pub types_weight : Collection → InterfaceId → ℕ
types_weight c i = own c (ty.Interface i) + inner_weight c (ty.Interface i)
