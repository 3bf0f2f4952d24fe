-- Types that an interface or a world uses from other interfaces, and why one is not added.
use Rattle.std.specs.Prelude.{ℕ, ◌≡◌, ◌==◌, ◌&&◌, ◌||◌, Bool, true, false, if◌then◌else◌, List, Option, Some, None, is_some, Result, Ok, Err}
use Rattle.std.specs.List.{list_all}
use Rattle.wac_types_shapes.specs.primitives.Name.{Name, same_name, find_name, option_case, first_some}
use Rattle.wac_types_collection.specs.collection.Collection.{Collection, Each, holds_all, item_at, interface_exports, interface_mentions, world_mentions}
use Rattle.wac_types_collection.specs.collection.Bound.{is_alias}
use Rattle.wac_types_collection.specs.collection.Aliases.{type_resolved}
use Rattle.wac_types_collection.specs.declared.collection.collection.AddTypeError.{AddTypeError}
use Rattle.wac_types_collection.specs.declared.collection.collection.AddTypeError.TheVariants as fault
use Rattle.wac_types_shapes.specs.declared.primitives.component.PrimitiveType.{PrimitiveType}
use Rattle.wac_types_shapes.specs.declared.primitives.component.PrimitiveType.TheVariants as prim
use Rattle.wac_types_shapes.specs.declared.shapes.component.ValueType.{ValueType}
use Rattle.wac_types_shapes.specs.declared.shapes.component.ValueType.TheVariants as val
use Rattle.wac_types_shapes.specs.declared.shapes.component.«Type».{«Type» as AnyType}
use Rattle.wac_types_shapes.specs.declared.shapes.component.«Type».TheVariants as ty
use Rattle.wac_types_shapes.specs.declared.shapes.component.ItemKind.{ItemKind}
use Rattle.wac_types_shapes.specs.declared.shapes.component.ItemKind.TheVariants as kind
use Rattle.wac_types_shapes.specs.declared.shapes.component.UsedType.{UsedType}
use Rattle.wac_types_shapes.specs.declared.shapes.component.Interface.{Interface}
use Rattle.wac_types_shapes.specs.declared.shapes.component.World.{World}

-- The number of a primitive type, in the order of their declaration.
abbrev pub primitive_number : PrimitiveType → ℕ
primitive_number prim.Bool = 0
primitive_number prim.S8 = 1
primitive_number prim.U8 = 2
primitive_number prim.S16 = 3
primitive_number prim.U16 = 4
primitive_number prim.S32 = 5
primitive_number prim.U32 = 6
primitive_number prim.S64 = 7
primitive_number prim.U64 = 8
primitive_number prim.F32 = 9
primitive_number prim.F64 = 10
primitive_number prim.Char = 11
primitive_number prim.String = 12
primitive_number prim.ErrorContext = 13

-- Two value types have the same sort and the same id.
abbrev pub same_value : ValueType → ValueType → Bool
same_value (val.Primitive p) (val.Primitive q) = primitive_number p == primitive_number q
same_value (val.Borrow r) (val.Borrow q) = r.0 == q.0
same_value (val.Own r) (val.Own q) = r.0 == q.0
same_value (val.Defined d) (val.Defined e) = d.0 == e.0
same_value _ _ = false

-- Two types have the same sort and the same id.
abbrev pub same_type : AnyType → AnyType → Bool
same_type (ty.Resource r) (ty.Resource q) = r.0 == q.0
same_type (ty.Func f) (ty.Func g) = f.0 == g.0
same_type (ty.Value v) (ty.Value w) = same_value v w
same_type (ty.Interface i) (ty.Interface j) = i.0 == j.0
same_type (ty.World v) (ty.World w) = v.0 == w.0
same_type (ty.Module m) (ty.Module n) = m.0 == n.0
same_type _ _ = false

-- Two items have the same kind and the same id.
abbrev pub same_item : ItemKind → ItemKind → Bool
same_item (kind.TypeItem s) (kind.TypeItem t) = same_type s t
same_item (kind.Func f) (kind.Func g) = f.0 == g.0
same_item (kind.Instance i) (kind.Instance j) = i.0 == j.0
same_item (kind.Component v) (kind.Component w) = v.0 == w.0
same_item (kind.Module m) (kind.Module n) = m.0 == n.0
same_item (kind.Value v) (kind.Value w) = same_value v w
same_item _ _ = false

-- The name of a used type in its interface.
abbrev pub name_there : Name → UsedType → Name
name_there n u = option_case u.name n (λ m. m)

-- The item that the interface of a used type exports under that name.
abbrev pub used_item : Collection → Name → UsedType → Option ItemKind
used_item c n u = find_name (interface_exports c u.interface) (name_there n u)

-- The interface that a type is used from has an id.
abbrev pub is_used_by_id : Collection → UsedType → Bool
is_used_by_id c u = option_case (item_at c.interfaces u.interface.0) false (λ i. is_some i.id)

-- The item is a type item.
abbrev pub is_type_item : ItemKind → Bool
is_type_item (kind.TypeItem t) = true
is_type_item k = false

-- The interface that a type is used from exports it as a type.
abbrev pub is_there : Collection → Name × UsedType → Bool
is_there c e = option_case (used_item c e.0 e.1) false is_type_item

-- Both are type items of the same type, once aliases are resolved.
abbrev pub same_type_item : Collection → ItemKind → ItemKind → Bool
same_type_item c (kind.TypeItem a) (kind.TypeItem b) = same_type (type_resolved c a) (type_resolved c b)
same_type_item c _ _ = false

-- The item under the name of a used type, if there is one, is the used type.
abbrev pub is_listed_as_used : Collection → List (Name × ItemKind) → Name × UsedType → Bool
is_listed_as_used c listed e =
    option_case (find_name listed e.0) true (λ k. option_case (used_item c e.0 e.1) false (λ used. same_type_item c k used))

-- The resource has this name.
abbrev pub has_name : Collection → ℕ → Name → Bool
has_name c r n = option_case (item_at c.resources r) false (λ q. same_name q.name n)

-- A resource has its own name here, unless it is an alias or a used type.
abbrev pub is_named_right : Collection → List (Name × UsedType) → Name × ItemKind → Bool
is_named_right c uses (n, kind.TypeItem (ty.Resource r)) = is_alias c r || (is_some (find_name uses n) || has_name c r.0 n)
is_named_right c uses e = true

-- All used types come from interfaces with an id.
abbrev pub used_by_id : Collection → List (Name × UsedType) → Bool
used_by_id c uses = list_all (λ e. is_used_by_id c e.1) uses

-- All used types are exported as types.
abbrev pub are_there : Collection → List (Name × UsedType) → Bool
are_there c uses = list_all (is_there c) uses

-- All items under names of used types are the used types.
abbrev pub listed_as_used : Collection → List (Name × UsedType) → List (Name × ItemKind) → Bool
listed_as_used c uses listed = list_all (is_listed_as_used c listed) uses

-- All resources have their own names, unless they are aliases or used types.
abbrev pub named_right : Collection → List (Name × UsedType) → List (Name × ItemKind) → Bool
named_right c uses listed = list_all (is_named_right c uses) listed

-- A fault, if the test fails.
abbrev pub unless : Bool → AddTypeError → Option AddTypeError
unless b e = if b then None else Some e

-- The fault of an item that mentions these types.
abbrev pub mention_fault : Collection → List AnyType → Option AddTypeError
mention_fault c mentions = unless (holds_all c mentions) fault.NotHeld

-- The first fault of these uses, with the items that have their names.
abbrev pub uses_fault : Collection → List (Name × UsedType) → List (Name × ItemKind) → Option AddTypeError
uses_fault c uses listed =
    first_some (unless (used_by_id c uses) fault.UsedInterfaceUnnamed)
    (first_some (unless (are_there c uses) fault.UsedTypeMissing)
    (unless (listed_as_used c uses listed) fault.UsedTypeDiffers))

-- The first fault of an interface. Its exports are compared with its uses.
abbrev pub interface_fault : Collection → Interface → Option AddTypeError
interface_fault c i =
    first_some (mention_fault c (interface_mentions i))
    (first_some (uses_fault c i.uses i.exports)
    (unless (named_right c i.uses i.exports) fault.ResourceMisnamed))

-- The first fault of a world. Its imports are compared with its uses.
abbrev pub world_fault : Collection → World → Option AddTypeError
world_fault c w =
    first_some (mention_fault c (world_mentions w))
    (first_some (uses_fault c w.uses w.imports)
    (unless (named_right c w.uses w.imports && named_right c w.uses w.exports) fault.ResourceMisnamed))

-- The result of adding an item with this fault, if it has one. Without a fault it is an id, or out of memory.
abbrev pub AnswersBy : {Id : Type 0} → Option AddTypeError → Result Id AddTypeError → Type 0
AnswersBy stands (Ok id) = stands ≡ None
AnswersBy stands (Err fault.OutOfMemory) = stands ≡ None
AnswersBy stands (Err e) = stands ≡ Some e

-- No interface and no world of the collection has a fault.
pub record IsSound (c : Collection) : Type 0 where
  pub interfaces : Each c.interfaces (λ h. interface_fault c h.item ≡ None)
  pub worlds : Each c.worlds (λ h. world_fault c h.item ≡ None)
