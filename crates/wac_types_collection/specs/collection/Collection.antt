-- A collection of types: lists of items, each of which mentions only items added before it. An id is an index.
use Rattle.std.specs.Prelude.{ℕ, ◌+◌, ◌<◌, ◌≡◌, List, [], ◌∷◌, ◌++◌, length, Option, Some, None, slice_get, Bool, true, nat_lt}
use Rattle.std.specs.List.{AllByRecursion, list_all}
use Rattle.wac_types_shapes.specs.primitives.Name.{Name, option_case}
use Rattle.wac_types_collection.specs.declared.collection.collection.Held.{Held}
use Rattle.wac_types_shapes.specs.declared.shapes.component.Resource.{Resource}
use Rattle.wac_types_shapes.specs.declared.shapes.component.ResourceId.{ResourceId}
use Rattle.wac_types_shapes.specs.declared.shapes.component.ResourceAlias.{ResourceAlias}
use Rattle.wac_types_shapes.specs.declared.shapes.component.FuncType.{FuncType}
use Rattle.wac_types_shapes.specs.declared.shapes.component.FuncTypeId.{FuncTypeId}
use Rattle.wac_types_shapes.specs.declared.shapes.component.DefinedType.{DefinedType}
use Rattle.wac_types_shapes.specs.declared.shapes.component.DefinedType.TheVariants as def
use Rattle.wac_types_shapes.specs.declared.shapes.component.DefinedTypeId.{DefinedTypeId}
use Rattle.wac_types_shapes.specs.declared.shapes.component.UsedType.{UsedType}
use Rattle.wac_types_shapes.specs.declared.shapes.component.Interface.{Interface}
use Rattle.wac_types_shapes.specs.declared.shapes.component.InterfaceId.{InterfaceId}
use Rattle.wac_types_shapes.specs.declared.shapes.component.World.{World}
use Rattle.wac_types_shapes.specs.declared.shapes.component.WorldId.{WorldId}
use Rattle.wac_types_shapes.specs.declared.shapes.component.ModuleTypeId.{ModuleTypeId}
use Rattle.wac_types_shapes.specs.declared.shapes.core_types.ModuleType.{ModuleType}
use Rattle.wac_types_shapes.specs.declared.shapes.component.ValueType.{ValueType}
use Rattle.wac_types_shapes.specs.declared.shapes.component.ValueType.TheVariants as val
use Rattle.wac_types_shapes.specs.declared.shapes.component.«Type».{«Type» as AnyType}
use Rattle.wac_types_shapes.specs.declared.shapes.component.«Type».TheVariants as ty
use Rattle.wac_types_shapes.specs.declared.shapes.component.ItemKind.{ItemKind}
use Rattle.wac_types_shapes.specs.shapes.Kinds.{kind_type}

-- The items of each sort, in the order in which they were added.
pub record Collection : Type 0 where
  pub resources : List (Held Resource)
  pub funcs : List (Held FuncType)
  pub defined : List (Held DefinedType)
  pub interfaces : List (Held Interface)
  pub worlds : List (Held World)
  pub modules : List (Held ModuleType)

-- The empty collection.
abbrev pub empty : Collection
empty = record { resources = []; funcs = []; defined = []; interfaces = []; worlds = []; modules = [] }

-- The number of items of all sorts.
abbrev pub size : Collection → ℕ
size c = length c.resources + length c.funcs + length c.defined + length c.interfaces + length c.worlds + length c.modules

-- The values of a list of named values.
abbrev pub seconds : {A : Type 0} → List (Name × A) → List A
seconds [] = []
seconds (e ∷ es) = e.1 ∷ seconds es

-- The value types, with an optional one before them.
abbrev pub and_maybe : Option ValueType → List ValueType → List ValueType
and_maybe None vs = vs
and_maybe (Some v) vs = v ∷ vs

-- The value types that a function type mentions.
abbrev pub func_values : FuncType → List ValueType
func_values f = and_maybe f.result (seconds f.params)

-- The value types that cases mention.
abbrev pub case_values : List (Name × Option ValueType) → List ValueType
case_values [] = []
case_values (e ∷ es) = and_maybe e.1 (case_values es)

-- The value types that a defined type mentions.
abbrev pub defined_values : DefinedType → List ValueType
defined_values (def.Tuple vs) = vs
defined_values (def.List v) = v ∷ []
defined_values (def.FixedSizeList v n) = v ∷ []
defined_values (def.Option v) = v ∷ []
defined_values (def.Result ok err) = and_maybe ok (and_maybe err [])
defined_values (def.Variant v) = case_values v.cases
defined_values (def.Record r) = seconds r.fields
defined_values (def.Flags names) = []
defined_values (def.Enum names) = []
defined_values (def.Alias v) = v ∷ []
defined_values (def.Stream v) = and_maybe v []
defined_values (def.Future v) = and_maybe v []

-- The interfaces from which types are used.
abbrev pub used_types : List (Name × UsedType) → List AnyType
used_types [] = []
used_types (e ∷ es) = ty.Interface e.1.interface ∷ used_types es

-- The types of items.
abbrev pub kind_types : List (Name × ItemKind) → List AnyType
kind_types [] = []
kind_types (e ∷ es) = kind_type e.1 ∷ kind_types es

-- The interface that owns a resource, if there is one.
abbrev pub owner_types : Option InterfaceId → List AnyType
owner_types None = []
owner_types (Some i) = ty.Interface i ∷ []

-- The types that an alias of a resource mentions.
abbrev pub alias_types : Option ResourceAlias → List AnyType
alias_types None = []
alias_types (Some a) = ty.Resource a.source ∷ owner_types a.owner

-- The types that a resource mentions.
abbrev pub resource_mentions : Resource → List AnyType
resource_mentions r = alias_types r.alias

-- Value types as types.
abbrev pub value_types : List ValueType → List AnyType
value_types [] = []
value_types (v ∷ vs) = ty.Value v ∷ value_types vs

-- The types that a function type mentions.
abbrev pub func_mentions : FuncType → List AnyType
func_mentions f = value_types (func_values f)

-- The types that a defined type mentions.
abbrev pub defined_mentions : DefinedType → List AnyType
defined_mentions d = value_types (defined_values d)

-- The types that an interface mentions.
abbrev pub interface_mentions : Interface → List AnyType
interface_mentions i = used_types i.uses ++ kind_types i.exports

-- The types that a world mentions.
abbrev pub world_mentions : World → List AnyType
world_mentions w = used_types w.uses ++ (kind_types w.imports ++ kind_types w.exports)

-- The value type is of the collection: each id in it is in range.
abbrev pub holds_value : Collection → ValueType → Bool
holds_value c (val.Primitive p) = true
holds_value c (val.Borrow r) = nat_lt r.0 (length c.resources)
holds_value c (val.Own r) = nat_lt r.0 (length c.resources)
holds_value c (val.Defined d) = nat_lt d.0 (length c.defined)

-- The type is of the collection: each id in it is in range.
abbrev pub holds_type : Collection → AnyType → Bool
holds_type c (ty.Resource r) = nat_lt r.0 (length c.resources)
holds_type c (ty.Func f) = nat_lt f.0 (length c.funcs)
holds_type c (ty.Value v) = holds_value c v
holds_type c (ty.Interface i) = nat_lt i.0 (length c.interfaces)
holds_type c (ty.World w) = nat_lt w.0 (length c.worlds)
holds_type c (ty.Module m) = nat_lt m.0 (length c.modules)

-- All these types are of the collection.
abbrev pub holds_all : Collection → List AnyType → Bool
holds_all c ts = list_all (holds_type c) ts

-- The collection with a resource added.
abbrev pub with_resource : Collection → Resource → Collection
with_resource c r = record c { resources = c.resources ++ record { item = r; before = size c } ∷ [] }

-- The collection with a function type added.
abbrev pub with_func : Collection → FuncType → Collection
with_func c f = record c { funcs = c.funcs ++ record { item = f; before = size c } ∷ [] }

-- The collection with a defined type added.
abbrev pub with_defined : Collection → DefinedType → Collection
with_defined c d = record c { defined = c.defined ++ record { item = d; before = size c } ∷ [] }

-- The collection with an interface added.
abbrev pub with_interface : Collection → Interface → Collection
with_interface c i = record c { interfaces = c.interfaces ++ record { item = i; before = size c } ∷ [] }

-- The collection with a world added.
abbrev pub with_world : Collection → World → Collection
with_world c w = record c { worlds = c.worlds ++ record { item = w; before = size c } ∷ [] }

-- The collection with the type of a core module added.
abbrev pub with_module : Collection → ModuleType → Collection
with_module c m = record c { modules = c.modules ++ record { item = m; before = size c } ∷ [] }

-- The resource is of the collection.
abbrev pub HasResource : Collection → ResourceId → Type 0
HasResource c id = id.0 < length c.resources

-- The function type is of the collection.
abbrev pub HasFunc : Collection → FuncTypeId → Type 0
HasFunc c id = id.0 < length c.funcs

-- The defined type is of the collection.
abbrev pub HasDefined : Collection → DefinedTypeId → Type 0
HasDefined c id = id.0 < length c.defined

-- The interface is of the collection.
abbrev pub HasInterface : Collection → InterfaceId → Type 0
HasInterface c id = id.0 < length c.interfaces

-- The world is of the collection.
abbrev pub HasWorld : Collection → WorldId → Type 0
HasWorld c id = id.0 < length c.worlds

-- The type of a core module is of the collection.
abbrev pub HasModule : Collection → ModuleTypeId → Type 0
HasModule c id = id.0 < length c.modules

-- The item without the number of items before it.
abbrev pub item_of : {A : Type 0} → Option (Held A) → Option A
item_of None = None
item_of (Some h) = Some h.item

-- The item at an index, if there is one.
abbrev pub item_at : {A : Type 0} → List (Held A) → ℕ → Option A
item_at xs i = item_of (slice_get xs i)

-- The exports of an interface.
abbrev pub interface_exports : Collection → InterfaceId → List (Name × ItemKind)
interface_exports c i = option_case (item_at c.interfaces i.0) [] (λ x. x.exports)

-- The imports of a world.
abbrev pub world_imports : Collection → WorldId → List (Name × ItemKind)
world_imports c w = option_case (item_at c.worlds w.0) [] (λ x. x.imports)

-- The exports of a world.
abbrev pub world_exports : Collection → WorldId → List (Name × ItemKind)
world_exports c w = option_case (item_at c.worlds w.0) [] (λ x. x.exports)

-- There is an item, and fewer than n items were added before it.
abbrev pub AddedBefore : {A : Type 0} → ℕ → Option (Held A) → Type 0
AddedBefore n None = ⊥
AddedBefore n (Some h) = h.before < n

-- The value type is of the collection, and each item that it names was added before the n-th.
abbrev pub IsValueBefore : Collection → ℕ → ValueType → Type 0
IsValueBefore c n (val.Primitive p) = Unit {0}
IsValueBefore c n (val.Borrow r) = AddedBefore n (slice_get c.resources r.0)
IsValueBefore c n (val.Own r) = AddedBefore n (slice_get c.resources r.0)
IsValueBefore c n (val.Defined d) = AddedBefore n (slice_get c.defined d.0)

-- The type is of the collection, and the item that it names was added before the n-th.
abbrev pub IsBefore : Collection → ℕ → AnyType → Type 0
IsBefore c n (ty.Resource r) = AddedBefore n (slice_get c.resources r.0)
IsBefore c n (ty.Func f) = AddedBefore n (slice_get c.funcs f.0)
IsBefore c n (ty.Value v) = IsValueBefore c n v
IsBefore c n (ty.Interface i) = AddedBefore n (slice_get c.interfaces i.0)
IsBefore c n (ty.World w) = AddedBefore n (slice_get c.worlds w.0)
IsBefore c n (ty.Module m) = AddedBefore n (slice_get c.modules m.0)

-- All these types were added before the n-th item.
abbrev pub AreBefore : Collection → ℕ → List AnyType → Type 0
AreBefore c n ts = AllByRecursion (IsBefore c n) ts

-- P holds of each item of a list.
abbrev pub Each : {A : Type 0} → List (Held A) → (Held A → Type 0) → Type 0
Each xs P = (i : ℕ) (h : Held _) → slice_get xs i ≡ Some h → P h

-- An alias has a source with a lower index.
abbrev pub IsSourceBelow : ℕ → Option ResourceAlias → Type 0
IsSourceBelow i None = Unit {0}
IsSourceBelow i (Some a) = a.source.0 < i

-- A defined type has a lower index.
abbrev pub IsPartBelow : ℕ → ValueType → Type 0
IsPartBelow i (val.Defined d) = d.0 < i
IsPartBelow i v = Unit {0}

-- Each item of the first collection is an item of the second, with the same id.
pub record IsKeptBy (c d : Collection) : Type 0 where
  pub resources : (i : ℕ) (h : Held Resource) → slice_get c.resources i ≡ Some h → slice_get d.resources i ≡ Some h
  pub funcs : (i : ℕ) (h : Held FuncType) → slice_get c.funcs i ≡ Some h → slice_get d.funcs i ≡ Some h
  pub defined : (i : ℕ) (h : Held DefinedType) → slice_get c.defined i ≡ Some h → slice_get d.defined i ≡ Some h
  pub interfaces : (i : ℕ) (h : Held Interface) → slice_get c.interfaces i ≡ Some h → slice_get d.interfaces i ≡ Some h
  pub worlds : (i : ℕ) (h : Held World) → slice_get c.worlds i ≡ Some h → slice_get d.worlds i ≡ Some h
  pub modules : (i : ℕ) (h : Held ModuleType) → slice_get c.modules i ≡ Some h → slice_get d.modules i ≡ Some h

-- Each item mentions only items added before it.
pub record IsWellFormed (c : Collection) : Type 0 where
  pub resources : Each c.resources (λ h. (h.before < size c) × AreBefore c h.before (resource_mentions h.item))
  pub funcs : Each c.funcs (λ h. (h.before < size c) × AreBefore c h.before (func_mentions h.item))
  pub defined : Each c.defined (λ h. (h.before < size c) × AreBefore c h.before (defined_mentions h.item))
  pub interfaces : Each c.interfaces (λ h. (h.before < size c) × AreBefore c h.before (interface_mentions h.item))
  pub worlds : Each c.worlds (λ h. (h.before < size c) × AreBefore c h.before (world_mentions h.item))
  pub modules : Each c.modules (λ h. h.before < size c)
  pub sources : (i : ℕ) (h : Held Resource) → slice_get c.resources i ≡ Some h → IsSourceBelow i h.item.alias
  pub parts : (i : ℕ) (h : Held DefinedType) → slice_get c.defined i ≡ Some h → AllByRecursion (IsPartBelow i) (defined_values h.item)
