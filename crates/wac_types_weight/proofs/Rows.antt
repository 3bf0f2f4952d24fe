-- Worked examples of weights, each decided by computing.
use Rattle.std.specs.Prelude.{ℕ, zero, suc, ◌+◌, ◌≡◌, false, List, [], ◌∷◌, Some, None, refl}
use Rattle.wac_types_shapes.specs.primitives.Name.{Name}
use Rattle.wac_types_shapes.specs.declared.primitives.component.PrimitiveType.TheVariants as prim
use Rattle.wac_types_shapes.specs.declared.shapes.component.DefinedType.{DefinedType}
use Rattle.wac_types_shapes.specs.declared.shapes.component.DefinedType.TheVariants as def
use Rattle.wac_types_shapes.specs.declared.shapes.component.FuncType.{FuncType}
use Rattle.wac_types_shapes.specs.declared.shapes.component.ItemKind.{ItemKind}
use Rattle.wac_types_shapes.specs.declared.shapes.component.ItemKind.TheVariants as kind
use Rattle.wac_types_shapes.specs.declared.shapes.component.ValueType.{ValueType}
use Rattle.wac_types_shapes.specs.declared.shapes.component.ValueType.TheVariants as val
use Rattle.wac_types_shapes.specs.declared.shapes.component.«Type».{«Type» as AnyType}
use Rattle.wac_types_shapes.specs.declared.shapes.component.«Type».TheVariants as ty
use Rattle.wac_types_shapes.specs.declared.shapes.core_types.CoreExtern.TheVariants as core
use Rattle.wac_types_shapes.specs.declared.shapes.core_types.ModuleType.{ModuleType}
use Rattle.wac_types_shapes.specs.declared.primitives.core_types.CoreType.TheVariants.{I32}
use Rattle.wac_types_collection.specs.declared.collection.collection.Held.{Held}
use Rattle.wac_types_collection.specs.collection.Collection.{Collection}
use Rattle.wac_types_weight.specs.Weight.{near_all, weight}
use Rattle.wac_types_weight.specs.Text.{scope_weight, types_weight}

abbrev a : Name
a = 97 ∷ []

abbrev b : Name
b = 98 ∷ []

abbrev bb : Name
bb = 98 ∷ 98 ∷ []

abbrev held : {A : Type 0} → A → Held A
held x = record { item = x; before = 0 }

abbrev defined : ℕ → ValueType
defined n = val.Defined (record { 0 = n })

abbrev function : ℕ → ItemKind
function n = kind.Func (record { 0 = n })

abbrev instance : ℕ → ItemKind
instance n = kind.Instance (record { 0 = n })

-- a function of two handles, and a function that results in the enum
abbrev of_handles : FuncType
of_handles = record { params = (a, val.Own (record { 0 = 0 })) ∷ (b, val.Borrow (record { 0 = 0 })) ∷ []; result = None; is_async = false }

abbrev of_enum : FuncType
of_enum = record { params = []; result = Some (defined 0); is_async = false }

abbrev core_function : ModuleType
core_function = record { imports = ((a, bb), core.Func (record { params = I32 ∷ []; results = [] })) ∷ []; exports = (a, core.Func (record { params = I32 ∷ []; results = I32 ∷ [] })) ∷ [] }

-- Resources 0 `bb` and 1 `a`, its alias that interface 0 owns. Interface 0 lists resource 0, interface 1 two functions of
-- one enum, interface 2 two instances of interface 0. Interface 3 `bb` uses the resource under the name `a`.
abbrev collection : Collection
collection = record {
  resources = held (record { name = bb; alias = None }) ∷ held (record { name = a; alias = Some (record { owner = Some (record { 0 = 0 }); source = record { 0 = 0 } }) }) ∷ [];
  funcs = held of_handles ∷ held of_enum ∷ held of_enum ∷ [];
  defined = held (def.Enum (record { 0 = a ∷ b ∷ [] })) ∷ [];
  interfaces = held (record { id = None; uses = []; exports = (bb, kind.TypeItem (ty.Resource (record { 0 = 0 }))) ∷ [] })
      ∷ held (record { id = None; uses = []; exports = (a, function 1) ∷ (b, function 2) ∷ [] })
      ∷ held (record { id = None; uses = []; exports = (a, instance 0) ∷ (b, instance 0) ∷ [] })
      ∷ held (record { id = Some bb; uses = (a, record { interface = record { 0 = 0 }; name = Some bb }) ∷ []; exports = [] })
      ∷ [];
  worlds = [];
  modules = held core_function ∷ [];
}

abbrev interface : ℕ → AnyType
interface n = ty.Interface (record { 0 = n })

-- a resource has 1 and its name, once for both handles; the function has 1, and 1 and a name for each parameter
pub handles_once : weight collection (ty.Func (record { 0 = 0 })) ≡ 5 + 3
unfolding weight near_all
handles_once = refl

-- an interface has 1, and 1 and a name for each export; the two functions have 1 each, the enum 1 and 2 for each label
pub enum_once : weight collection (interface 1) ≡ 5 + 1 + 1 + 5
unfolding weight near_all
enum_once = refl

-- an interface that lists a resource, and one that lists that interface twice
pub lists_resource : weight collection (interface 0) ≡ 4 + 3
unfolding weight near_all
lists_resource = refl

pub lists_twice : weight collection (interface 2) ≡ 5 + 7 + 7
unfolding weight near_all
lists_twice = refl

-- an alias of a resource: its own, that of the resource, and the interface that owns the alias
pub alias_with_owner : weight collection (ty.Resource (record { 0 = 1 })) ≡ 2 + 3 + 7
unfolding weight near_all
alias_with_owner = refl

-- an interface with an id that uses a type under another name, and the interface that it is used from
pub used_type : weight collection (interface 3) ≡ 1 + 2 + (2 + 2) + 7
unfolding weight near_all
used_type = refl

-- a module has 1, and for each item 1, its names and its core value types
pub core_items : weight collection (ty.Module (record { 0 = 0 })) ≡ 1 + (1 + 1 + 2 + 1) + (1 + 1 + 2)
unfolding weight near_all
core_items = refl

-- a primitive type and a handle have no weight of their own
pub primitive_type : weight collection (ty.Value (val.Primitive prim.Bool)) ≡ 0
unfolding weight near_all
primitive_type = refl

pub handle : weight collection (ty.Value (val.Own (record { 0 = 0 }))) ≡ 3
unfolding weight near_all
handle = refl

-- where an interface is written neither its id nor its uses count, and of a resource only 1
pub written_resource : scope_weight collection (interface 0) ≡ 4 + 1
unfolding scope_weight near_all
written_resource = refl

pub written_twice : scope_weight collection (interface 2) ≡ 5 + 5 + 5
unfolding scope_weight near_all
written_twice = refl

pub written_user : scope_weight collection (interface 3) ≡ 1
unfolding scope_weight near_all
written_user = refl

pub types_of_user : types_weight collection (record { 0 = 3 }) ≡ 1 + 2 + (2 + 2)
unfolding scope_weight near_all
types_of_user = refl

-- forty tuples, each of the one before twice, and a function over the last
tuple_of : ValueType → Held DefinedType
tuple_of v = held (def.Tuple (v ∷ v ∷ []))

tuples : ℕ → ℕ → List (Held DefinedType)
tuples zero i = []
tuples (suc n) i = tuple_of (defined i) ∷ tuples n (suc i)

pub t40 : Collection
t40 = record {
  resources = [];
  funcs = held (record { params = (a, defined 39) ∷ []; result = None; is_async = false }) ∷ [];
  defined = tuple_of (val.Primitive prim.Bool) ∷ tuples 39 0;
  interfaces = [];
  worlds = [];
  modules = [];
}

-- each tuple counts 3, once
pub forty_tuples : weight t40 (ty.Func (record { 0 = 0 })) ≡ 123
unfolding weight near_all t40 tuples tuple_of
forty_tuples = refl
