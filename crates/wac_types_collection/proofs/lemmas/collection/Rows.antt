-- Worked examples of what is refused and of aliases, each decided by computing.
use Rattle.std.specs.Prelude.{ℕ, ◌≡◌, List, [], ◌∷◌, Option, Some, None, refl}
use Rattle.wac_types_shapes.specs.primitives.Name.{Name}
use Rattle.wac_types_collection.specs.collection.Collection.{Collection}
use Rattle.wac_types_collection.specs.collection.Held.{resolved}
use Rattle.wac_types_collection.specs.collection.Aliases.{value_resolved}
use Rattle.wac_types_collection.specs.collection.Uses.{interface_fault}
use Rattle.wac_types_collection.specs.collection.Package.{package_fault}
use Rattle.wac_types_collection.specs.declared.collection.collection.Held.{Held}
use Rattle.wac_types_collection.specs.declared.collection.collection.AddTypeError.TheVariants.{NotHeld, UsedInterfaceUnnamed, UsedTypeMissing, UsedTypeDiffers, ResourceMisnamed}
use Rattle.wac_types_shapes.specs.declared.primitives.component.PrimitiveType.TheVariants as prim
use Rattle.wac_types_shapes.specs.declared.shapes.component.ValueType.{ValueType}
use Rattle.wac_types_shapes.specs.declared.shapes.component.ValueType.TheVariants as val
use Rattle.wac_types_shapes.specs.declared.shapes.component.DefinedType.{DefinedType}
use Rattle.wac_types_shapes.specs.declared.shapes.component.DefinedType.TheVariants as def
use Rattle.wac_types_shapes.specs.declared.shapes.component.Resource.{Resource}
use Rattle.wac_types_shapes.specs.declared.shapes.component.Interface.{Interface}
use Rattle.wac_types_shapes.specs.declared.shapes.component.UsedType.{UsedType}
use Rattle.wac_types_shapes.specs.declared.shapes.component.ItemKind.{ItemKind}
use Rattle.wac_types_shapes.specs.declared.shapes.component.ItemKind.TheVariants as kind
use Rattle.wac_types_shapes.specs.declared.shapes.component.«Type».TheVariants as ty

abbrev t : Name
t = 116 ∷ []

abbrev r : Name
r = 114 ∷ []

abbrev s : Name
s = 115 ∷ []

abbrev held : {A : Type 0} → A → Held A
held x = record { item = x; before = 0 }

abbrev alias_of : ValueType → Held DefinedType
alias_of v = held (def.Alias v)

abbrev defined : ℕ → ValueType
defined n = val.Defined (record { 0 = n })

abbrev type_item : ValueType → ItemKind
type_item v = kind.TypeItem (ty.Value v)

abbrev resource_item : ℕ → ItemKind
resource_item n = kind.TypeItem (ty.Resource (record { 0 = n }))

abbrev of_source : ℕ → Held Resource
of_source n = held (record { name = r; alias = Some (record { owner = None; source = record { 0 = n } }) })

abbrev interface : Option Name → List (Name × UsedType) → List (Name × ItemKind) → Interface
interface id uses exports = record { id = id; uses = uses; exports = exports }

abbrev used_of : ℕ → Option Name → UsedType
used_of i name = record { interface = record { 0 = i }; name = name }

-- definition 0 lists of bool, 1 another list of bool, 2 an alias of 0, 3 an alias of 2, 4 an alias of bool; resources 0 `r`, 1 and 2 its aliases;
-- interface 0 has no id and 1 has one, and both list definition 0 as `t`
abbrev collection : Collection
collection = record {
  resources = held (record { name = r; alias = None }) ∷ of_source 0 ∷ of_source 1 ∷ [];
  funcs = [];
  defined = held (def.List (val.Primitive prim.Bool)) ∷ held (def.List (val.Primitive prim.Bool)) ∷ alias_of (defined 0) ∷ alias_of (defined 2) ∷ alias_of (val.Primitive prim.Bool) ∷ [];
  interfaces = held (interface None [] ((t, type_item (defined 0)) ∷ [])) ∷ held (interface (Some (1 ∷ [])) [] ((t, type_item (defined 0)) ∷ [])) ∷ [];
  worlds = held (record { id = None; uses = []; imports = []; exports = (s, resource_item 0) ∷ [] }) ∷ held (record { id = None; uses = []; imports = []; exports = (r, resource_item 0) ∷ [] }) ∷ [];
  modules = [];
}

-- an export that is not held
pub foreign_id : interface_fault collection (interface None [] ((t, type_item (defined 5)) ∷ [])) ≡ Some NotHeld
foreign_id = refl

-- a type of an interface that has no id
pub unnamed : interface_fault collection (interface None ((t, used_of 0 None) ∷ []) []) ≡ Some UsedInterfaceUnnamed
unnamed = refl

-- one that the interface does not list, under its own name and under another
pub missing : interface_fault collection (interface None ((s, used_of 1 None) ∷ []) []) ≡ Some UsedTypeMissing
missing = refl

pub missing_there : interface_fault collection (interface None ((t, used_of 1 (Some s)) ∷ []) []) ≡ Some UsedTypeMissing
missing_there = refl

pub there_under_another_name : interface_fault collection (interface None ((s, used_of 1 (Some t)) ∷ []) []) ≡ None
there_under_another_name = refl

-- listed under its name: another type, though its equal; itself; an alias of it
pub differs : interface_fault collection (interface None ((t, used_of 1 None) ∷ []) ((t, type_item (defined 1)) ∷ [])) ≡ Some UsedTypeDiffers
differs = refl

pub itself : interface_fault collection (interface None ((t, used_of 1 None) ∷ []) ((t, type_item (defined 0)) ∷ [])) ≡ None
itself = refl

pub its_alias : interface_fault collection (interface None ((t, used_of 1 None) ∷ []) ((t, type_item (defined 3)) ∷ [])) ≡ None
its_alias = refl

-- a resource under another name than its own; under its own; an alias of it under any
pub misnamed : interface_fault collection (interface None [] ((s, resource_item 0) ∷ [])) ≡ Some ResourceMisnamed
misnamed = refl

pub named_right : interface_fault collection (interface None [] ((r, resource_item 0) ∷ [])) ≡ None
named_right = refl

pub alias_named : interface_fault collection (interface None [] ((s, resource_item 1) ∷ [])) ≡ None
alias_named = refl

-- of several causes the lowest
pub lowest : interface_fault collection (interface None ((t, used_of 0 None) ∷ (s, used_of 1 None) ∷ []) ((s, resource_item 0) ∷ [])) ≡ Some UsedInterfaceUnnamed
lowest = refl

-- a world whose instances would list a resource under another name
pub package_misnamed : package_fault collection (record { 0 = 0 }) ≡ Some ResourceMisnamed
package_misnamed = refl

pub package_named_right : package_fault collection (record { 0 = 1 }) ≡ None
package_named_right = refl

-- ends of aliases
pub end_of_value_aliases : value_resolved collection (defined 3) ≡ defined 0
end_of_value_aliases = refl

pub end_of_primitive_alias : value_resolved collection (defined 4) ≡ val.Primitive prim.Bool
end_of_primitive_alias = refl

pub end_of_resource_aliases : resolved collection (record { 0 = 2 }) ≡ record { 0 = 0 }
end_of_resource_aliases = refl
