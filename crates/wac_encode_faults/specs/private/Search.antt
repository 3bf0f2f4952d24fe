-- How faults are found; private functions alone cite this.
use Rattle.std.specs.Prelude.{◌≡◌, ◌⊎◌, IsSome, Bool, true, false, nat_lt, cond, List, [], ◌∷◌, ◌++◌, Option, Some, None, Contains}
use Rattle.std.specs.List.{flat_map}
use Rattle.wac_types_shapes.specs.primitives.Name.{Name, find_name, option_case}
use Rattle.wac_types_shapes.specs.shapes.Kinds.{kind_type}
use Rattle.wac_types_shapes.specs.declared.shapes.component.InterfaceId.{InterfaceId}
use Rattle.wac_types_shapes.specs.declared.shapes.component.ItemKind.{ItemKind}
use Rattle.wac_types_shapes.specs.declared.shapes.component.UsedType.{UsedType}
use Rattle.wac_types_shapes.specs.declared.shapes.component.«Type».{«Type» as AnyType}
use Rattle.wac_types_shapes.specs.declared.shapes.component.«Type».TheVariants as ty
use Rattle.wac_types_collection.specs.collection.Collection.{Collection, item_at, holds_type, interface_exports, world_imports, world_exports}
use Rattle.wac_encode_faults.specs.declared.fault.WriteFault.{WriteFault}
use Rattle.wac_encode_faults.specs.Sides.{Sides, under_id}
use Rattle.wac_encode_faults.specs.Faults.{fault_rank}

-- The lower of two optional faults.
abbrev pub lower_of : Option WriteFault → Option WriteFault → Option WriteFault
lower_of None second = second
lower_of (Some one) None = Some one
lower_of (Some one) (Some other) = cond (nat_lt (fault_rank other) (fault_rank one)) (Some other) (Some one)

-- The type is an interface or a world.
abbrev pub is_scope : AnyType → Bool
is_scope (ty.Interface i) = true
is_scope (ty.World w) = true
is_scope (ty.Resource r) = false
is_scope (ty.Func f) = false
is_scope (ty.Value v) = false
is_scope (ty.Module m) = false

-- The type itself, if it is an interface or a world.
abbrev pub scope_of : AnyType → List AnyType
scope_of (ty.Interface i) = ty.Interface i ∷ []
scope_of (ty.World w) = ty.World w ∷ []
scope_of (ty.Resource r) = []
scope_of (ty.Func f) = []
scope_of (ty.Value v) = []
scope_of (ty.Module m) = []

-- The interfaces and worlds of items.
abbrev pub scopes_of : List (Name × ItemKind) → List AnyType
scopes_of [] = []
scopes_of (e ∷ es) = scope_of (kind_type e.1) ++ scopes_of es

-- The interfaces and worlds of a type's imports and exports.
abbrev pub inner_scopes : Collection → AnyType → List AnyType
inner_scopes c (ty.Interface i) = scopes_of (interface_exports c i)
inner_scopes c (ty.World w) = scopes_of (world_imports c w) ++ scopes_of (world_exports c w)
inner_scopes c (ty.Resource r) = []
inner_scopes c (ty.Func f) = []
inner_scopes c (ty.Value v) = []
inner_scopes c (ty.Module m) = []

-- The types of the items are of the collection.
abbrev pub AreHeld : Collection → List (Name × ItemKind) → Type 0
AreHeld c items = (e : Name × ItemKind) → Contains items e → holds_type c (kind_type e.1) ≡ true

-- The interface has this id.
abbrev pub IsIdOf : Collection → Name → InterfaceId → Type 0
IsIdOf c name i = option_case (item_at c.interfaces i.0) None (λ it. it.id) ≡ Some name

-- One of the types is used from an interface that is not among these.
abbrev pub UsesOther : List InterfaceId → List (Name × UsedType) → Type 0
UsesOther listed uses = (n : Name) × (u : UsedType) × Contains uses (n, u) × (Contains listed u.interface → ⊥)

-- One of the interfaces is not among these.
abbrev pub HasOther : List InterfaceId → List InterfaceId → Type 0
HasOther listed is = (i : InterfaceId) × Contains is i × (Contains listed i → ⊥)

-- The interface under its id.
abbrev pub named : Collection → InterfaceId → List (Name × InterfaceId)
named c i = option_case (item_at c.interfaces i.0) [] (λ it. option_case it.id [] (λ id. (id, i) ∷ []))

-- The interface has the name of an import or of another interface.
abbrev pub IsNamedAgain : Collection → List (Name × ItemKind) → List (Name × InterfaceId) → InterfaceId → Type 0
IsNamedAgain c imports names i = (n : Name) × IsIdOf c n i × (IsSome (find_name imports n) ⊎ IsSome (find_name names n))

-- No import has the name of the interface.
abbrev pub IsNoImport : Collection → List (Name × ItemKind) → InterfaceId → Type 0
IsNoImport c imports i = (n : Name) → IsIdOf c n i → find_name imports n ≡ None

-- The sides of a component type with these imports, and these interfaces as additional imports.
abbrev pub sides_of : Collection → List (Name × ItemKind) → List InterfaceId → Sides
sides_of c imports is = record { imports = imports; additional = flat_map (under_id c) is; exports = []; uses = [] }
