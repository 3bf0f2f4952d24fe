-- Worked examples: what interfaces use widely, sides of component types, and items that cannot be written.
use Rattle.std.specs.Prelude.{false}
use Rattle.std.proofs.Common.{◌≡◌, ◌⊎◌, inl, inr, ℕ, zero, suc, lit<, ap, arith, List, [], ◌∷◌, Option, Some, None, Contains, refl}
use Rattle.wac_types_shapes.specs.primitives.Name.{Name}
use Rattle.wac_types_shapes.specs.primitives.Tree.{imported, exported, Leaf, named}
use Rattle.wac_types_shapes.specs.declared.shapes.component.ResourceId.{ResourceId}
use Rattle.wac_types_shapes.specs.declared.shapes.component.FuncType.{FuncType}
use Rattle.wac_types_shapes.specs.declared.shapes.component.FuncTypeId.{FuncTypeId}
use Rattle.wac_types_shapes.specs.declared.shapes.component.Interface.{Interface}
use Rattle.wac_types_shapes.specs.declared.shapes.component.InterfaceId.{InterfaceId}
use Rattle.wac_types_shapes.specs.declared.shapes.component.World.{World}
use Rattle.wac_types_shapes.specs.declared.shapes.component.WorldId.{WorldId}
use Rattle.wac_types_shapes.specs.declared.shapes.component.UsedType.{UsedType}
use Rattle.wac_types_shapes.specs.declared.shapes.component.ItemKind.{ItemKind}
use Rattle.wac_types_shapes.specs.declared.shapes.component.ItemKind.TheVariants as kind
use Rattle.wac_types_shapes.specs.declared.shapes.component.ValueType.{ValueType}
use Rattle.wac_types_shapes.specs.declared.shapes.component.ValueType.TheVariants as val
use Rattle.wac_types_shapes.specs.declared.shapes.component.«Type».TheVariants as ty
use Rattle.wac_types_collection.specs.declared.collection.collection.Held.{Held}
use Rattle.wac_types_collection.specs.collection.Collection.{Collection, empty}
use Rattle.wac_types_collection.specs.collection.Held.{resolved}
use Rattle.wac_encode_faults.specs.declared.fault.WriteFault.{WriteFault}
use Rattle.wac_encode_faults.specs.declared.fault.WriteFault.TheVariants as fault
use Rattle.wac_encode_faults.specs.declared.faults.Role.TheVariants as role
use Rattle.wac_types_collection.specs.wide.Wide.{UsesWidely, by_itself, by_instance, wide_uses, each_once}
use Rattle.wac_encode_faults.specs.Sides.{world_sides, interface_sides, completed_sides, unlisted, listed_interfaces}
use Rattle.wac_encode_faults.specs.Free.{parts, IsFree, SideItem, of_import, of_export, HasUnboundItem}
use Rattle.wac_encode_faults.specs.Free as free
use Rattle.wac_encode_faults.specs.Cycle.{ItemDependsOn, by_resource, one, more, HasItemCycle}
use Rattle.wac_encode_faults.specs.Faults.{HasUnlisted, by_world, by_import, by_export, IsWorldFault, HasFault}
use Rattle.wac_encode_faults.specs.Faults as faults

abbrev held : {A : Type 0} → A → Held A
held a = record { item = a; before = 0 }

abbrev r : Name
r = 114 ∷ []

abbrev k : Name
k = 107 ∷ []

abbrev i : Name
i = 105 ∷ []

abbrev j : Name
j = 106 ∷ []

abbrev f : Name
f = 102 ∷ []

abbrev res : ℕ → ResourceId
res n = record { 0 = n }

abbrev iface : ℕ → InterfaceId
iface n = record { 0 = n }

abbrev fn : ℕ → FuncTypeId
fn n = record { 0 = n }

abbrev use_of : ℕ → UsedType
use_of n = record { interface = iface n; name = None }

abbrev interface : Option Name → List (Name × UsedType) → List (Name × ItemKind) → Interface
interface id uses exports = record { id = id; uses = uses; exports = exports }

abbrev over : ValueType → Held FuncType
over v = held (record { params = (120 ∷ [], v) ∷ []; result = None; is_async = false })

-- ---- k has the resource r; an interface without id uses r and has f over own r; i lists an instance of that
abbrev k_interface : Interface
k_interface = interface (Some k) [] ((r, kind.TypeItem (ty.Resource (res 0))) ∷ [])

abbrev inner : Interface
inner = interface None ((r, use_of 0) ∷ []) ((f, kind.Func (fn 0)) ∷ [])

abbrev outer : Interface
outer = interface (Some i) [] ((j, kind.Instance (iface 1)) ∷ [])

abbrev of_world : World
of_world = record { id = None; uses = []; imports = (i, kind.Instance (iface 2)) ∷ []; exports = [] }

abbrev nested : Collection
nested = record empty {
  resources = held (record { name = r; alias = None }) ∷ [];
  funcs = over (val.Own (res 0)) ∷ [];
  interfaces = held k_interface ∷ held inner ∷ held outer ∷ [];
  worlds = held of_world ∷ [];
}

abbrev world : WorldId
world = record { 0 = 0 }

-- i uses k widely, and nothing else
pub used_widely : UsesWidely nested (iface 2) (iface 0)
used_widely = by_instance (iface 2) (iface 1) (iface 0) j (0, lit< tt, refl) (by_itself (iface 1) r (use_of 0) (0, lit< tt, refl))

pub in_order : wide_uses nested (iface 2) ≡ iface 0 ∷ []
in_order = refl

-- defined, i imports k in addition and exports itself
pub defined_interface : interface_sides nested (iface 2) ≡ record { imports = []; additional = (k, kind.Instance (iface 0)) ∷ []; exports = (i, kind.Instance (iface 2)) ∷ []; uses = [] }
defined_interface = refl

-- and the world that imports i alone imports k in addition
pub completed_world : completed_sides nested of_world ≡ record { imports = (i, kind.Instance (iface 2)) ∷ []; additional = (k, kind.Instance (iface 0)) ∷ []; exports = []; uses = [] }
completed_world = refl

-- the world that imports i alone does not list k
not_there : Contains (iface 2 ∷ []) (iface 0) → ⊥
not_there (zero, p, e) = let same : 2 ≡ 0 = ap (λ (x : InterfaceId). x.0) e in omega (arith, same)
not_there (suc n, p, e) = omega (arith, p)

pub lacks : HasUnlisted nested world
lacks = by_import i (iface 2) (iface 0) (0, lit< tt, refl) used_widely not_there

-- the resource is free in i, and the world binds it nowhere
pub free_there : IsFree nested (ty.Interface (iface 2)) (res 0)
free_there = free.in_export (iface 2) outer j (kind.Instance (iface 1)) (res 0) refl (0, lit< tt, refl) refl
    (free.in_export (iface 1) inner f (kind.Func (fn 0)) (res 0) refl (0, lit< tt, refl) refl
    (free.in_part (ty.Func (fn 0)) (ty.Value (val.Own (res 0))) (res 0) (0, lit< tt, refl) (free.in_part (ty.Value (val.Own (res 0))) (ty.Resource (res 0)) (res 0) (0, lit< tt, refl) (free.itself (res 0)))))

pub unbound_item : HasUnboundItem nested (world_sides of_world)
unbound_item = (record { side = imported; name = i }, res 0, of_import i (kind.Instance (iface 2)) (res 0) (0, lit< tt, refl) free_there, refl)

-- so the package with that world has two faults
pub package_unbound : HasFault nested (λ _. None) role.Imported (kind.Component world) fault.UnboundResource
package_unbound = faults.inside fault.UnboundResource (ty.World world, faults.itself (ty.World world) (ty.World world) refl, faults.of_world world fault.UnboundResource (faults.unbound of_world refl unbound_item))

pub package_unlisted : HasFault nested (λ _. None) role.Imported (kind.Component world) fault.UnlistedDependency
package_unlisted = faults.inside fault.UnlistedDependency (ty.World world, faults.itself (ty.World world) (ty.World world) refl, faults.of_world world fault.UnlistedDependency (faults.unlisted lacks))

-- ---- a world that imports a and b, each with a resource r and a function over the other's
abbrev a : Name
a = 97 ∷ []

abbrev b : Name
b = 98 ∷ []

abbrev first : Interface
first = interface (Some a) [] ((r, kind.TypeItem (ty.Resource (res 0))) ∷ (f, kind.Func (fn 0)) ∷ [])

abbrev second : Interface
second = interface (Some b) [] ((r, kind.TypeItem (ty.Resource (res 1))) ∷ (f, kind.Func (fn 1)) ∷ [])

abbrev crossed_world : World
crossed_world = record { id = None; uses = []; imports = (a, kind.Instance (iface 0)) ∷ (b, kind.Instance (iface 1)) ∷ []; exports = [] }

abbrev crossed : Collection
crossed = record empty {
  resources = held (record { name = r; alias = None }) ∷ held (record { name = r; alias = None }) ∷ [];
  funcs = over (val.Own (res 1)) ∷ over (val.Own (res 0)) ∷ [];
  interfaces = held first ∷ held second ∷ [];
  worlds = held crossed_world ∷ [];
}

abbrev first_letter : Name → ℕ
first_letter [] = 0
first_letter (n ∷ ns) = n

abbrev item : Name → SideItem
item n = record { side = imported; name = n }

abbrev leaf : Name → Leaf
leaf n = record { out = 0; side = imported; path = named n ∷ named r ∷ [] }

first_depends : ItemDependsOn crossed (world_sides crossed_world) (item a) (item b)
first_depends = by_resource (item a) (item b) (res 1) (leaf b) (λ e. let same : 97 ≡ 98 = ap (λ (x : SideItem). first_letter x.name) e in omega (arith, same))
    (of_import a (kind.Instance (iface 0)) (res 1) (0, lit< tt, refl)
    (free.in_export (iface 0) first f (kind.Func (fn 0)) (res 1) refl (1, lit< tt, refl) refl
    (free.in_part (ty.Func (fn 0)) (ty.Value (val.Own (res 1))) (res 1) (0, lit< tt, refl) (free.in_part (ty.Value (val.Own (res 1))) (ty.Resource (res 1)) (res 1) (0, lit< tt, refl) (free.itself (res 1))))))
    refl (refl, named r ∷ [], refl)

second_depends : ItemDependsOn crossed (world_sides crossed_world) (item b) (item a)
second_depends = by_resource (item b) (item a) (res 0) (leaf a) (λ e. let same : 98 ≡ 97 = ap (λ (x : SideItem). first_letter x.name) e in omega (arith, same))
    (of_import b (kind.Instance (iface 1)) (res 0) (1, lit< tt, refl)
    (free.in_export (iface 1) second f (kind.Func (fn 1)) (res 0) refl (1, lit< tt, refl) refl
    (free.in_part (ty.Func (fn 1)) (ty.Value (val.Own (res 0))) (res 0) (0, lit< tt, refl) (free.in_part (ty.Value (val.Own (res 0))) (ty.Resource (res 0)) (res 0) (0, lit< tt, refl) (free.itself (res 0))))))
    refl (refl, named r ∷ [], refl)

pub crossed_cycle : HasItemCycle crossed (world_sides crossed_world)
crossed_cycle = (item a, more (item a) (item b) (item a) first_depends (one (item b) (item a) second_depends))

pub component_cycle : HasFault crossed (λ _. None) role.Imported (kind.Component world) fault.TypesUseEachOther
component_cycle = faults.inside fault.TypesUseEachOther (ty.World world, faults.itself (ty.World world) (ty.World world) refl, faults.of_world world fault.TypesUseEachOther (faults.cycle crossed_world refl crossed_cycle))

-- ---- a world that imports i, which uses the enum t of j, and exports another interface of the id of j
abbrev t : Name
t = 116 ∷ []

abbrev enum : ItemKind
enum = kind.TypeItem (ty.Value (val.Defined (record { 0 = 0 })))

abbrev exporting_world : World
exporting_world = record { id = Some (119 ∷ []); uses = []; imports = (i, kind.Instance (iface 1)) ∷ []; exports = (j, kind.Instance (iface 0)) ∷ [] }

abbrev exporting : Collection
exporting = record empty {
  interfaces = held (interface (Some j) [] ((t, enum) ∷ [])) ∷ held (interface (Some i) ((t, use_of 0) ∷ []) ((t, enum) ∷ [])) ∷ [];
  worlds = held exporting_world ∷ [];
}

-- what an export lists does not serve an import
pub exported_alone : listed_interfaces exporting (exporting_world.imports) ≡ iface 1 ∷ []
exported_alone = refl

-- defined, the world imports j in addition
pub completed_export : unlisted exporting exporting_world ≡ iface 0 ∷ []
completed_export = refl

-- ---- a world that exports j under its id and i, which uses t of j: nothing is imported in addition
abbrev both_exported : World
both_exported = record { id = None; uses = []; imports = []; exports = (i, kind.Instance (iface 1)) ∷ (j, kind.Instance (iface 0)) ∷ [] }

pub nothing_additional : unlisted exporting both_exported ≡ []
nothing_additional = refl

-- under another name than its id an interface is not listed
abbrev under_label : World
under_label = record { id = None; uses = []; imports = (t, kind.Instance (iface 0)) ∷ (i, kind.Instance (iface 1)) ∷ []; exports = [] }

pub label_is_none : listed_interfaces exporting (under_label.imports) ≡ iface 1 ∷ []
label_is_none = refl

-- own uses come before those of instances, and each interface stands once
abbrev ordered : Collection
ordered = record empty {
  interfaces = held (interface (Some j) [] ((t, enum) ∷ [])) ∷ held (interface (Some k) [] ((t, enum) ∷ [])) ∷ held (interface (Some i) ((t, use_of 0) ∷ []) ((t, enum) ∷ []))
      ∷ held (interface (Some a) ((t, use_of 1) ∷ []) ((b, kind.Instance (iface 2)) ∷ (f, kind.Instance (iface 2)) ∷ [])) ∷ [];
}

pub own_uses_first : each_once (wide_uses ordered (iface 3)) ≡ iface 1 ∷ iface 0 ∷ []
own_uses_first = refl

-- of additional imports each is after those that it uses
abbrev chained : Collection
chained = record empty {
  interfaces = held (interface (Some j) [] ((t, enum) ∷ [])) ∷ held (interface (Some k) ((t, use_of 0) ∷ []) ((t, enum) ∷ [])) ∷ held (interface (Some i) ((t, use_of 1) ∷ []) ((t, enum) ∷ [])) ∷ [];
}

pub additional_in_order : interface_sides chained (iface 2) ≡ record { imports = []; additional = (j, kind.Instance (iface 0)) ∷ (k, kind.Instance (iface 1)) ∷ []; exports = (i, kind.Instance (iface 2)) ∷ []; uses = [] }
additional_in_order = refl

-- ---- a function over a resource that nothing binds
abbrev alone : Collection
alone = record empty { resources = held (record { name = r; alias = None }) ∷ []; funcs = over (val.Own (res 0)) ∷ [] }

-- what is free in a function over an own resource
over_own : (c : Collection) (x : ℕ) → Contains (parts c (ty.Func (fn x))) (ty.Value (val.Own (res 0))) → IsFree c (ty.Func (fn x)) (resolved c (res 0))
over_own c x h =
    free.in_part (ty.Func (fn x)) (ty.Value (val.Own (res 0))) (resolved c (res 0)) h (free.in_part (ty.Value (val.Own (res 0))) (ty.Resource (res 0)) (resolved c (res 0)) (0, lit< tt, refl) (free.itself (res 0)))

pub function_unbound : HasFault alone (λ _. None) role.Imported (kind.Func (fn 0)) fault.UnboundResource
function_unbound = faults.unbound (res 0, over_own alone 0 (0, lit< tt, refl), refl)

-- ---- an interface with nothing but an alias of a resource: an alias binds nothing
abbrev alias_interface : Interface
alias_interface = interface (Some i) [] ((t, kind.TypeItem (ty.Resource (res 1))) ∷ [])

abbrev aliased : Collection
aliased = record empty {
  resources = held (record { name = r; alias = None }) ∷ held (record { name = t; alias = Some (record { owner = None; source = res 0 }) }) ∷ [];
  interfaces = held alias_interface ∷ [];
}

alias_free : IsFree aliased (ty.Interface (iface 0)) (res 0)
alias_free = free.in_export (iface 0) alias_interface t (kind.TypeItem (ty.Resource (res 1))) (res 0) refl (0, lit< tt, refl) refl (free.itself (res 1))

pub alias_imported : HasFault aliased (λ _. None) role.Imported (kind.Instance (iface 0)) fault.UnboundResource
alias_imported = faults.unbound (res 0, alias_free, refl)

pub alias_defined : HasFault aliased (λ _. None) role.Defined (kind.TypeItem (ty.Interface (iface 0))) fault.UnboundResource
alias_defined = inr (faults.unbound (record { side = exported; name = i }, res 0, of_export i (kind.Instance (iface 0)) (res 0) (0, lit< tt, refl) alias_free, refl))

-- ---- an interface that exports an instance with a resource, and a function over it: what is listed beside binds nothing
abbrev beside_interface : Interface
beside_interface = interface (Some i) [] ((j, kind.Instance (iface 0)) ∷ (f, kind.Func (fn 0)) ∷ [])

abbrev beside : Collection
beside = record empty {
  resources = held (record { name = r; alias = None }) ∷ [];
  funcs = over (val.Own (res 0)) ∷ [];
  interfaces = held (interface (Some j) [] ((r, kind.TypeItem (ty.Resource (res 0))) ∷ [])) ∷ held beside_interface ∷ [];
}

pub beside_unbound : HasFault beside (λ _. None) role.Imported (kind.Instance (iface 1)) fault.UnboundResource
beside_unbound = faults.unbound (res 0, free.in_export (iface 1) beside_interface f (kind.Func (fn 0)) (res 0) refl (1, lit< tt, refl) refl (over_own beside 0 (0, lit< tt, refl)), refl)

-- ---- a world that uses r of j, imports r, and does not import j: a component type sees nothing outside
abbrev using_world : World
using_world = record { id = None; uses = (r, use_of 0) ∷ []; imports = (r, kind.TypeItem (ty.Resource (res 0))) ∷ []; exports = [] }

abbrev using : Collection
using = record empty {
  resources = held (record { name = r; alias = None }) ∷ [];
  interfaces = held (interface (Some j) [] ((r, kind.TypeItem (ty.Resource (res 0))) ∷ [])) ∷ [];
  worlds = held using_world ∷ [];
}

-- a fault of the world is one of a component with it
in_component : (c : Collection) (x : WriteFault) → IsWorldFault c world x → HasFault c (λ _. None) role.Imported (kind.Component world) x
in_component c x w = faults.inside x (ty.World world, faults.itself (ty.World world) (ty.World world) refl, faults.of_world world x w)

pub using_unbound : HasFault using (λ _. None) role.Imported (kind.Component world) fault.UnboundResource
using_unbound = in_component using fault.UnboundResource
    (faults.unbound using_world refl (record { side = imported; name = r }, res 0, of_import r (kind.TypeItem (ty.Resource (res 0))) (res 0) (0, lit< tt, refl) (free.itself (res 0)), refl))

none_listed : (x : InterfaceId) → Contains [] x → ⊥
none_listed x (n, p, e) = omega (arith, p)

pub using_unlisted : HasFault using (λ _. None) role.Imported (kind.Component world) fault.UnlistedDependency
using_unlisted = in_component using fault.UnlistedDependency (faults.unlisted (by_world r (use_of 0) (0, lit< tt, refl) (none_listed (iface 0))))

-- ---- a world that uses t of j and imports j under a label: an instance under another name is not listed
abbrev labelled : Collection
labelled = record empty {
  interfaces = held (interface (Some j) [] ((t, enum) ∷ [])) ∷ [];
  worlds = held (record { id = None; uses = (t, use_of 0) ∷ []; imports = (a, kind.Instance (iface 0)) ∷ []; exports = [] }) ∷ [];
}

pub label_unlisted : HasFault labelled (λ _. None) role.Imported (kind.Component world) fault.UnlistedDependency
label_unlisted = in_component labelled fault.UnlistedDependency (faults.unlisted (by_world t (use_of 0) (0, lit< tt, refl) (none_listed (iface 0))))

-- ---- a world that exports an interface j, which uses t of another interface j: the very interface counts
abbrev namesakes : Collection
namesakes = record empty {
  interfaces = held (interface (Some j) [] ((t, enum) ∷ [])) ∷ held (interface (Some j) ((t, use_of 0) ∷ []) ((t, enum) ∷ [])) ∷ [];
  worlds = held (record { id = None; uses = []; imports = []; exports = (j, kind.Instance (iface 1)) ∷ [] }) ∷ [];
}

other_listed : Contains (iface 1 ∷ []) (iface 0) → ⊥
other_listed (zero, p, e) = let same : 1 ≡ 0 = ap (λ (x : InterfaceId). x.0) e in omega (arith, same)
other_listed (suc n, p, e) = omega (arith, p)

pub namesake_unlisted : HasFault namesakes (λ _. None) role.Imported (kind.Component world) fault.UnlistedDependency
namesake_unlisted = in_component namesakes fault.UnlistedDependency
    (faults.unlisted (by_export j (iface 1) (iface 0) (0, lit< tt, refl) (by_itself (iface 1) t (use_of 0) (0, lit< tt, refl)) other_listed))

-- ---- what only an export lists does not serve an import
pub exporting_unlisted : HasFault exporting (λ _. None) role.Imported (kind.Component world) fault.UnlistedDependency
exporting_unlisted = in_component exporting fault.UnlistedDependency
    (faults.unlisted (by_import i (iface 1) (iface 0) (0, lit< tt, refl) (by_itself (iface 1) t (use_of 0) (0, lit< tt, refl)) other_listed))

-- ---- i uses r of j, and j has a core module type: defined, i imports the types of j
abbrev module_listed : Collection
module_listed = record empty {
  resources = held (record { name = r; alias = None }) ∷ [];
  interfaces = held (interface (Some j) [] ((r, kind.TypeItem (ty.Resource (res 0))) ∷ (t, kind.TypeItem (ty.Module (record { 0 = 0 }))) ∷ [])) ∷ held (interface (Some i) ((r, use_of 0) ∷ []) []) ∷ [];
}

pub module_imported : HasFault module_listed (λ _. None) role.Defined (kind.TypeItem (ty.Interface (iface 1))) fault.ModuleAsType
module_imported = inr (faults.of_additional j (iface 0) fault.ModuleAsType (0, lit< tt, refl) (ty.Module (record { 0 = 0 }), (t, (1, lit< tt, refl)), inl refl))

-- ---- a world that exports a and b, each with a resource r and a function over the other's
abbrev crossed_exports : World
crossed_exports = record { id = None; uses = []; imports = []; exports = (a, kind.Instance (iface 0)) ∷ (b, kind.Instance (iface 1)) ∷ [] }

abbrev crossed_out : Collection
crossed_out = record crossed { worlds = held crossed_exports ∷ [] }

abbrev out_item : Name → SideItem
out_item n = record { side = exported; name = n }

abbrev out_leaf : Name → Leaf
out_leaf n = record { out = 0; side = exported; path = named n ∷ named r ∷ [] }

first_export : ItemDependsOn crossed_out (world_sides crossed_exports) (out_item a) (out_item b)
first_export = by_resource (out_item a) (out_item b) (res 1) (out_leaf b) (λ e. let same : 97 ≡ 98 = ap (λ (x : SideItem). first_letter x.name) e in omega (arith, same))
    (of_export a (kind.Instance (iface 0)) (res 1) (0, lit< tt, refl)
    (free.in_export (iface 0) first f (kind.Func (fn 0)) (res 1) refl (1, lit< tt, refl) refl
    (free.in_part (ty.Func (fn 0)) (ty.Value (val.Own (res 1))) (res 1) (0, lit< tt, refl) (free.in_part (ty.Value (val.Own (res 1))) (ty.Resource (res 1)) (res 1) (0, lit< tt, refl) (free.itself (res 1))))))
    refl (refl, named r ∷ [], refl)

second_export : ItemDependsOn crossed_out (world_sides crossed_exports) (out_item b) (out_item a)
second_export = by_resource (out_item b) (out_item a) (res 0) (out_leaf a) (λ e. let same : 98 ≡ 97 = ap (λ (x : SideItem). first_letter x.name) e in omega (arith, same))
    (of_export b (kind.Instance (iface 1)) (res 0) (1, lit< tt, refl)
    (free.in_export (iface 1) second f (kind.Func (fn 1)) (res 0) refl (1, lit< tt, refl) refl
    (free.in_part (ty.Func (fn 1)) (ty.Value (val.Own (res 0))) (res 0) (0, lit< tt, refl) (free.in_part (ty.Value (val.Own (res 0))) (ty.Resource (res 0)) (res 0) (0, lit< tt, refl) (free.itself (res 0))))))
    refl (refl, named r ∷ [], refl)

pub exports_cycle : HasFault crossed_out (λ _. None) role.Imported (kind.Component world) fault.TypesUseEachOther
exports_cycle = in_component crossed_out fault.TypesUseEachOther
    (faults.cycle crossed_exports refl (out_item a, more (out_item a) (out_item b) (out_item a) first_export (one (out_item b) (out_item a) second_export)))

-- ---- the definition of an interface without an id over a resource that nothing binds: the lowest fault counts
abbrev unnamed_interface : Interface
unnamed_interface = interface None [] ((f, kind.Func (fn 0)) ∷ [])

abbrev unnamed_over : Collection
unnamed_over = record alone { interfaces = held unnamed_interface ∷ [] }

pub unnamed_unbound : HasFault unnamed_over (λ _. None) role.Defined (kind.TypeItem (ty.Interface (iface 0))) fault.UnboundResource
unnamed_unbound = inr (faults.unbound (
  record { side = exported; name = [] },
  res 0,
  of_export [] (kind.Instance (iface 0)) (res 0) (0, lit< tt, refl)
      (free.in_export (iface 0) unnamed_interface f (kind.Func (fn 0)) (res 0) refl (0, lit< tt, refl) refl (over_own unnamed_over 0 (0, lit< tt, refl))),
  refl,
))
