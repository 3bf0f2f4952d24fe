-- Worked examples of subtyping, each decided by computing.
use Rattle.std.specs.Prelude.{ℕ, ◌≡◌, ◌≢◌, Bool, true, false, if◌then◌else◌, List, [], ◌∷◌, Option, Some, None, refl}
use Rattle.std.proofs.Common.{arith}
use Rattle.wac_types_shapes.specs.primitives.Name.{Name, same_name, option_case}
use Rattle.wac_types_shapes.specs.primitives.Core.{CoreItem, no_item, core_memory}
use Rattle.wac_types_shapes.specs.primitives.Tree.{TypeTree, absent, primitive, own, function, function_item}
use Rattle.wac_types_collection.specs.collection.Held.{part_at, core_item}
use Rattle.wac_types_collection.specs.collection.Collection.{Collection}
use Rattle.wac_types_collection.specs.declared.collection.collection.Held.{Held}
use Rattle.wac_types_shapes.specs.declared.primitives.component.PrimitiveType.TheVariants as prim
use Rattle.wac_types_shapes.specs.declared.shapes.component.Resource.{Resource}
use Rattle.wac_types_shapes.specs.declared.shapes.component.ResourceAlias.{ResourceAlias}
use Rattle.wac_types_shapes.specs.declared.shapes.component.FuncType.{FuncType}
use Rattle.wac_types_shapes.specs.declared.shapes.component.DefinedType.{DefinedType}
use Rattle.wac_types_shapes.specs.declared.shapes.component.DefinedType.TheVariants as def
use Rattle.wac_types_shapes.specs.declared.shapes.component.Interface.{Interface}
use Rattle.wac_types_shapes.specs.declared.shapes.component.ItemKind.{ItemKind}
use Rattle.wac_types_shapes.specs.declared.shapes.component.ItemKind.TheVariants as kind
use Rattle.wac_types_shapes.specs.declared.shapes.component.ValueType.TheVariants as val
use Rattle.wac_types_shapes.specs.declared.shapes.component.«Type».TheVariants as ty
use Rattle.wac_types_shapes.specs.declared.shapes.core_types.ModuleType.{ModuleType}
use Rattle.wac_types_shapes.specs.declared.shapes.core_types.CoreExtern.{CoreExtern}
use Rattle.wac_types_shapes.specs.declared.shapes.core_types.CoreExtern.TheVariants as core
use Rattle.wac_types_collection.specs.subtyping.Subtype.{Sub, IsCoreSubtype, type_tree}
use Rattle.wac_types_collection.proofs.lemmas.subtyping.Relation.{sub_refl, plain_sub}
use Rattle.wac_types.proofs.lemmas.comparison.Subtyping.{of_instances}
use Rattle.wac_types.proofs.lemmas.comparison.CoreItems.{modules_from, modules_back}

-- a memory of at least so many pages and at most so many
abbrev memory : Bool → ℕ → ℕ → CoreItem
memory shared least most = core_memory false shared least (Some most) None

-- 2 to 4 are within 1 to 5
pub memory_within : IsCoreSubtype (memory false 2 4) (memory false 1 5)
memory_within = (refl, refl, refl, omega arith, omega arith)

-- but not within 1 to 3
pub memory_too_large : IsCoreSubtype (memory false 2 4) (memory false 1 3) → ⊥
memory_too_large h = omega (arith, h.4)

-- nor within 3 to 5
pub memory_too_small : IsCoreSubtype (memory false 2 4) (memory false 3 5) → ⊥
memory_too_small h = omega (arith, h.3)

-- and what is shared is another memory
pub memory_not_shared : IsCoreSubtype (memory false 2 4) (memory true 1 5) → ⊥
memory_not_shared h = let e : false ≡ true = h.1 in cc

abbrev f : Name
f = 102 ∷ []

abbrev g : Name
g = 103 ∷ []

abbrev r : Name
r = 114 ∷ []

abbrev s : Name
s = 115 ∷ []

abbrev definition : DefinedType → Held DefinedType
definition d = record { item = d; before = 0 }

abbrev resource_called : Name → Option ResourceAlias → Held Resource
resource_called n a = record { item = record { name = n; alias = a }; before = 0 }

abbrev alias_of : ℕ → Option ResourceAlias
alias_of i = Some (record { owner = None; source = record { 0 = i } })

abbrev interface_with : List (Name × ItemKind) → Held Interface
interface_with exports = record { item = record { id = None; uses = []; exports = exports }; before = 0 }

abbrev no_function : Held FuncType
no_function = record { item = record { params = []; result = None; is_async = false }; before = 0 }

abbrev of_function : ItemKind
of_function = kind.Func (record { 0 = 0 })

-- a core module that exports such a memory
abbrev module_with : Bool → ℕ → ℕ → Held ModuleType
module_with shared least most = record { item = record { imports = []; exports = (f, core.Memory false shared least (Some most) None) ∷ [] }; before = 0 }

-- an alias of bool, an alias of that one, a resource `r`, an alias `s` of it and an alias of that one, two interfaces, and core modules
abbrev example : Collection
example = record {
  resources = resource_called r None ∷ resource_called s (alias_of 0) ∷ resource_called s (alias_of 1) ∷ [];
  funcs = no_function ∷ [];
  defined = definition (def.Alias (val.Primitive prim.Bool)) ∷ definition (def.Alias (val.Defined (record { 0 = 0 }))) ∷ [];
  interfaces = interface_with ((f, of_function) ∷ (g, of_function) ∷ []) ∷ interface_with ((f, of_function) ∷ []) ∷ [];
  worlds = [];
  modules = module_with false 2 4 ∷ module_with false 1 5 ∷ module_with false 1 3 ∷ module_with true 1 5 ∷ [];
}

-- an alias of bool is bool
pub alias_is_bool : type_tree example (ty.Value (val.Defined (record { 0 = 0 }))) ≡ primitive prim.Bool
unfolding type_tree
alias_is_bool = refl

-- and so is an alias of that alias
pub second_alias_is_bool : type_tree example (ty.Value (val.Defined (record { 0 = 1 }))) ≡ primitive prim.Bool
unfolding type_tree
second_alias_is_bool = refl

-- an own handle goes by the name at the end of two aliases
pub own_by_name : type_tree example (ty.Value (val.Own (record { 0 = 2 }))) ≡ own r
unfolding type_tree
own_by_name = refl

-- which is that of the source
pub own_of_source : type_tree example (ty.Value (val.Own (record { 0 = 2 }))) ≡ type_tree example (ty.Value (val.Own (record { 0 = 0 })))
unfolding type_tree
own_of_source = refl

-- the instance types with `f` and `g`, and with `f` alone
abbrev with_both : TypeTree Name
with_both = type_tree example (ty.Interface (record { 0 = 0 }))

abbrev with_one : TypeTree Name
with_one = type_tree example (ty.Interface (record { 0 = 1 }))

offered : (b : Bool) (t u : TypeTree Name) → (if b then t else absent) ≢ absent → Sub (if b then t else u) (if b then t else absent)
offered true t u there = sub_refl t
offered false t u there = absurd (there refl)

-- the one offers what the other does
pub more_exports_fit : Sub with_both with_one
unfolding type_tree
more_exports_fit = Sub.instances _ _ (λ n there. offered (same_name n f) (function_item (function false [] (part_at []) absent)) _ there)

-- and the other lacks `g`
pub fewer_exports_do_not : Sub with_one with_both → ⊥
unfolding type_tree
fewer_exports_do_not h =
    let e = plain_sub absent (function_item (function false [] (part_at []) absent)) tt (of_instances _ _ h g (λ e. cc)) in
    cc

-- the core modules with a memory of 2 to 4, of 1 to 5, of 1 to 3, and a shared one of 1 to 5
abbrev module_tree_at : ℕ → TypeTree Name
module_tree_at i = type_tree example (ty.Module (record { 0 = i }))

offered_core : (b : Bool) (x y : CoreExtern) → IsCoreSubtype (core_item x) (core_item y)
    → option_case (if b then Some y else None) no_item core_item ≢ no_item → IsCoreSubtype (option_case (if b then Some x else None) no_item core_item) (option_case (if b then Some y else None) no_item core_item)
offered_core true x y h there = h
offered_core false x y h there = absurd (there refl)

-- what exports the first fits where the second is asked
pub module_within : Sub (module_tree_at 0) (module_tree_at 1)
unfolding type_tree
module_within = modules_from (module_with false 2 4).item (module_with false 1 5).item
    ((λ m n there. absurd (there refl)), (λ n there. offered_core (same_name n f) (core.Memory false false 2 (Some 4) None) (core.Memory false false 1 (Some 5) None) memory_within there))

-- but not where the third is
pub module_too_large : Sub (module_tree_at 0) (module_tree_at 2) → ⊥
unfolding type_tree
module_too_large h = memory_too_large ((modules_back (module_with false 2 4).item (module_with false 1 3).item h).1 f (λ e. cc))

-- nor where the shared one is
pub module_not_shared : Sub (module_tree_at 0) (module_tree_at 3) → ⊥
unfolding type_tree
module_not_shared h = memory_not_shared ((modules_back (module_with false 2 4).item (module_with true 1 5).item h).1 f (λ e. cc))
