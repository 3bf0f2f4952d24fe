-- The weight of a type of a collection: how much may be written of it at most.
use Rattle.std.specs.Prelude.{ℕ, zero, suc, ◌+◌, Bool, true, false, not, if◌then◌else◌, List, [], ◌∷◌, ◌++◌, length, filter, Option}
use Rattle.std.specs.List.{flat_map, list_any, sum_by}
use Rattle.wac_types_shapes.specs.primitives.Name.{Name, option_case}
use Rattle.wac_types_shapes.specs.shapes.Kinds.{kind_type}
use Rattle.wac_types_shapes.specs.declared.shapes.component.DefinedType.{DefinedType}
use Rattle.wac_types_shapes.specs.declared.shapes.component.DefinedType.TheVariants as def
use Rattle.wac_types_shapes.specs.declared.shapes.component.Interface.{Interface}
use Rattle.wac_types_shapes.specs.declared.shapes.component.World.{World}
use Rattle.wac_types_shapes.specs.declared.shapes.component.ItemKind.{ItemKind}
use Rattle.wac_types_shapes.specs.declared.shapes.component.UsedType.{UsedType}
use Rattle.wac_types_shapes.specs.declared.shapes.component.ValueType.TheVariants as val
use Rattle.wac_types_shapes.specs.declared.shapes.component.«Type».{«Type» as AnyType}
use Rattle.wac_types_shapes.specs.declared.shapes.component.«Type».TheVariants as ty
use Rattle.wac_types_shapes.specs.declared.shapes.core_types.CoreExtern.{CoreExtern}
use Rattle.wac_types_shapes.specs.declared.shapes.core_types.CoreExtern.TheVariants as core
use Rattle.wac_types_shapes.specs.declared.shapes.core_types.ModuleType.{ModuleType}
use Rattle.wac_types_collection.specs.collection.Collection.{Collection, item_at, size}
use Rattle.wac_types_collection.specs.collection.Uses.{same_type}
use Rattle.wac_types_collection.specs.reach.Reach.{mentions}

-- One part under a name: 1, and the bytes of the name.
abbrev pub named_part : {A : Type 0} → Name × A → ℕ
named_part e = 1 + length e.0

abbrev pub named_parts : {A : Type 0} → List (Name × A) → ℕ
named_parts es = sum_by named_part es

abbrev pub label : Name → ℕ
label n = 1 + length n

-- The bytes of a text, if there is one.
abbrev pub optional_text : Option Name → ℕ
optional_text t = option_case t 0 length

-- The parts of a definition that are counted: tuple items, fields, cases and labels.
abbrev pub defined_parts : DefinedType → ℕ
defined_parts (def.Tuple vs) = length vs
defined_parts (def.Variant v) = named_parts v.cases
defined_parts (def.Record r) = named_parts r.fields
defined_parts (def.Flags names) = sum_by label names.0
defined_parts (def.Enum names) = sum_by label names.0
defined_parts d = 0

-- The core value types of a core item.
abbrev pub core_values : CoreExtern → ℕ
core_values (core.Func f) = length f.params + length f.results
core_values (core.Tag f) = length f.params + length f.results
core_values x = 0

-- The imports and exports of a core module, with their names and core value types.
abbrev pub module_parts : ModuleType → ℕ
module_parts m = sum_by (λ e. 1 + length e.0.0 + length e.0.1 + core_values e.1) m.imports + sum_by (λ e. named_part e + core_values e.1) m.exports

-- The used types, each with its name here, and its name there if it has another.
abbrev pub used_parts : List (Name × UsedType) → ℕ
used_parts us = sum_by (λ u. named_part u + optional_text u.1.name) us

abbrev pub interface_parts : Interface → ℕ
interface_parts x = optional_text x.id + used_parts x.uses + named_parts x.exports

abbrev pub world_parts : World → ℕ
world_parts x = optional_text x.id + used_parts x.uses + named_parts x.imports + named_parts x.exports

-- A type's own weight: 1, its parts, and the bytes of its texts. A primitive type and a handle have none.
abbrev pub own : Collection → AnyType → ℕ
own c (ty.Resource r) = option_case (item_at c.resources r.0) 0 (λ x. 1 + length x.name)
own c (ty.Func f) = option_case (item_at c.funcs f.0) 0 (λ x. 1 + named_parts x.params)
own c (ty.Value (val.Defined d)) = option_case (item_at c.defined d.0) 0 (λ x. 1 + defined_parts x)
own c (ty.Value v) = 0
own c (ty.Interface i) = option_case (item_at c.interfaces i.0) 0 (λ x. 1 + interface_parts x)
own c (ty.World w) = option_case (item_at c.worlds w.0) 0 (λ x. 1 + world_parts x)
own c (ty.Module m) = option_case (item_at c.modules m.0) 0 (λ x. 1 + module_parts x)

abbrev pub owns : Collection → List AnyType → ℕ
owns c ts = sum_by (own c) ts

-- The type is an interface or a world.
abbrev pub is_scope : AnyType → Bool
is_scope (ty.Interface i) = true
is_scope (ty.World w) = true
is_scope t = false

-- The types among these that are neither interfaces nor worlds.
abbrev pub plain : List AnyType → List AnyType
plain ts = filter (λ u. not (is_scope u)) ts

-- The interfaces and worlds among these types.
abbrev pub scopes : List AnyType → List AnyType
scopes ts = filter is_scope ts

-- The list, with each of the other types appended that it does not have yet.
abbrev pub joined : List AnyType → List AnyType → List AnyType
joined ts [] = ts
joined ts (u ∷ us) = joined (if list_any (same_type u) ts then ts else ts ++ u ∷ []) us

-- The list with what its types reach in n steps without passing through an interface or a world.
abbrev pub near_to : ℕ → Collection → List AnyType → List AnyType
near_to zero c ts = ts
near_to (suc n) c ts = near_to n c (joined ts (plain (flat_map (mentions c) ts)))

-- What is near these types: those that are neither interfaces nor worlds, with what they reach without passing through
-- one, each once. No chain of mentions is longer than the number of items and a handle.
unfoldable pub near_all : Collection → List AnyType → List AnyType
near_all c ts = near_to (suc (size c)) c (joined [] (plain ts))

-- What a type reaches without passing through another interface or world, each once.
abbrev pub near : Collection → AnyType → List AnyType
near c t = near_all c (mentions c t)

-- The interfaces and worlds that these types mention, once for each mention.
abbrev pub scopes_in : Collection → List AnyType → List AnyType
scopes_in c ts = scopes (flat_map (mentions c) ts)

-- The weight of a type, n interfaces and worlds deep: its own; once each, the own of what it reaches without passing
-- through another interface or world; and for each mention of an interface or world by one of these, that one's weight.
abbrev pub weight_to : ℕ → Collection → AnyType → ℕ
weight_to zero c t = 0
weight_to (suc n) c t = own c t + owns c (near c t) + sum_by (weight_to n c) (scopes_in c (t ∷ near c t))

-- The weight of a type. No chain of mentions is longer than the number of items.
unfoldable pub weight : Collection → AnyType → ℕ
weight c t = weight_to (suc (size c)) c t

abbrev pub item_weight : Collection → ItemKind → ℕ
item_weight c k = weight c (kind_type k)
