-- The facts that a comparison decides: equality of types part by part, and imports and exports name by name.
use Rattle.std.specs.Prelude.{◌≢◌, List, Option}
use Rattle.wac_types_shapes.specs.primitives.Name.{Name}
use Rattle.wac_types_shapes.specs.shapes.Imports.{Pair}
use Rattle.wac_types_shapes.specs.primitives.Core.{CoreItem, no_item, core_table, core_memory}
use Rattle.wac_types_shapes.specs.primitives.Tree.{TypeTree, absent, component}
use Rattle.wac_types_collection.specs.collection.Collection.{Collection}
use Rattle.wac_types_collection.specs.collection.Held.{option_tree, func_tree, defined_tree, core_under, core_imports}
use Rattle.wac_types_collection.specs.subtyping.Subtype.{Sub, IsCoreSubtype, type_tree, listed_in}
use Rattle.wac_types_shapes.specs.declared.shapes.core_types.CoreExtern.{CoreExtern}
use Rattle.wac_types_shapes.specs.declared.shapes.component.FuncType.{FuncType}
use Rattle.wac_types_shapes.specs.declared.shapes.component.DefinedType.{DefinedType}
use Rattle.wac_types_shapes.specs.declared.shapes.component.World.{World}
use Rattle.wac_types_shapes.specs.declared.shapes.component.ValueType.{ValueType}
use Rattle.wac_types_shapes.specs.declared.shapes.component.«Type».TheVariants as ty
use Rattle.wac_types_shapes.specs.declared.shapes.component.ItemKind.{ItemKind}

-- The tree of a value type.
abbrev pub value_in : Collection → ValueType → TypeTree Name
value_in c v = type_tree c (ty.Value v)

-- The tree of an optional value type.
abbrev pub optional_in : Collection → Option ValueType → TypeTree Name
optional_in c v = option_tree (value_in c) v

-- The tree of a function type.
abbrev pub func_in : Collection → FuncType → TypeTree Name
func_in c f = func_tree (value_in c) f

-- The tree of a definition.
abbrev pub defined_in : Collection → DefinedType → TypeTree Name
defined_in c d = defined_tree (value_in c) d

-- A name with the tree of its value type.
abbrev pub entry_in : Collection → Name × ValueType → Name × TypeTree Name
entry_in c e = (e.0, value_in c e.1)

-- A case with the tree of its payload.
abbrev pub case_in : Collection → Name × Option ValueType → Name × TypeTree Name
case_in c e = (e.0, optional_in c e.1)

-- The tree of a world.
abbrev pub world_in : Collection → World → TypeTree Name
world_in c w = component (listed_in c w.imports) (listed_in c w.exports)

-- Both are tables, and the first is a subtype of the second.
abbrev pub IsTableSubtype : CoreItem → CoreItem → Type 0
IsTableSubtype (core_table e wide shared least most) (core_table e_b wide_b shared_b least_b most_b) = IsCoreSubtype (core_table e wide shared least most) (core_table e_b wide_b shared_b least_b most_b)
IsTableSubtype a b = ⊥

-- Both are memories, and the first is a subtype of the second.
abbrev pub IsMemorySubtype : CoreItem → CoreItem → Type 0
IsMemorySubtype (core_memory wide shared least most page) (core_memory wide_b shared_b least_b most_b page_b) = IsCoreSubtype (core_memory wide shared least most page) (core_memory wide_b shared_b least_b most_b page_b)
IsMemorySubtype a b = ⊥

-- The first list has a subtype of each item of the second, under the same name.
abbrev pub Offers : Collection → List (Name × ItemKind) → Collection → List (Name × ItemKind) → Type 0
Offers c xs d ys = (n : Name) → listed_in d ys n ≢ absent → Sub (listed_in c xs n) (listed_in d ys n)

-- The first list has a subtype of each core item of the second, under the same name.
abbrev pub OffersCore : List (Name × CoreExtern) → List (Name × CoreExtern) → Type 0
OffersCore xs ys = (n : Name) → core_under ys n ≢ no_item → IsCoreSubtype (core_under xs n) (core_under ys n)

-- The first list has a subtype of each core item of the second, under the same module and name.
abbrev pub OffersModules : List (Pair × CoreExtern) → List (Pair × CoreExtern) → Type 0
OffersModules xs ys = (m n : Name) → core_imports ys m n ≢ no_item → IsCoreSubtype (core_imports xs m n) (core_imports ys m n)
