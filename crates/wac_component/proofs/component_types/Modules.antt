-- Samples of core modules: limits, imports and exports.
use Rattle.std.proofs.Common.{ℕ, Option, Some, None, false, refl, arith}
use Rattle.wac_types_shapes.specs.primitives.Core.{CoreItem, no_item, core_table, core_memory}
use Rattle.wac_types_shapes.specs.primitives.Name.{Name}
use Rattle.wac_types_shapes.specs.primitives.Tree.{module_of, module_item}
use Rattle.wac_types_shapes.specs.declared.primitives.core_types.CoreRefType.TheVariants as r
use Rattle.wac_component.specs.ItemSubtype.{IsCoreItemSubtype, IsItemSubtype, modules}

abbrev memory : ℕ → Option ℕ → CoreItem
memory least most = core_memory false false least most None

abbrev table : ℕ → Option ℕ → CoreItem
table least most = core_table r.FuncRef false false least most

-- Limits within limits.
pub memory_within : IsCoreItemSubtype (memory 2 (Some 3)) (memory 1 (Some 4))
memory_within = (refl, refl, refl, omega arith, omega arith)

pub table_within : IsCoreItemSubtype (table 2 (Some 3)) (table 1 (Some 4))
table_within = (refl, refl, refl, omega arith, omega arith)

pub memory_open : IsCoreItemSubtype (memory 2 (Some 3)) (memory 1 None)
memory_open = (refl, refl, refl, omega arith, tt)

-- .. and not: a smaller minimum, a greater maximum, and none.
pub memory_small : IsCoreItemSubtype (memory 1 (Some 3)) (memory 2 (Some 4)) → ⊥
memory_small h = omega (arith, h.3)

pub memory_large : IsCoreItemSubtype (memory 2 (Some 5)) (memory 1 (Some 4)) → ⊥
memory_large h = omega (arith, h.4)

pub table_small : IsCoreItemSubtype (table 1 (Some 3)) (table 2 (Some 4)) → ⊥
table_small h = omega (arith, h.3)

pub memory_boundless : IsCoreItemSubtype (memory 2 None) (memory 1 (Some 4)) → ⊥
memory_boundless h = h.4

-- A module that imports less and exports more.
abbrev no_imports : Name → Name → CoreItem
no_imports m n = no_item

abbrev no_exports : Name → CoreItem
no_exports n = no_item

abbrev one_memory : ℕ → Name → Name → CoreItem
one_memory k m n = memory k None

abbrev one_export : ℕ → Name → CoreItem
one_export k n = memory k None

pub module_less : IsItemSubtype (module_item (module_of no_imports (one_export 2))) (module_item (module_of (one_memory 1) no_exports))
module_less = modules _ _ _ _ (λ m n ne. absurd (ne refl)) (λ n ne. absurd (ne refl))

-- .. that imports a smaller memory and exports a larger one.
pub module_within : IsItemSubtype (module_item (module_of (one_memory 1) (one_export 2))) (module_item (module_of (one_memory 2) (one_export 1)))
module_within = modules _ _ _ _ (λ m n ne. (refl, refl, refl, omega arith, tt)) (λ n ne. (refl, refl, refl, omega arith, tt))
