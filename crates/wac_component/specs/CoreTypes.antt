-- Core types.
use Rattle.std.specs.Prelude.{ℕ, ◌/◌, ◌%◌, List, [], ◌∷◌, ◌++◌, Bool, true, false, Option, Some, None, eqb, ltb, if◌then◌else◌}
use Rattle.wac_types_shapes.specs.declared.primitives.core_types.CoreRefType.{CoreRefType}
use Rattle.wac_types_shapes.specs.declared.primitives.core_types.CoreRefType.TheVariants as r
use Rattle.wac_types_shapes.specs.declared.primitives.core_types.CoreType.{CoreType}
use Rattle.wac_types_shapes.specs.declared.primitives.core_types.CoreType.TheVariants as c
use Rattle.wac_binary.specs.declared.core_types.EntityType.{EntityType}
use Rattle.wac_binary.specs.declared.core_types.EntityType.TheVariants as t
use Rattle.wac_binary.specs.declared.core_types.TableType.{TableType}
use Rattle.wac_binary.specs.declared.core_types.MemoryType.{MemoryType}
use Rattle.wac_binary.specs.declared.core_types.GlobalType.{GlobalType}
use Rattle.wac_component.specs.declared.fault.TextFault.TheVariants.{UnknownByte, Misplaced, Unsupported}
use Rattle.wac_component.specs.declared.fault.Feature.TheVariants as f
use Rattle.wac_binary.specs.Items.{ModuleDecl, module_import, module_func, module_export}
use Rattle.wac_component.specs.Parts.{CoreDecl, module_decl, outer_decl, CoreTypeDef, module_type, function_type}
use Rattle.wac_component.specs.Reader.{Reader, done, fails, ◌>>=◌, made, made2, made3, byte, one_of, one_in, rows, each_of}
use Rattle.wac_component.specs.Numbers.{number_at, number64_at, name_at, vector_at}

-- Reference types that are left out: typed references, `exnref`, and those of garbage collection.
abbrev pub other_references : {A : Type 0} → List (ℕ × Reader A)
other_references = each_of (0x63 ∷ 0x64 ∷ 0x69 ∷ 0x6a ∷ 0x6b ∷ 0x6c ∷ 0x6d ∷ 0x6e ∷ 0x71 ∷ 0x72 ∷ 0x73 ∷ 0x74 ∷ []) (fails (Unsupported f.CoreType))

-- `core:reftype`
abbrev pub references : List (ℕ × CoreRefType)
references = (0x70, r.FuncRef) ∷ (0x6f, r.ExternRef) ∷ []

unfoldable pub reference_at : Reader CoreRefType
reference_at = one_of (rows done references ++ other_references)

-- `core:valtype`
unfoldable pub core_value_at : Reader CoreType
core_value_at = one_of (rows done ((0x7f, c.I32) ∷ (0x7e, c.I64) ∷ (0x7d, c.F32) ∷ (0x7c, c.F64) ∷ (0x7b, c.V128) ∷ []) ++ rows (λ x. done (c.Ref x)) references ++ other_references)

-- `core:limits`: the minimum, and what the bits of the flags say: 1 a maximum, 2 shared, 4 of 64 bits, 8 a page size.
pub record Limits : Type 0 where
  pub shared : Bool
  pub is64 : Bool
  pub minimum : ℕ
  pub maximum : Option ℕ
  pub page : Option ℕ

-- Whether a flag is set.
abbrev pub has : (flags weight : ℕ) → Bool
has flags weight = eqb (flags / weight % 2) 1

abbrev pub given_if : Bool → Reader ℕ → Reader (Option ℕ)
given_if b r = if b then made Some r else done None

-- Limits whose flags are below the bound.
unfoldable pub limits_at : ℕ → Reader Limits
limits_at bound = do
  flags ← byte
  if ltb flags bound then made3 (λ least most size. record { shared = has flags 2; is64 = has flags 4; minimum = least; maximum = most; page = size }) number64_at (given_if (has flags 1) number64_at) (given_if (has flags 8) number_at) else fails UnknownByte

-- `core:tabletype`
unfoldable pub table_at : Reader TableType
table_at = made2 (λ element x. record { element_type = element; table64 = x.is64; minimum = x.minimum; maximum = x.maximum; shared = x.shared }) reference_at (limits_at 8)

-- `core:memtype`
unfoldable pub memory_at : Reader MemoryType
memory_at = made (λ x. record { minimum = x.minimum; maximum = x.maximum; memory64 = x.is64; shared = x.shared; page_size_log2 = x.page }) (limits_at 16)

-- `core:globaltype`: the value type, and flags: 1 mutable, 2 shared.
unfoldable pub global_at : Reader GlobalType
global_at = made2 (λ (value : CoreType) (flags : Bool × Bool). record { val_type = value; mutable = flags.0; shared = flags.1 }) core_value_at (one_in ((0, (false, false)) ∷ (1, (true, false)) ∷ (2, (false, true)) ∷ (3, (true, true)) ∷ []))

-- `core:externtype`
unfoldable pub entity_at : Reader EntityType
entity_at = one_of (
    (0, made t.Function number_at)
    ∷ (1, made t.Table table_at)
    ∷ (2, made t.Memory memory_at)
    ∷ (3, made t.Global global_at)
    ∷ (4, one_of ((0, made t.Tag number_at) ∷ []))
    ∷ (0x20, fails (Unsupported f.CoreType))
    ∷ [])

-- Core types that are left out: those of garbage collection, shared ones and continuations.
abbrev pub core_type_faults : {A : Type 0} → List (ℕ × Reader A)
core_type_faults = each_of (0x00 ∷ 0x4d ∷ 0x4e ∷ 0x4f ∷ 0x5d ∷ 0x5e ∷ 0x5f ∷ 0x65 ∷ []) (fails (Unsupported f.CoreType))

-- `core:functype`
abbrev pub core_func_at : {A : Type 0} → (List CoreType → List CoreType → A) → Reader A
core_func_at f = made2 f (vector_at core_value_at) (vector_at core_value_at)

-- `core:moduledecl`, but for aliases
abbrev pub module_decls : List (ℕ × Reader ModuleDecl)
module_decls =
    (0, made3 module_import name_at name_at entity_at)
    ∷ (1, one_of ((0x60, core_func_at module_func) ∷ (0x50, fails Misplaced) ∷ core_type_faults))
    ∷ (3, made2 module_export name_at entity_at)
    ∷ []

-- `core:alias` of a core type
unfoldable pub outer_decl_at : Reader CoreDecl
outer_decl_at = one_of ((0x10, one_of ((1, made2 outer_decl number_at number_at) ∷ [])) ∷ [])

-- `core:moduledecl`
unfoldable pub core_decl_at : Reader CoreDecl
core_decl_at = one_of ((2, outer_decl_at) ∷ rows (made module_decl) module_decls)

-- `core:moduledecl` in a component type or instance type, where an alias is left out
unfoldable pub module_decl_in_type_at : Reader ModuleDecl
module_decl_in_type_at = one_of ((2, fails (Unsupported f.CoreType)) ∷ module_decls)

-- `core:type`
unfoldable pub core_type_at : Reader CoreTypeDef
core_type_at = one_of ((0x50, made module_type (vector_at core_decl_at)) ∷ (0x60, core_func_at function_type) ∷ core_type_faults)
