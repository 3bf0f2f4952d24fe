-- Sorts, descriptions, aliases, and the types of components.
use Rattle.std.specs.Prelude.{ℕ, zero, suc, List, [], ◌∷◌, ◌++◌, Option, Some, None, Err, true, false, eqb, if◌then◌else◌}
use Rattle.wac_types_shapes.specs.declared.primitives.component.PrimitiveType.{PrimitiveType}
use Rattle.wac_types_shapes.specs.declared.primitives.component.PrimitiveType.TheVariants as p
use Rattle.wac_binary.specs.declared.types.ComponentValType.{ComponentValType}
use Rattle.wac_binary.specs.declared.types.ComponentValType.TheVariants.{Primitive, Index}
use Rattle.wac_binary.specs.declared.sorts.Sort.{Sort}
use Rattle.wac_binary.specs.declared.sorts.Sort.TheVariants as s
use Rattle.wac_binary.specs.declared.sorts.Description.{Description}
use Rattle.wac_binary.specs.declared.sorts.Description.TheVariants as e
use Rattle.wac_component.specs.declared.fault.TextFault.TheVariants.{Misplaced, Unsupported}
use Rattle.wac_component.specs.declared.fault.Feature.TheVariants.{CoreType, MapType, NamedResults, TooDeep, Values}
use Rattle.wac_types_shapes.specs.primitives.Name.{Name}
use Rattle.wac_binary.specs.Items.{ValueDef, primitive_def, record_def, variant_def, list_def, fixed_list_def, tuple_def, flags_def, enum_def, option_def, result_def, own_def, borrow_def, stream_def, future_def, Alias, export_alias, outer_alias, TypeDef, value_def, func_def, component_def, instance_def, decls, Decl, core_type_decl, type_decl, alias_decl, import_decl, export_decl}
use Rattle.wac_component.specs.Parts.{CoreSort, func_sort, table_sort, memory_sort, global_sort, tag_sort, type_sort, module_sort, instance_sort, AnyAlias, component_alias, core_export_alias, core_outer_alias}
use Rattle.wac_component.specs.Reader.{Reader, done, fails, ◌>>=◌, made, made2, byte, peeked, chosen, one_of, one_in, rows, each_of}
use Rattle.wac_component.specs.Numbers.{number_at, signed_at, name_at, extern_name_at, vector_at, optional_at}
use Rattle.wac_component.specs.CoreTypes.{module_decl_in_type_at, core_type_faults}

-- `core:sort`
unfoldable pub core_sort_at : Reader CoreSort
core_sort_at = one_in ((0, func_sort) ∷ (1, table_sort) ∷ (2, memory_sort) ∷ (3, global_sort) ∷ (4, tag_sort) ∷ (0x10, type_sort) ∷ (0x11, module_sort) ∷ (0x12, instance_sort) ∷ [])

-- A sort (`sort`). The core module is both a sort of Sort and a core sort.
pub data AnySort : Type 0 where
  component_sort : Sort → AnySort
  core_sort : CoreSort → AnySort

unfoldable pub any_sort_at : Reader AnySort
any_sort_at = one_of ((0, made core_sort core_sort_at) ∷ rows (λ t. done (component_sort t)) ((1, s.Func) ∷ (2, s.Value) ∷ (3, s.«Type») ∷ (4, s.Component) ∷ (5, s.Instance) ∷ []))

-- The core module is the one core sort of an argument, an export or an alias of one.
abbrev pub of_component : AnySort → Reader Sort
of_component (component_sort t) = done t
of_component (core_sort module_sort) = done s.CoreModule
of_component (core_sort t) = fails Misplaced

unfoldable pub sort_at : Reader Sort
sort_at = do
  t ← any_sort_at
  of_component t

-- `alias core export`, which has a core sort
abbrev pub core_export_alias_at : AnySort → Reader AnyAlias
core_export_alias_at (core_sort t) = made2 (core_export_alias t) number_at name_at
core_export_alias_at (component_sort t) = fails Misplaced

-- `alias export`
abbrev pub export_alias_at : AnySort → Reader AnyAlias
export_alias_at t = do
  sort ← of_component t
  made component_alias (made2 (export_alias sort) number_at name_at)

-- `alias outer`
abbrev pub outer_alias_at : AnySort → Reader AnyAlias
outer_alias_at (core_sort type_sort) = made2 core_outer_alias number_at number_at
outer_alias_at t = do
  sort ← of_component t
  made component_alias (made2 (outer_alias sort) number_at number_at)

-- `alias`
unfoldable pub alias_at : Reader AnyAlias
alias_at = do
  t ← any_sort_at
  one_of ((0, export_alias_at t) ∷ (1, core_export_alias_at t) ∷ (2, outer_alias_at t) ∷ [])

-- An alias in a type, which is of a sort of Sort.
abbrev pub in_type : AnyAlias → Reader Alias
in_type (component_alias a) = done a
in_type (core_outer_alias count index) = fails (Unsupported CoreType)
in_type (core_export_alias t i name) = fails Misplaced

unfoldable pub alias_in_type_at : Reader Alias
alias_in_type_at = do
  a ← alias_at
  in_type a

-- `externdesc`
unfoldable pub description_at : Reader Description
description_at = one_of (
    (0, one_of ((0x11, made e.CoreModule number_at) ∷ []))
    ∷ (1, made e.Func number_at)
    ∷ (2, fails (Unsupported Values))
    ∷ (3, one_of ((0, made e.Equal number_at) ∷ (1, done e.Fresh) ∷ []))
    ∷ (4, made e.Component number_at)
    ∷ (5, made e.Instance number_at)
    ∷ [])

-- `primvaltype`
abbrev pub primitives : List (ℕ × PrimitiveType)
primitives = (0x7f, p.Bool) ∷ (0x7e, p.S8) ∷ (0x7d, p.U8) ∷ (0x7c, p.S16) ∷ (0x7b, p.U16) ∷ (0x7a, p.S32) ∷ (0x79, p.U32) ∷ (0x78, p.S64) ∷ (0x77, p.U64) ∷ (0x76, p.F32) ∷ (0x75, p.F64) ∷ (0x74, p.Char) ∷ (0x73, p.String) ∷ (0x64, p.ErrorContext) ∷ []

-- `valtype`: the byte of a primitive type, or a type index.
unfoldable pub value_at : Reader ComponentValType
value_at = do
  b ← peeked
  chosen (made Index signed_at) (rows (λ t. made (λ first. Primitive t) byte) primitives) b

-- A field of a record, or a parameter (`labelvaltype`).
unfoldable pub field_at : Reader (Name × ComponentValType)
field_at = made2 (λ n t. (n, t)) name_at value_at

-- `case`
unfoldable pub case_at : Reader (Name × Option ComponentValType)
case_at = do
  name ← name_at
  t ← optional_at value_at
  one_of ((0, done (name, t)) ∷ [])

-- `defvaltype`, but for the primitive types
abbrev pub value_defs : List (ℕ × Reader ValueDef)
value_defs =
    (0x72, made record_def (vector_at field_at))
    ∷ (0x71, made variant_def (vector_at case_at))
    ∷ (0x70, made list_def value_at)
    ∷ (0x67, made2 fixed_list_def value_at number_at)
    ∷ (0x6f, made tuple_def (vector_at value_at))
    ∷ (0x6e, made flags_def (vector_at name_at))
    ∷ (0x6d, made enum_def (vector_at name_at))
    ∷ (0x6b, made option_def value_at)
    ∷ (0x6a, made2 result_def (optional_at value_at) (optional_at value_at))
    ∷ (0x69, made own_def number_at)
    ∷ (0x68, made borrow_def number_at)
    ∷ (0x66, made stream_def (optional_at value_at))
    ∷ (0x65, made future_def (optional_at value_at))
    ∷ (0x63, fails (Unsupported MapType))
    ∷ []

-- `resultlist`
unfoldable pub result_at : Reader (Option ComponentValType)
result_at = one_of ((0, made Some value_at) ∷ (1, none_at) ∷ [])
  where
    none_at : Reader (Option ComponentValType)
    none_at = do
      n ← number_at
      if eqb n 0 then done None else fails (Unsupported NamedResults)

-- `functype`
abbrev pub func_defs : List (ℕ × Reader TypeDef)
func_defs = (0x40, made2 (func_def false) (vector_at field_at) result_at) ∷ (0x43, made2 (func_def true) (vector_at field_at) result_at) ∷ []

-- What stands in a component type and in an instance type (`componentdecl`, `instancedecl`), if `inner` reads its types.
abbrev pub shared_decls : Reader TypeDef → List (ℕ × Reader Decl)
shared_decls inner =
    (0, one_of ((0x50, made core_type_decl (vector_at module_decl_in_type_at)) ∷ (0x60, fails (Unsupported CoreType)) ∷ core_type_faults))
    ∷ (1, made type_decl inner)
    ∷ (2, made alias_decl alias_in_type_at)
    ∷ (4, made2 export_decl extern_name_at description_at)
    ∷ []

-- The types but the resource types, if `inner` reads the types in their declarations.
abbrev pub type_defs : Reader TypeDef → List (ℕ × Reader TypeDef)
type_defs inner =
    rows (λ t. done (value_def (primitive_def t))) primitives
    ++ rows (made value_def) value_defs
    ++ func_defs
    ++ (0x41, made (λ ds. component_def (decls ds)) (vector_at (one_of ((3, made2 import_decl extern_name_at description_at) ∷ shared_decls inner))))
    ∷ (0x42, made (λ ds. instance_def (decls ds)) (vector_at (one_of (shared_decls inner))))
    ∷ []

-- `deftype` in a declaration, where a resource type cannot stand. Types stand in types at most `depth` deep.
unfoldable pub type_at : (depth : ℕ) → Reader TypeDef
type_at zero bytes = Err (Unsupported TooDeep)
type_at (suc depth) bytes = one_of (each_of (0x3f ∷ 0x3e ∷ []) (fails Misplaced) ++ type_defs (type_at depth)) bytes
