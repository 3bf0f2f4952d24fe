-- Tables of the grammar, cut as the functions of the reader are.
use Rattle.std.specs.Prelude.{ℕ, List, [], ◌∷◌, ◌++◌, Bool, true, false, Option, Some, None}
use Rattle.wac_types_shapes.specs.declared.primitives.component.PrimitiveType.{PrimitiveType}
use Rattle.wac_component.specs.declared.fault.TextFault.TheVariants.{Unsupported}
use Rattle.wac_component.specs.declared.fault.Feature.TheVariants.{CoreType, MapType}
use Rattle.wac_binary.specs.Items.{ValueDef, primitive_def, list_def, fixed_list_def, option_def, result_def, own_def, borrow_def, stream_def, future_def, TypeDef, value_def, Decl, import_decl, core_type_decl}
use Rattle.wac_component.specs.Reader.{Reader, done, fails, made, made2, chosen, one_of, rows}
use Rattle.wac_component.specs.Numbers.{number_at, optional_at, extern_name_at, vector_at}
use Rattle.wac_component.specs.CoreTypes.{module_decl_in_type_at, core_type_faults}
use Rattle.wac_component.specs.Types.{primitives, value_at, value_defs, description_at, shared_decls}

-- The primitive type of a byte.
unfoldable pub primitive_of : ℕ → Option PrimitiveType
primitive_of b = chosen None (rows Some primitives) b

-- The definitions of value types that have no vector.
abbrev pub plain_defs : List (ℕ × Reader ValueDef)
plain_defs =
    (0x70, made list_def value_at)
    ∷ (0x67, made2 fixed_list_def value_at number_at)
    ∷ (0x6b, made option_def value_at)
    ∷ (0x6a, made2 result_def (optional_at value_at) (optional_at value_at))
    ∷ (0x69, made own_def number_at)
    ∷ (0x68, made borrow_def number_at)
    ∷ (0x66, made stream_def (optional_at value_at))
    ∷ (0x65, made future_def (optional_at value_at))
    ∷ (0x63, fails (Unsupported MapType))
    ∷ []

-- The value types.
abbrev pub value_types : List (ℕ × Reader TypeDef)
value_types = rows (λ t. done (value_def (primitive_def t))) primitives ++ rows (made value_def) value_defs

-- Whether a byte is the first of a resource type.
unfoldable pub is_resource : ℕ → Bool
is_resource b = chosen false ((0x3f, true) ∷ (0x3e, true) ∷ []) b

-- What stands in a component type, or else in an instance type, if `inner` reads its types.
unfoldable pub decl_at : (in_component : Bool) → Reader TypeDef → Reader Decl
decl_at true inner = one_of ((3, made2 import_decl extern_name_at description_at) ∷ shared_decls inner)
decl_at false inner = one_of (shared_decls inner)

-- A core type in a declaration.
unfoldable pub core_type_decl_at : Reader Decl
core_type_decl_at = one_of ((0x50, made core_type_decl (vector_at module_decl_in_type_at)) ∷ (0x60, fails (Unsupported CoreType)) ∷ core_type_faults)
