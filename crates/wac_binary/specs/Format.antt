-- Items and declarations that are in the format (Binary.md): each number fits its field, and each text is UTF-8.
use Rattle.std.specs.Prelude.{ℕ, ◌≡◌, ◌<◌, ◌^◌, true, List, Option, Some, None, IfSome}
use Rattle.std.specs.List.{AllByRecursion}
use Rattle.std.specs.Str.{is_utf8}
use Rattle.wac_types_shapes.specs.primitives.Name.{Name}
use Rattle.wac_binary.specs.declared.core_types.EntityType.{EntityType}
use Rattle.wac_binary.specs.declared.core_types.EntityType.TheVariants as t
use Rattle.wac_binary.specs.declared.types.ComponentValType.{ComponentValType}
use Rattle.wac_binary.specs.declared.types.ComponentValType.TheVariants.{Primitive, Index}
use Rattle.wac_binary.specs.declared.sorts.Sort.{Sort}
use Rattle.wac_binary.specs.declared.sorts.Description.{Description}
use Rattle.wac_binary.specs.declared.sorts.Description.TheVariants as e
use Rattle.wac_binary.specs.Items.{ValueDef, primitive_def, record_def, variant_def, list_def, fixed_list_def, tuple_def, flags_def, enum_def, option_def, result_def, own_def, borrow_def, stream_def, future_def, Alias, export_alias, outer_alias, TypeDef, value_def, func_def, component_def, instance_def, ModuleDecl, module_import, module_func, module_export, Decls, end, next, Decl, core_type_decl, type_decl, alias_decl, import_decl, export_decl, Item, custom, core_type, nested, instantiate, alias_item, type_item, import_item, export_item}

-- A number of 32 bits, as each index and each count (`u32`).
abbrev pub IsU32 : ℕ → Type 0
IsU32 n = n < 2 ^ 32

-- A number of 64 bits, as a limit of a table or memory (`u64`).
abbrev pub IsU64 : ℕ → Type 0
IsU64 n = n < 2 ^ 64

-- A text in UTF-8 (`name`).
abbrev pub IsText : Name → Type 0
IsText t = is_utf8 t ≡ true

-- Bytes (`byte*`).
abbrev pub AreBytes : List ℕ → Type 0
AreBytes bytes = AllByRecursion (λ b. b < 2 ^ 8) bytes

-- A value type in use (`valtype`).
abbrev pub ValIsInFormat : ComponentValType → Type 0
ValIsInFormat (Primitive p) = Unit
ValIsInFormat (Index i) = IsU32 i

-- A value type in use, if there is one (`valtype?`).
abbrev pub OptionIsInFormat : Option ComponentValType → Type 0
OptionIsInFormat None = Unit
OptionIsInFormat (Some v) = ValIsInFormat v

-- A field of a record, or a parameter (`labelvaltype`).
abbrev pub FieldIsInFormat : Name × ComponentValType → Type 0
FieldIsInFormat f = IsText f.0 × ValIsInFormat f.1

-- A case of a variant (`case`).
abbrev pub CaseIsInFormat : Name × Option ComponentValType → Type 0
CaseIsInFormat c = IsText c.0 × OptionIsInFormat c.1

-- The definition of a value type (`defvaltype`).
abbrev pub ValueIsInFormat : ValueDef → Type 0
ValueIsInFormat (primitive_def p) = Unit
ValueIsInFormat (record_def fields) = AllByRecursion FieldIsInFormat fields
ValueIsInFormat (variant_def cases) = AllByRecursion CaseIsInFormat cases
ValueIsInFormat (list_def v) = ValIsInFormat v
ValueIsInFormat (fixed_list_def v size) = ValIsInFormat v × IsU32 size
ValueIsInFormat (tuple_def vs) = AllByRecursion ValIsInFormat vs
ValueIsInFormat (flags_def names) = AllByRecursion IsText names
ValueIsInFormat (enum_def names) = AllByRecursion IsText names
ValueIsInFormat (option_def v) = ValIsInFormat v
ValueIsInFormat (result_def ok err) = OptionIsInFormat ok × OptionIsInFormat err
ValueIsInFormat (own_def i) = IsU32 i
ValueIsInFormat (borrow_def i) = IsU32 i
ValueIsInFormat (stream_def v) = OptionIsInFormat v
ValueIsInFormat (future_def v) = OptionIsInFormat v

-- The description of an import or export (`externdesc`).
abbrev pub DescriptionIsInFormat : Description → Type 0
DescriptionIsInFormat (e.CoreModule i) = IsU32 i
DescriptionIsInFormat (e.Func i) = IsU32 i
DescriptionIsInFormat (e.Equal i) = IsU32 i
DescriptionIsInFormat e.Fresh = Unit
DescriptionIsInFormat (e.Component i) = IsU32 i
DescriptionIsInFormat (e.Instance i) = IsU32 i

-- An alias (`alias`).
abbrev pub AliasIsInFormat : Alias → Type 0
AliasIsInFormat (export_alias t i n) = IsU32 i × IsText n
AliasIsInFormat (outer_alias t count i) = IsU32 count × IsU32 i

-- The type of an import or export of a core module (`core:externtype`).
abbrev pub EntityIsInFormat : EntityType → Type 0
EntityIsInFormat (t.Function i) = IsU32 i
EntityIsInFormat (t.Table x) = IsU64 x.minimum × IfSome x.maximum IsU64
EntityIsInFormat (t.Memory x) = IsU64 x.minimum × IfSome x.maximum IsU64 × IfSome x.page_size_log2 IsU32
EntityIsInFormat (t.Global x) = Unit
EntityIsInFormat (t.Tag i) = IsU32 i

-- A declaration of a core module type (`core:moduledecl`).
abbrev pub ModuleDeclIsInFormat : ModuleDecl → Type 0
ModuleDeclIsInFormat (module_import m n x) = IsText m × IsText n × EntityIsInFormat x
ModuleDeclIsInFormat (module_func params results) = Unit
ModuleDeclIsInFormat (module_export n x) = IsText n × EntityIsInFormat x

-- A core module type (`core:moduletype`).
abbrev pub ModuleIsInFormat : List ModuleDecl → Type 0
ModuleIsInFormat ds = AllByRecursion ModuleDeclIsInFormat ds

abbrev mutual
  -- The definition of a type (`deftype`).
  pub TypeIsInFormat : TypeDef → Type 0
  TypeIsInFormat (value_def t) = ValueIsInFormat t
  TypeIsInFormat (func_def is_async params result) = AllByRecursion FieldIsInFormat params × OptionIsInFormat result
  TypeIsInFormat (component_def ds) = DeclsAreInFormat ds
  TypeIsInFormat (instance_def ds) = DeclsAreInFormat ds

  -- The declarations of a component type or an instance type.
  pub DeclsAreInFormat : Decls → Type 0
  DeclsAreInFormat end = Unit
  DeclsAreInFormat (next d ds) = DeclIsInFormat d × DeclsAreInFormat ds

  -- A declaration of a component type or an instance type (`componentdecl`, `instancedecl`).
  pub DeclIsInFormat : Decl → Type 0
  DeclIsInFormat (core_type_decl m) = ModuleIsInFormat m
  DeclIsInFormat (type_decl t) = TypeIsInFormat t
  DeclIsInFormat (alias_decl a) = AliasIsInFormat a
  DeclIsInFormat (import_decl n d) = IsText n × DescriptionIsInFormat d
  DeclIsInFormat (export_decl n d) = IsText n × DescriptionIsInFormat d

-- An argument of an instantiation (`instantiatearg`).
abbrev pub ArgumentIsInFormat : Name × Sort × ℕ → Type 0
ArgumentIsInFormat a = IsText a.0 × IsU32 a.2

-- An item: a custom section, or an element of another section.
abbrev pub ItemIsInFormat : Item → Type 0
ItemIsInFormat (custom n bytes) = IsText n × AreBytes bytes
ItemIsInFormat (core_type m) = ModuleIsInFormat m
ItemIsInFormat (nested bytes) = AreBytes bytes
ItemIsInFormat (instantiate c args) = IsU32 c × AllByRecursion ArgumentIsInFormat args
ItemIsInFormat (alias_item a) = AliasIsInFormat a
ItemIsInFormat (type_item t) = TypeIsInFormat t
ItemIsInFormat (import_item n d) = IsText n × DescriptionIsInFormat d
ItemIsInFormat (export_item n t i) = IsText n × IsU32 i

-- The items of a component. `Fits` bounds the counts and lengths that precede lists and texts.
abbrev pub AreInFormat : List Item → Type 0
AreInFormat items = AllByRecursion ItemIsInFormat items
