-- The bytes of items and of whole components (Binary.md).
use Rattle.std.specs.Prelude.{ℕ, ◌+◌, ◌*◌, List, [], ◌∷◌, ◌++◌, length, Option, Some, None, Bool, true, false, ◌&&◌, if◌then◌else◌, eqb}
use Rattle.std.specs.List.{flat_map}
use Rattle.wac_types_shapes.specs.declared.primitives.component.PrimitiveType.{PrimitiveType}
use Rattle.wac_types_shapes.specs.declared.primitives.component.PrimitiveType.TheVariants as p
use Rattle.wac_types_shapes.specs.declared.primitives.core_types.CoreRefType.{CoreRefType}
use Rattle.wac_types_shapes.specs.declared.primitives.core_types.CoreRefType.TheVariants as r
use Rattle.wac_types_shapes.specs.declared.primitives.core_types.CoreType.{CoreType}
use Rattle.wac_types_shapes.specs.declared.primitives.core_types.CoreType.TheVariants as c
use Rattle.wac_types_shapes.specs.primitives.Name.{Name}
use Rattle.wac_binary.specs.declared.core_types.EntityType.{EntityType}
use Rattle.wac_binary.specs.declared.core_types.EntityType.TheVariants as t
use Rattle.wac_binary.specs.declared.core_types.TableType.{TableType}
use Rattle.wac_binary.specs.declared.core_types.MemoryType.{MemoryType}
use Rattle.wac_binary.specs.declared.core_types.GlobalType.{GlobalType}
use Rattle.wac_binary.specs.declared.types.ComponentValType.{ComponentValType}
use Rattle.wac_binary.specs.declared.types.ComponentValType.TheVariants.{Primitive, Index}
use Rattle.wac_binary.specs.declared.sorts.Sort.{Sort}
use Rattle.wac_binary.specs.declared.sorts.Sort.TheVariants as s
use Rattle.wac_binary.specs.declared.sorts.Description.{Description}
use Rattle.wac_binary.specs.declared.sorts.Description.TheVariants as e
use Rattle.wac_binary.specs.Items.{ValueDef, primitive_def, record_def, variant_def, list_def, fixed_list_def, tuple_def, flags_def, enum_def, option_def, result_def, own_def, borrow_def, stream_def, future_def, Alias, export_alias, outer_alias, TypeDef, value_def, func_def, component_def, instance_def, ModuleDecl, module_import, module_func, module_export, Decls, end, next, Decl, core_type_decl, type_decl, alias_decl, import_decl, export_decl, Item, custom, core_type, nested, instantiate, alias_item, type_item, import_item, export_item}
use Rattle.wac_binary.specs.Leb.{unsigned, signed}

-- A text: its length in bytes, then its bytes.
abbrev pub text : List ℕ → List ℕ
text t = unsigned (length t) ++ t

-- A vector: the number of its elements, then each element (`vec`).
abbrev pub vector : {A : Type 0} → (A → List ℕ) → List A → List ℕ
vector f xs = unsigned (length xs) ++ flat_map f xs

abbrev pub primitive : PrimitiveType → ℕ
primitive p.Bool = 0x7f
primitive p.S8 = 0x7e
primitive p.U8 = 0x7d
primitive p.S16 = 0x7c
primitive p.U16 = 0x7b
primitive p.S32 = 0x7a
primitive p.U32 = 0x79
primitive p.S64 = 0x78
primitive p.U64 = 0x77
primitive p.F32 = 0x76
primitive p.F64 = 0x75
primitive p.Char = 0x74
primitive p.String = 0x73
primitive p.ErrorContext = 0x64

-- A value type in use: the byte of a primitive type, or a type index as a signed number (`valtype`).
abbrev pub value : ComponentValType → List ℕ
value (Primitive t) = primitive t ∷ []
value (Index i) = signed i

abbrev pub optional : Option ComponentValType → List ℕ
optional None = 0 ∷ []
optional (Some t) = 1 ∷ value t

-- A field of a record, or a parameter (`labelvaltype`).
abbrev pub field : Name × ComponentValType → List ℕ
field f = text f.0 ++ value f.1

-- A case of a variant (`case`).
abbrev pub case : Name × Option ComponentValType → List ℕ
case c = text c.0 ++ optional c.1 ++ 0 ∷ []

abbrev pub value_def_bytes : ValueDef → List ℕ
value_def_bytes (primitive_def t) = primitive t ∷ []
value_def_bytes (record_def fs) = 0x72 ∷ vector field fs
value_def_bytes (variant_def cs) = 0x71 ∷ vector case cs
value_def_bytes (list_def t) = 0x70 ∷ value t
value_def_bytes (fixed_list_def t n) = 0x67 ∷ (value t ++ unsigned n)
value_def_bytes (tuple_def ts) = 0x6f ∷ vector value ts
value_def_bytes (flags_def ns) = 0x6e ∷ vector text ns
value_def_bytes (enum_def ns) = 0x6d ∷ vector text ns
value_def_bytes (option_def t) = 0x6b ∷ value t
value_def_bytes (result_def ok err) = 0x6a ∷ (optional ok ++ optional err)
value_def_bytes (own_def i) = 0x69 ∷ unsigned i
value_def_bytes (borrow_def i) = 0x68 ∷ unsigned i
value_def_bytes (stream_def t) = 0x66 ∷ optional t
value_def_bytes (future_def t) = 0x65 ∷ optional t

-- The result of a function, or that it has none (`resultlist`).
abbrev pub outcome : Option ComponentValType → List ℕ
outcome None = 1 ∷ 0 ∷ []
outcome (Some t) = 0 ∷ value t

abbrev pub func_bytes : Bool → List (Name × ComponentValType) → Option ComponentValType → List ℕ
func_bytes is_async params result = (if is_async then 0x43 else 0x40) ∷ (vector field params ++ outcome result)

abbrev pub sort : Sort → List ℕ
sort s.CoreModule = 0 ∷ 0x11 ∷ []
sort s.Func = 1 ∷ []
sort s.Value = 2 ∷ []
sort s.Type = 3 ∷ []
sort s.Component = 4 ∷ []
sort s.Instance = 5 ∷ []

abbrev pub described : Description → List ℕ
described (e.CoreModule i) = 0 ∷ 0x11 ∷ unsigned i
described (e.Func i) = 1 ∷ unsigned i
described (e.Equal i) = 3 ∷ 0 ∷ unsigned i
described e.Fresh = 3 ∷ 1 ∷ []
described (e.Component i) = 4 ∷ unsigned i
described (e.Instance i) = 5 ∷ unsigned i

abbrev pub alias_bytes : Alias → List ℕ
alias_bytes (export_alias t i name) = sort t ++ 0 ∷ (unsigned i ++ text name)
alias_bytes (outer_alias t count i) = sort t ++ 2 ∷ (unsigned count ++ unsigned i)

-- Core types.

abbrev pub core_ref : CoreRefType → ℕ
core_ref r.FuncRef = 0x70
core_ref r.ExternRef = 0x6f

abbrev pub core_value : CoreType → ℕ
core_value c.I32 = 0x7f
core_value c.I64 = 0x7e
core_value c.F32 = 0x7d
core_value c.F64 = 0x7c
core_value c.V128 = 0x7b
core_value (c.Ref e) = core_ref e

abbrev pub core_val : CoreType → List ℕ
core_val v = core_value v ∷ []

abbrev pub bit : Bool → ℕ
bit b = if b then 1 else 0

-- 1 if there is a number, else 0.
abbrev pub there : Option ℕ → ℕ
there None = 0
there (Some n) = 1

abbrev pub number : Option ℕ → List ℕ
number None = []
number (Some n) = unsigned n

-- Limits: the flags, the minimum, then the maximum and the logarithm of the page size if they are given.
abbrev pub limits : (shared is64 : Bool) → (minimum : ℕ) → (maximum page : Option ℕ) → List ℕ
limits shared is64 minimum maximum page = (there maximum + 2 * bit shared + 4 * bit is64 + 8 * there page) ∷ (unsigned minimum ++ number maximum ++ number page)

abbrev pub table_bytes : TableType → List ℕ
table_bytes x = core_ref x.element_type ∷ limits x.shared x.table64 x.minimum x.maximum None

abbrev pub memory_bytes : MemoryType → List ℕ
memory_bytes x = limits x.shared x.memory64 x.minimum x.maximum x.page_size_log2

abbrev pub global_bytes : GlobalType → List ℕ
global_bytes x = core_value x.val_type ∷ (bit x.mutable + 2 * bit x.shared) ∷ []

-- The type of an import or export of a core module.
abbrev pub entity : EntityType → List ℕ
entity (t.Function i) = 0 ∷ unsigned i
entity (t.Table x) = 1 ∷ table_bytes x
entity (t.Memory x) = 2 ∷ memory_bytes x
entity (t.Global x) = 3 ∷ global_bytes x
entity (t.Tag i) = 4 ∷ 0 ∷ unsigned i

abbrev pub module_decl_bytes : ModuleDecl → List ℕ
module_decl_bytes (module_import m n x) = 0 ∷ (text m ++ text n ++ entity x)
module_decl_bytes (module_func ps rs) = 1 ∷ 0x60 ∷ (vector core_val ps ++ vector core_val rs)
module_decl_bytes (module_export n x) = 3 ∷ (text n ++ entity x)

-- A core module type (`core:moduletype`).
abbrev pub module_bytes : List ModuleDecl → List ℕ
module_bytes ds = 0x50 ∷ vector module_decl_bytes ds

-- The number of declarations.
abbrev pub count : Decls → ℕ
count end = 0
count (next d ds) = 1 + count ds

abbrev mutual
  pub type_bytes : TypeDef → List ℕ
  type_bytes (value_def t) = value_def_bytes t
  type_bytes (func_def is_async params result) = func_bytes is_async params result
  type_bytes (component_def ds) = 0x41 ∷ (unsigned (count ds) ++ decls_bytes ds)
  type_bytes (instance_def ds) = 0x42 ∷ (unsigned (count ds) ++ decls_bytes ds)

  pub decl_bytes : Decl → List ℕ
  decl_bytes (core_type_decl m) = 0 ∷ module_bytes m
  decl_bytes (type_decl t) = 1 ∷ type_bytes t
  decl_bytes (alias_decl a) = 2 ∷ alias_bytes a
  decl_bytes (import_decl n d) = 3 ∷ 0 ∷ (text n ++ described d)
  decl_bytes (export_decl n d) = 4 ∷ 0 ∷ (text n ++ described d)

  pub decls_bytes : Decls → List ℕ
  decls_bytes end = []
  decls_bytes (next d ds) = decl_bytes d ++ decls_bytes ds

-- An argument of an instantiation (`instantiatearg`).
abbrev pub argument : Name × Sort × ℕ → List ℕ
argument a = text a.0 ++ sort a.1 ++ unsigned a.2

-- The bytes of an item, without the head of its section.
abbrev pub item_bytes : Item → List ℕ
item_bytes (custom name bytes) = text name ++ bytes
item_bytes (core_type m) = module_bytes m
item_bytes (nested bytes) = bytes
item_bytes (instantiate c args) = 0 ∷ (unsigned c ++ vector argument args)
item_bytes (alias_item a) = alias_bytes a
item_bytes (type_item t) = type_bytes t
item_bytes (import_item n d) = 0 ∷ (text n ++ described d)
item_bytes (export_item n t i) = 0 ∷ (text n ++ sort t ++ unsigned i ++ 0 ∷ [])

-- The id of the section that contains an item.
abbrev pub section_id : Item → ℕ
section_id (custom name bytes) = 0
section_id (core_type m) = 3
section_id (nested bytes) = 4
section_id (instantiate c args) = 5
section_id (alias_item a) = 6
section_id (type_item t) = 7
section_id (import_item n d) = 10
section_id (export_item n t i) = 11

-- Whether a section of this id contains a vector of items.
abbrev pub is_shared : ℕ → Bool
is_shared id = if eqb id 0 then false else if eqb id 4 then false else true

-- A section: its id, the number of its items, and their bytes.
pub record Section : Type 0 where
  pub id : ℕ
  pub count : ℕ
  pub things : List ℕ

-- The section of a single item.
abbrev pub alone : Item → Section
alone i = record { id = section_id i; count = 1; things = item_bytes i }

-- Whether an item is added to the section before it.
abbrev pub joins : Section → Item → Bool
joins s i = is_shared s.id && eqb s.id (section_id i)

abbrev pub joined : Section → Item → Section
joined s i = record { id = s.id; count = s.count + 1; things = s.things ++ item_bytes i }

-- The sections of an open section and further items: neighbours of one id share a section.
abbrev pub sections_from : Section → List Item → List Section
sections_from s [] = s ∷ []
sections_from s (i ∷ is) = if joins s i then sections_from (joined s i) is else s ∷ sections_from (alone i) is

abbrev pub sections : List Item → List Section
sections [] = []
sections (i ∷ is) = sections_from (alone i) is

-- The contents of a section, which follow its size.
abbrev pub contents : Section → List ℕ
contents s = (if is_shared s.id then unsigned s.count else []) ++ s.things

abbrev pub section_bytes : Section → List ℕ
section_bytes s = s.id ∷ (unsigned (length (contents s)) ++ contents s)

abbrev pub preamble : List ℕ
preamble = 0x00 ∷ 0x61 ∷ 0x73 ∷ 0x6d ∷ 0x0d ∷ 0x00 ∷ 0x01 ∷ 0x00 ∷ []

-- The bytes of a component: the preamble, then its sections (`component`).
unfoldable pub bytes_of : List Item → List ℕ
bytes_of items = preamble ++ flat_map section_bytes (sections items)
