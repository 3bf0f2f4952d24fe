-- The index spaces, and the indexes that items and declarations add.
use Rattle.std.specs.Prelude.{ℕ, ◌+◌, List, [], ◌∷◌, Option, Some, None, eqb, if◌then◌else◌}
use Rattle.wac_binary.specs.declared.sorts.Sort.{Sort}
use Rattle.wac_binary.specs.declared.sorts.Sort.TheVariants as s
use Rattle.wac_binary.specs.declared.sorts.Description.{Description}
use Rattle.wac_binary.specs.declared.sorts.Description.TheVariants as e
use Rattle.wac_binary.specs.Items.{ModuleDecl, module_import, module_func, module_export, Alias, export_alias, outer_alias, Decl, core_type_decl, type_decl, alias_decl, import_decl, export_decl, Item, custom, core_type, nested, instantiate, alias_item, type_item, import_item, export_item}

-- The number of the index space of a sort.
abbrev pub space : Sort → ℕ
space s.CoreModule = 0
space s.Func = 1
space s.Value = 2
space s.Type = 3
space s.Component = 4
space s.Instance = 5

-- The number of the index space of core types.
abbrev pub core_types : ℕ
core_types = 6

-- The sort of the described import or export.
abbrev pub described_sort : Description → Sort
described_sort (e.CoreModule i) = s.CoreModule
described_sort (e.Func i) = s.Func
described_sort (e.Equal i) = s.Type
described_sort e.Fresh = s.Type
described_sort (e.Component i) = s.Component
described_sort (e.Instance i) = s.Instance

abbrev pub alias_sort : Alias → Sort
alias_sort (export_alias t i name) = t
alias_sort (outer_alias t count i) = t

-- The sort of the index that an item adds, if it adds one; core types have no sort.
abbrev pub sort_added : Item → Option Sort
sort_added (custom name bytes) = None
sort_added (core_type m) = None
sort_added (nested bytes) = Some s.Component
sort_added (instantiate c args) = Some s.Instance
sort_added (alias_item x) = Some (alias_sort x)
sort_added (type_item t) = Some s.Type
sort_added (import_item name d) = Some (described_sort d)
sort_added (export_item name t i) = Some t

-- The index space that an item adds to, if it adds an index.
abbrev pub adds : Item → Option ℕ
adds (custom name bytes) = None
adds (core_type m) = Some core_types
adds (nested bytes) = Some (space s.Component)
adds (instantiate c args) = Some (space s.Instance)
adds (alias_item x) = Some (space (alias_sort x))
adds (type_item t) = Some (space s.Type)
adds (import_item name d) = Some (space (described_sort d))
adds (export_item name t i) = Some (space t)

abbrev pub is_in : ℕ → Option ℕ → ℕ
is_in k None = 0
is_in k (Some j) = if eqb j k then 1 else 0

-- The number of indexes that the items add to space k.
abbrev pub indexes : ℕ → List Item → ℕ
indexes k [] = 0
indexes k (x ∷ xs) = is_in k (adds x) + indexes k xs

-- The index space that a declaration adds to.
abbrev pub decl_adds : Decl → ℕ
decl_adds (core_type_decl m) = core_types
decl_adds (type_decl t) = space s.Type
decl_adds (alias_decl x) = space (alias_sort x)
decl_adds (import_decl n d) = space (described_sort d)
decl_adds (export_decl n d) = space (described_sort d)

-- The number of indexes that the declarations add to space k.
abbrev pub declared : ℕ → List Decl → ℕ
declared k [] = 0
declared k (d ∷ ds) = (if eqb (decl_adds d) k then 1 else 0) + declared k ds

-- The number of function types among the declarations of a core module type.
abbrev pub function_types : List ModuleDecl → ℕ
function_types [] = 0
function_types (module_func ps rs ∷ ds) = 1 + function_types ds
function_types (module_import m n x ∷ ds) = function_types ds
function_types (module_export n x ∷ ds) = function_types ds
