-- The parts of a component in the order of its file (Binary.md). Types, declarations, aliases and descriptions are those of Items.
use Rattle.std.specs.Prelude.{ℕ, Bool, List, [], ◌∷◌, Option}
use Rattle.wac_types_shapes.specs.declared.primitives.core_types.CoreType.{CoreType}
use Rattle.wac_binary.specs.declared.types.ComponentValType.{ComponentValType}
use Rattle.wac_binary.specs.declared.sorts.Sort.{Sort}
use Rattle.wac_binary.specs.declared.sorts.Description.{Description}
use Rattle.wac_types_shapes.specs.primitives.Name.{Name}
use Rattle.wac_binary.specs.Items.{Alias, ModuleDecl, TypeDef}

-- A core sort (`core:sort`).
pub data CoreSort : Type 0 where
  func_sort : CoreSort
  table_sort : CoreSort
  memory_sort : CoreSort
  global_sort : CoreSort
  tag_sort : CoreSort
  type_sort : CoreSort
  module_sort : CoreSort
  instance_sort : CoreSort

-- An option of a canonical function (`canonopt`).
pub data CanonOption : Type 0 where
  -- `string-encoding=utf8`
  utf8 : CanonOption
  -- `string-encoding=utf16`
  utf16 : CanonOption
  -- `string-encoding=latin1+utf16`
  latin1_utf16 : CanonOption
  memory : («memory» : ℕ) → CanonOption
  realloc : (function : ℕ) → CanonOption
  post_return : (function : ℕ) → CanonOption
  async : CanonOption
  callback : (function : ℕ) → CanonOption
  -- `core-type`
  function_type_option : («type» : ℕ) → CanonOption
  gc : CanonOption

-- What stands after the opcode of a canonical built-in.
pub data Operand : Type 0 where
  -- `typeidx`
  type_operand : (index : ℕ) → Operand
  -- `core:typeidx`
  core_type_operand : (index : ℕ) → Operand
  -- `core:tableidx`
  table_operand : (index : ℕ) → Operand
  -- `core:memidx`
  memory_operand : (index : ℕ) → Operand
  -- `async?`, `cancel?`, `sh?`
  flag_operand : Bool → Operand
  -- `resultlist`
  result_operand : Option ComponentValType → Operand
  -- The type and the number of a slot of `context.get` and `context.set`.
  slot_operand : CoreType → ℕ → Operand
  -- `opts`
  options_operand : List CanonOption → Operand

-- A canonical function (`canon`).
pub data Canon : Type 0 where
  -- `canon lift`: a function
  lift : (function : ℕ) → List CanonOption → («type» : ℕ) → Canon
  -- `canon lower`: a core function
  lower : (function : ℕ) → List CanonOption → Canon
  -- A built-in, by its opcode: a core function.
  builtin : (opcode : ℕ) → List Operand → Canon

-- A core instance (`core:instanceexpr`).
pub data CoreInstance : Type 0 where
  -- `core instantiate`: a module, and an instance for each argument
  core_instantiate : («module» : ℕ) → (arguments : List (Name × ℕ)) → CoreInstance
  -- `core export`s
  core_exports : List (Name × CoreSort × ℕ) → CoreInstance

-- A declaration of a core module type (`core:moduledecl`).
pub data CoreDecl : Type 0 where
  -- An import, a function type or an export.
  module_decl : ModuleDecl → CoreDecl
  -- `alias outer` of a core type
  outer_decl : (count index : ℕ) → CoreDecl

-- A core type (`core:type`).
pub data CoreTypeDef : Type 0 where
  -- `core:moduletype`
  module_type : List CoreDecl → CoreTypeDef
  -- `core:functype`
  function_type : (params results : List CoreType) → CoreTypeDef

-- A resource type (`resourcetype`): its representation, its destructor, and the callback of one that is async.
pub data ResourceDef : Type 0 where
  resource_def : (representation : CoreType) → (destructor : Option ℕ) → ResourceDef
  async_resource_def : (representation : CoreType) → (destructor : ℕ) → (callback : Option ℕ) → ResourceDef

-- An alias in a component (`alias`).
pub data AnyAlias : Type 0 where
  -- `alias export`, and `alias outer` of a sort of Sort
  component_alias : Alias → AnyAlias
  -- `alias core export`
  core_export_alias : CoreSort → («instance» : ℕ) → Name → AnyAlias
  -- `alias outer` of a core type
  core_outer_alias : (count index : ℕ) → AnyAlias

mutual
  -- A part: what one element of a section is, or a whole section of the ids 0, 1 and 4.
  pub data Part : Type 0 where
    -- `core:custom`
    custom_part : Name → (bytes : List ℕ) → Part
    -- `core:module`: its bytes
    module_part : (bytes : List ℕ) → Part
    core_instance_part : CoreInstance → Part
    core_type_part : CoreTypeDef → Part
    component_part : Parts → Part
    -- `instanceexpr`: an instance of a component
    instantiate_part : («component» : ℕ) → (arguments : List (Name × Sort × ℕ)) → Part
    -- `instanceexpr`: an instance of `inlineexport`s
    exports_part : List (Name × Sort × ℕ) → Part
    alias_part : AnyAlias → Part
    type_part : TypeDef → Part
    resource_part : ResourceDef → Part
    canon_part : Canon → Part
    import_part : Name → Description → Part
    -- `export`, with its ascription if there is one
    export_part : Name → Sort → (index : ℕ) → Option Description → Part

  -- Parts in order.
  pub data Parts : Type 0 where
    nothing : Parts
    more : Part → Parts → Parts

-- The parts of a list.
abbrev pub parts : List Part → Parts
parts [] = nothing
parts (p ∷ ps) = more p (parts ps)
