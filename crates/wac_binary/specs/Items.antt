-- The items of a component, and the declarations of its types (Binary.md).
use Rattle.std.specs.Prelude.{ℕ, Bool, List, [], ◌∷◌, Option}
use Rattle.wac_types_shapes.specs.declared.primitives.component.PrimitiveType.{PrimitiveType}
use Rattle.wac_types_shapes.specs.declared.primitives.core_types.CoreType.{CoreType}
use Rattle.wac_types_shapes.specs.primitives.Name.{Name}
use Rattle.wac_binary.specs.declared.types.ComponentValType.{ComponentValType}
use Rattle.wac_binary.specs.declared.core_types.EntityType.{EntityType}
use Rattle.wac_binary.specs.declared.sorts.Sort.{Sort}
use Rattle.wac_binary.specs.declared.sorts.Description.{Description}

-- The definition of a value type (`defvaltype`).
pub data ValueDef : Type 0 where
  primitive_def : PrimitiveType → ValueDef
  record_def : List (Name × ComponentValType) → ValueDef
  variant_def : List (Name × Option ComponentValType) → ValueDef
  list_def : ComponentValType → ValueDef
  fixed_list_def : ComponentValType → (size : ℕ) → ValueDef
  tuple_def : List ComponentValType → ValueDef
  flags_def : List Name → ValueDef
  enum_def : List Name → ValueDef
  option_def : ComponentValType → ValueDef
  result_def : (ok err : Option ComponentValType) → ValueDef
  own_def : (resource : ℕ) → ValueDef
  borrow_def : (resource : ℕ) → ValueDef
  stream_def : Option ComponentValType → ValueDef
  future_def : Option ComponentValType → ValueDef

-- An alias of an instance's export, or of an index of an enclosing scope (`alias`).
pub data Alias : Type 0 where
  export_alias : Sort → (instance : ℕ) → Name → Alias
  outer_alias : Sort → (count index : ℕ) → Alias

-- A declaration of a core module type (`core:moduledecl`).
pub data ModuleDecl : Type 0 where
  module_import : («module» name : Name) → EntityType → ModuleDecl
  module_func : (params results : List CoreType) → ModuleDecl
  module_export : (name : Name) → EntityType → ModuleDecl

mutual
  -- The definition of a type (`deftype`).
  pub data TypeDef : Type 0 where
    value_def : ValueDef → TypeDef
    func_def : (is_async : Bool) → (params : List (Name × ComponentValType)) → (outcome : Option ComponentValType) → TypeDef
    component_def : Decls → TypeDef
    instance_def : Decls → TypeDef

  -- Declarations in order.
  pub data Decls : Type 0 where
    end : Decls
    next : Decl → Decls → Decls

  -- A declaration of a component type or an instance type (`componentdecl`, `instancedecl`).
  pub data Decl : Type 0 where
    core_type_decl : List ModuleDecl → Decl
    type_decl : TypeDef → Decl
    alias_decl : Alias → Decl
    import_decl : Name → Description → Decl
    export_decl : Name → Description → Decl

-- An item of a component: a custom section, or one element of another section.
pub data Item : Type 0 where
  custom : (name bytes : List ℕ) → Item
  core_type : List ModuleDecl → Item
  nested : (bytes : List ℕ) → Item
  instantiate : (component : ℕ) → (arguments : List (Name × Sort × ℕ)) → Item
  alias_item : Alias → Item
  type_item : TypeDef → Item
  import_item : Name → Description → Item
  export_item : Name → Sort → (index : ℕ) → Item

-- The declarations of a list.
abbrev pub decls : List Decl → Decls
decls [] = end
decls (d ∷ ds) = next d (decls ds)
