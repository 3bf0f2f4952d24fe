-- The parts that the items of a component are read as.
use Rattle.std.specs.Prelude.{◌≡◌, ℕ, zero, suc, List, [], ◌∷◌, map, None, Ok}
use Rattle.wac_binary.specs.Items.{TypeDef, value_def, func_def, component_def, instance_def, Decls, end, next, Decl, core_type_decl, type_decl, alias_decl, import_decl, export_decl, Item, custom, core_type, nested, instantiate, alias_item, type_item, import_item, export_item}
use Rattle.wac_binary.specs.HasMeaning.{ImportNothing}
use Rattle.wac_component.specs.Parts.{Part, custom_part, core_type_part, component_part, instantiate_part, alias_part, type_part, import_part, export_part, Parts, module_type, module_decl, component_alias}
use Rattle.wac_component.specs.Reading.{parts_at}

abbrev mutual
  -- A type that is read: types are nested in its declarations at most `depth` deep, and an instance type has no imports.
  pub TypeReadsWithin : TypeDef → (depth : ℕ) → Type 0
  TypeReadsWithin (value_def t) depth = Unit
  TypeReadsWithin (func_def is_async params result) depth = Unit
  TypeReadsWithin (component_def ds) depth = DeclsReadWithin ds depth
  TypeReadsWithin (instance_def ds) depth = ImportNothing ds × DeclsReadWithin ds depth

  -- Declarations whose types are read one level down.
  pub DeclsReadWithin : Decls → (depth : ℕ) → Type 0
  DeclsReadWithin end depth = Unit
  DeclsReadWithin (next d ds) depth = DeclReadsWithin d depth × DeclsReadWithin ds depth

  pub DeclReadsWithin : Decl → (depth : ℕ) → Type 0
  DeclReadsWithin (core_type_decl m) depth = Unit
  DeclReadsWithin (type_decl t) zero = ⊥
  DeclReadsWithin (type_decl t) (suc depth) = TypeReadsWithin t depth
  DeclReadsWithin (alias_decl a) depth = Unit
  DeclReadsWithin (import_decl n d) depth = Unit
  DeclReadsWithin (export_decl n d) depth = Unit

-- The part that an item is read as. A nested component is read, and types are nested, at most `depth` deep.
abbrev pub IsReadAs : (depth : ℕ) → Item → Part → Type 0
IsReadAs depth (custom name bytes) p = p ≡ custom_part name bytes
IsReadAs depth (core_type ds) p = p ≡ core_type_part (module_type (map module_decl ds))
IsReadAs depth (nested bytes) p = (inner : Parts) × (parts_at depth bytes ≡ Ok inner) × (p ≡ component_part inner)
IsReadAs depth (instantiate c args) p = p ≡ instantiate_part c args
IsReadAs depth (alias_item a) p = p ≡ alias_part (component_alias a)
IsReadAs depth (type_item t) p = TypeReadsWithin t depth × (p ≡ type_part t)
IsReadAs depth (import_item n d) p = p ≡ import_part n d
IsReadAs depth (export_item n t i) p = p ≡ export_part n t i None

-- The parts that items are read as, in order.
abbrev pub ReadsWithin : (depth : ℕ) → List Item → List Part → Type 0
ReadsWithin depth [] [] = Unit
ReadsWithin depth (i ∷ items) (p ∷ ps) = IsReadAs depth i p × ReadsWithin depth items ps
ReadsWithin depth items ps = ⊥
