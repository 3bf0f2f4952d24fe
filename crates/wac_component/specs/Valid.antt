-- The parts of a component that are valid: each index exists and refers to what its use needs, each argument and each
-- ascribed export fits, no name is given twice, and no component takes a resource of those that enclose it.
use Rattle.std.specs.Prelude.{ℕ, zero, suc, ◌≡◌, ◌≢◌, ◌<◌, ◌==◌, ◌||◌, T, Bool, true, false, if◌then◌else◌, List, [], ◌∷◌, length, map, filter, Option, Some, None, is_some}
use Rattle.std.specs.List.{AllByRecursion}
use Rattle.wac_types_shapes.specs.primitives.Name.{Name}
use Rattle.wac_types_shapes.specs.primitives.Tree.{Tree, absent, component, type_equal, moved, type_in}
use Rattle.wac_binary.specs.declared.sorts.Sort.{Sort}
use Rattle.wac_binary.specs.declared.sorts.Sort.TheVariants as s
use Rattle.wac_binary.specs.declared.sorts.Description.{Description}
use Rattle.wac_binary.specs.declared.sorts.Description.TheVariants as e
use Rattle.wac_binary.specs.Items.{export_alias, outer_alias, TypeDef, value_def, func_def, component_def, instance_def, Decls, end, next, Decl, type_decl, alias_decl}
use Rattle.wac_binary.specs.Unfold.{Scope, empty, no_module, is_of_sort, type_at, scope_at, described_item, with_decl}
use Rattle.wac_binary.specs.HasMeaning.{IsResource, IsFunction, IsType, ModuleHasMeaning, TypeHasMeaning, DescriptionHasMeaning, IsNew}
use Rattle.wac_component.specs.Parts.{CoreSort, func_sort, table_sort, memory_sort, global_sort, tag_sort, type_sort, module_sort, instance_sort, CanonOption, memory, realloc, post_return, callback, function_type_option, Operand, type_operand, core_type_operand, table_operand, memory_operand, options_operand, Canon, lift, lower, builtin, CoreInstance, core_instantiate, core_exports, CoreDecl, module_decl, outer_decl, CoreTypeDef, module_type, function_type, ResourceDef, resource_def, async_resource_def, component_alias, core_export_alias, core_outer_alias, Part, custom_part, module_part, core_instance_part, core_type_part, component_part, instantiate_part, exports_part, alias_part, type_part, resource_part, canon_part, import_part, export_part, Parts, nothing, more}
use Rattle.wac_component.specs.Open.{nowhere, aliased_export, with_resources_of, argument_type}
use Rattle.wac_component.specs.ItemSubtype.{IsItemSubtype}
use Rattle.wac_component.specs.ResourceNames.{is_made, IsComponentType}
use Rattle.wac_component.specs.Context.{Context, empty_context, context_at, scopes_of, indexed_item, items_listed, function_type_at, resolved_decls, after_parts, after_part, next_part}

-- The tree mentions no resource of a scope around it.
abbrev pub MentionsNothingOutside : Tree → Type 0
MentionsNothingOutside t = moved (λ _. nowhere) t ≡ t

-- One of the k innermost scopes is a component's or a component type's.
abbrev pub crosses_component : ℕ → List Bool → Bool
crosses_component zero kinds = false
crosses_component (suc k) [] = false
crosses_component (suc k) (b ∷ kinds) = b || crosses_component k kinds

-- .. if this is so.
abbrev pub MentionsNothingOutsideIf : Bool → Tree → Type 0
MentionsNothingOutsideIf false t = Unit
MentionsNothingOutsideIf true t = MentionsNothingOutside t

-- No outer alias takes a resource into a component type. The scopes are the innermost first, each with its kind:
-- whether it is a component's or a component type's.
abbrev mutual
  -- .. in this type
  pub TypeAliasesAreValid : TypeDef → List Bool → List Scope → Type 0
  TypeAliasesAreValid (value_def t) kinds out = Unit
  TypeAliasesAreValid (func_def is_async params result) kinds out = Unit
  TypeAliasesAreValid (component_def ds) kinds out = DeclAliasesAreValid ds (true ∷ kinds) empty out
  TypeAliasesAreValid (instance_def ds) kinds out = DeclAliasesAreValid ds (false ∷ kinds) empty out

  -- .. in these declarations
  pub DeclAliasesAreValid : Decls → List Bool → Scope → List Scope → Type 0
  DeclAliasesAreValid end kinds c out = Unit
  DeclAliasesAreValid (next d ds) kinds c out =
      DeclAliasIsValid d kinds c out × DeclAliasesAreValid ds kinds (with_decl d c out) out

  -- .. in this declaration
  pub DeclAliasIsValid : Decl → List Bool → Scope → List Scope → Type 0
  DeclAliasIsValid (type_decl t) kinds c out = TypeAliasesAreValid t kinds (c ∷ out)
  DeclAliasIsValid (alias_decl (outer_alias s.«Type» k i)) kinds c out =
      MentionsNothingOutsideIf (crosses_component k kinds) (type_at (scope_at (c ∷ out) k).types i)
  DeclAliasIsValid _ kinds c out = Unit

-- Every scope around a part is a component's.
abbrev pub component_kinds : List Context → List Bool
component_kinds out = map (λ c. true) out

-- Core definitions: their indexes are in range.

-- A number for each core sort, so that they can be compared.
abbrev pub core_number : CoreSort → ℕ
core_number func_sort = 0
core_number table_sort = 1
core_number memory_sort = 2
core_number global_sort = 3
core_number tag_sort = 4
core_number type_sort = 5
core_number module_sort = 6
core_number instance_sort = 7

-- The number of indexes of a core sort.
abbrev pub core_count : Context → CoreSort → ℕ
core_count c type_sort = length c.core_funcs
core_count c module_sort = length c.modules
core_count c t = length (filter (λ u. core_number u == core_number t) c.cores)

-- The index exists in the index space of this core sort.
abbrev pub IsCoreIndex : Context → CoreSort → ℕ → Type 0
IsCoreIndex c t i = i < core_count c t

-- The indexes of an option exist.
abbrev pub OptionIsValid : Context → CanonOption → Type 0
OptionIsValid c (memory i) = IsCoreIndex c memory_sort i
OptionIsValid c (realloc i) = IsCoreIndex c func_sort i
OptionIsValid c (post_return i) = IsCoreIndex c func_sort i
OptionIsValid c (callback i) = IsCoreIndex c func_sort i
OptionIsValid c (function_type_option i) = IsCoreIndex c type_sort i
OptionIsValid c _ = Unit

-- The opcodes whose type operand is a resource: new, drop, rep, drop async.
abbrev pub takes_resource : ℕ → Bool
takes_resource op = (op == 2) || ((op == 3) || ((op == 4) || (op == 7)))

-- A resource, or any type.
abbrev pub IsOperandType : Bool → Tree → Type 0
IsOperandType true t = IsResource t
IsOperandType false t = IsType t

-- The indexes of an operand exist, and a type is of the sort that the opcode takes.
abbrev pub OperandIsValid : (opcode : ℕ) → Context → Operand → Type 0
OperandIsValid op c (type_operand i) = IsOperandType (takes_resource op) (type_at c.scope.types i)
OperandIsValid op c (core_type_operand i) = IsCoreIndex c type_sort i
OperandIsValid op c (table_operand i) = IsCoreIndex c table_sort i
OperandIsValid op c (memory_operand i) = IsCoreIndex c memory_sort i
OperandIsValid op c (options_operand os) = AllByRecursion (OptionIsValid c) os
OperandIsValid op c _ = Unit

-- The indexes of a canonical function exist, and a lift has a function type.
abbrev pub CanonIsValid : Context → Canon → Type 0
CanonIsValid c (lift f os t) =
    IsCoreIndex c func_sort f × AllByRecursion (OptionIsValid c) os × IsFunction (type_at c.scope.types t)
CanonIsValid c (lower f os) = (f < length c.funcs) × AllByRecursion (OptionIsValid c) os
CanonIsValid c (builtin op xs) = AllByRecursion (OperandIsValid op c) xs

-- The indexes of a core instance exist.
abbrev pub CoreInstanceIsValid : Context → CoreInstance → Type 0
CoreInstanceIsValid c (core_instantiate m args) =
    IsCoreIndex c module_sort m × AllByRecursion (λ a. IsCoreIndex c instance_sort a.1) args
CoreInstanceIsValid c (core_exports es) = AllByRecursion (λ a. IsCoreIndex c a.1 a.2) es

-- An outer alias is of a core function type.
abbrev pub CoreDeclIsValid : List Context → CoreDecl → Type 0
CoreDeclIsValid out (module_decl d) = Unit
CoreDeclIsValid out (outer_decl k i) = T (is_some (function_type_at (context_at (empty_context ∷ out) k).core_funcs i))

-- The declarations of a core type have a meaning.
abbrev pub CoreTypeIsValid : List Context → CoreTypeDef → Type 0
CoreTypeIsValid out (module_type ds) =
    AllByRecursion (CoreDeclIsValid out) ds × ModuleHasMeaning no_module (resolved_decls out ds)
CoreTypeIsValid out (function_type ps rs) = Unit

-- The destructor and the callback of a resource exist.
abbrev pub ResourceIsValid : Context → ResourceDef → Type 0
ResourceIsValid c (resource_def rep None) = Unit
ResourceIsValid c (resource_def rep (Some i)) = IsCoreIndex c func_sort i
ResourceIsValid c (async_resource_def rep i None) = IsCoreIndex c func_sort i
ResourceIsValid c (async_resource_def rep i (Some j)) = IsCoreIndex c func_sort i × IsCoreIndex c func_sort j

-- Items.

-- The item is there, and of the sort.
abbrev pub IsItemOfSort : Sort → Tree → Type 0
IsItemOfSort s.«Type» (type_equal t) = IsType t
IsItemOfSort t x = T (is_of_sort t x)

-- Each item of a list is there, and no name is given twice.
abbrev pub ItemsAreValid : Context → List (Name × Sort × ℕ) → Type 0
ItemsAreValid c [] = Unit
ItemsAreValid c (a ∷ rest) =
    IsItemOfSort a.1 (indexed_item c a.1 a.2) × IsNew a.0 (map (λ b. b.0) rest) × ItemsAreValid c rest

-- Each import of the component has an argument that is a subtype of it. Further arguments are ignored.
abbrev pub ArgumentsMatch : (part : ℕ) → (arguments : Name → Tree) → Tree → Type 0
ArgumentsMatch k args (component imports exports) =
    (n : Name) → imports n ≢ absent → IsItemSubtype (args n) (argument_type k args n (imports n))
ArgumentsMatch k args _ = ⊥

-- The ascribed type exists, and the item is a subtype of it, where it has the resources of the item.
abbrev pub AscriptionMatches : Context → Tree → Option Description → Type 0
AscriptionMatches c x None = Unit
AscriptionMatches c x (Some d) =
    DescriptionHasMeaning c.scope d × IsItemSubtype x (with_resources_of x (described_item c.scope d))

-- The sorts of which there are outer aliases.
abbrev pub IsOuterSort : Sort → Type 0
IsOuterSort s.CoreModule = Unit
IsOuterSort s.«Type» = Unit
IsOuterSort s.Component = Unit
IsOuterSort _ = ⊥

-- The item mentions no resource that a part of this component made.
abbrev pub MentionsNothingMade : Tree → Type 0
MentionsNothingMade t = moved (λ l. if is_made l then nowhere else l) t ≡ t

-- The component has a type.
abbrev pub HasComponentType : Context → Type 0
HasComponentType c = (t : Tree) × IsComponentType c t

module _ (module_tree_of : List ℕ → Tree) where
  abbrev mutual
    -- Each of the parts is valid after those before it.
    pub PartsAreValid : Parts → Context → List Context → Type 0
    PartsAreValid nothing c out = Unit
    PartsAreValid (more p ps) c out =
        PartIsValid p c out × PartsAreValid ps (next_part (after_part module_tree_of p c out)) out

    -- A part is valid after those before it, in the contexts of the components that enclose it.
    pub PartIsValid : Part → Context → List Context → Type 0
    PartIsValid (custom_part n bs) c out = Unit
    PartIsValid (module_part bs) c out = Unit
    PartIsValid (core_instance_part x) c out = CoreInstanceIsValid c x
    PartIsValid (core_type_part t) c out = CoreTypeIsValid (c ∷ out) t
    PartIsValid (component_part ps) c out =
        PartsAreValid ps empty_context (c ∷ out) ×
        HasComponentType (after_parts module_tree_of ps empty_context (c ∷ out))
    PartIsValid (instantiate_part i args) c out =
        ItemsAreValid c args × ArgumentsMatch c.count (items_listed c args) (type_in (type_at c.components i))
    PartIsValid (exports_part es) c out = ItemsAreValid c es
    PartIsValid (alias_part (component_alias (export_alias t i n))) c out =
        IsItemOfSort t (aliased_export (type_at c.instances i) n)
    PartIsValid (alias_part (component_alias (outer_alias t k i))) c out =
        let x = indexed_item (context_at (c ∷ out) k) t i in
        IsOuterSort t × IsItemOfSort t x × MentionsNothingOutsideIf (crosses_component k (component_kinds (c ∷ out))) x
    PartIsValid (alias_part (core_export_alias t i n)) c out = IsCoreIndex c instance_sort i
    PartIsValid (alias_part (core_outer_alias k i)) c out = IsCoreIndex (context_at (c ∷ out) k) type_sort i
    PartIsValid (type_part t) c out =
        TypeHasMeaning t c.scope (scopes_of out) ×
        TypeAliasesAreValid t (component_kinds (c ∷ out)) (c.scope ∷ scopes_of out)
    PartIsValid (resource_part d) c out = ResourceIsValid c d
    PartIsValid (canon_part x) c out = CanonIsValid c x
    PartIsValid (import_part n d) c out =
        IsNew n (map (λ e. e.0) c.imports) ×
        DescriptionHasMeaning c.scope d × MentionsNothingMade (described_item c.scope d)
    PartIsValid (export_part n t i d) c out =
        let x = indexed_item c t i in IsNew n (map (λ e. e.0) c.exports) × IsItemOfSort t x × AscriptionMatches c x d

  -- A component is valid if its parts are and it has a type: each resource that its exports mention has a name.
  abbrev pub IsValidComponent : Parts → Type 0
  IsValidComponent ps = PartsAreValid ps empty_context [] × HasComponentType (after_parts module_tree_of ps empty_context [])
