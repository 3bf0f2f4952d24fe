-- Items and declarations that have a meaning: each index exists and refers to what its use needs, each alias has the
-- sort of its target, no name is exported twice, and no name is imported twice in a type.
use Rattle.std.specs.Prelude.{ℕ, ◌≡◌, ◌<◌, T, false, List, [], ◌∷◌, length, map, Option, Some, None}
use Rattle.std.specs.List.{AllByRecursion, list_any}
use Rattle.wac_types_shapes.specs.primitives.Core.{CoreItem, no_item}
use Rattle.wac_types_shapes.specs.primitives.Name.{Name, same_name}
use Rattle.wac_types_shapes.specs.primitives.Tree.{Tree, absent, resource, primitive, own, borrow, record_of, variant_of, list_of, fixed_list_of, tuple_of, flags_of, enum_of, option_of, result_of, stream_of, future_of, function, instance, component, module_of, items_in}
use Rattle.wac_binary.specs.declared.core_types.EntityType.{EntityType}
use Rattle.wac_binary.specs.declared.core_types.EntityType.TheVariants as t
use Rattle.wac_binary.specs.declared.types.ComponentValType.{ComponentValType}
use Rattle.wac_binary.specs.declared.types.ComponentValType.TheVariants.{Primitive, Index}
use Rattle.wac_binary.specs.declared.sorts.Sort.{Sort}
use Rattle.wac_binary.specs.declared.sorts.Sort.TheVariants as s
use Rattle.wac_binary.specs.declared.sorts.Description.{Description}
use Rattle.wac_binary.specs.declared.sorts.Description.TheVariants as e
use Rattle.wac_binary.specs.Items.{ValueDef, primitive_def, record_def, variant_def, list_def, fixed_list_def, tuple_def, flags_def, enum_def, option_def, result_def, own_def, borrow_def, stream_def, future_def, export_alias, outer_alias, TypeDef, value_def, func_def, component_def, instance_def, ModuleDecl, module_import, module_func, module_export, Decls, end, next, Decl, core_type_decl, type_decl, alias_decl, import_decl, export_decl, Item, custom, core_type, nested, instantiate, alias_item, type_item, import_item, export_item}
use Rattle.wac_binary.specs.Unfold.{Module, no_module, with_module_decl, Scope, empty, is_of_sort, type_at, bound_at, scope_at, with_decl}
use Rattle.wac_binary.specs.Meaning.{Thing, nothing, Root, start, may_export, root_scope, stands_for, read}

-- A tree of a value type.
abbrev pub IsValue : Tree → Type 0
IsValue (primitive p) = Unit
IsValue (own l) = Unit
IsValue (borrow l) = Unit
IsValue (record_of names parts) = Unit
IsValue (variant_of names parts) = Unit
IsValue (list_of t) = Unit
IsValue (fixed_list_of n t) = Unit
IsValue (tuple_of n parts) = Unit
IsValue (flags_of names) = Unit
IsValue (enum_of names) = Unit
IsValue (option_of t) = Unit
IsValue (result_of t u) = Unit
IsValue (stream_of t) = Unit
IsValue (future_of t) = Unit
IsValue _ = ⊥

abbrev pub IsResource : Tree → Type 0
IsResource (resource l) = Unit
IsResource _ = ⊥

abbrev pub IsFunction : Tree → Type 0
IsFunction (function is_async names params result) = Unit
IsFunction _ = ⊥

abbrev pub IsInstance : Tree → Type 0
IsInstance (instance exports) = Unit
IsInstance _ = ⊥

abbrev pub IsComponent : Tree → Type 0
IsComponent (component imports exports) = Unit
IsComponent _ = ⊥

abbrev pub IsModule : Tree → Type 0
IsModule (module_of imports exports) = Unit
IsModule _ = ⊥

-- A tree of a type that a type index can refer to.
abbrev pub IsType : Tree → Type 0
IsType (resource l) = Unit
IsType (function is_async names params result) = Unit
IsType (instance exports) = Unit
IsType (component imports exports) = Unit
IsType t = IsValue t

-- A tree of an item of this sort.
abbrev pub IsOfSort : Sort → Tree → Type 0
IsOfSort t x = T (is_of_sort t x)

-- No item has been declared under the name.
abbrev pub IsFree : Tree → Type 0
IsFree absent = Unit
IsFree _ = ⊥

-- Core module types.

abbrev pub IsFreeInModule : CoreItem → Type 0
IsFreeInModule no_item = Unit
IsFreeInModule _ = ⊥

-- The function type of a core function or tag exists.
abbrev pub EntityHasMeaning : Module → EntityType → Type 0
EntityHasMeaning m (t.Function i) = i < length m.funcs
EntityHasMeaning m (t.Tag i) = i < length m.funcs
EntityHasMeaning m _ = Unit

abbrev pub ModuleDeclHasMeaning : Module → ModuleDecl → Type 0
ModuleDeclHasMeaning m (module_import o n x) = IsFreeInModule (m.imports o n) × EntityHasMeaning m x
ModuleDeclHasMeaning m (module_func params results) = Unit
ModuleDeclHasMeaning m (module_export n x) = IsFreeInModule (m.exports n) × EntityHasMeaning m x

abbrev pub ModuleHasMeaning : Module → List ModuleDecl → Type 0
ModuleHasMeaning m [] = Unit
ModuleHasMeaning m (d ∷ ds) = ModuleDeclHasMeaning m d × ModuleHasMeaning (with_module_decl m d) ds

-- Types, in a scope and its enclosing scopes, the innermost first.

-- A value type in use exists.
abbrev pub ValHasMeaning : Scope → ComponentValType → Type 0
ValHasMeaning c (Primitive p) = Unit
ValHasMeaning c (Index i) = IsValue (type_at c.types i)

abbrev pub OptionHasMeaning : Scope → Option ComponentValType → Type 0
OptionHasMeaning c None = Unit
OptionHasMeaning c (Some v) = ValHasMeaning c v

abbrev pub ValueHasMeaning : ValueDef → Scope → Type 0
ValueHasMeaning (primitive_def p) c = Unit
ValueHasMeaning (record_def fields) c = AllByRecursion (λ f. ValHasMeaning c f.1) fields
ValueHasMeaning (variant_def cases) c = AllByRecursion (λ f. OptionHasMeaning c f.1) cases
ValueHasMeaning (list_def v) c = ValHasMeaning c v
ValueHasMeaning (fixed_list_def v n) c = ValHasMeaning c v
ValueHasMeaning (tuple_def vs) c = AllByRecursion (ValHasMeaning c) vs
ValueHasMeaning (flags_def names) c = Unit
ValueHasMeaning (enum_def names) c = Unit
ValueHasMeaning (option_def v) c = ValHasMeaning c v
ValueHasMeaning (result_def ok err) c = OptionHasMeaning c ok × OptionHasMeaning c err
ValueHasMeaning (own_def i) c = IsResource (type_at c.types i)
ValueHasMeaning (borrow_def i) c = IsResource (type_at c.types i)
ValueHasMeaning (stream_def v) c = OptionHasMeaning c v
ValueHasMeaning (future_def v) c = OptionHasMeaning c v

-- The type index of a description refers to a type of the described sort.
abbrev pub DescriptionHasMeaning : Scope → Description → Type 0
DescriptionHasMeaning c (e.CoreModule i) = IsModule (type_at c.core_types i)
DescriptionHasMeaning c (e.Func i) = IsFunction (type_at c.types i)
DescriptionHasMeaning c (e.Equal i) = IsType (type_at c.types i)
DescriptionHasMeaning c e.Fresh = Unit
DescriptionHasMeaning c (e.Component i) = IsComponent (type_at c.types i)
DescriptionHasMeaning c (e.Instance i) = IsInstance (type_at c.types i)

-- An outer alias refers to a type, a core module or a component that exists in that scope.
abbrev pub OuterHasMeaning : Sort → ℕ → Scope → Type 0
OuterHasMeaning s.CoreModule i c = i < c.modules
OuterHasMeaning s.Type i c = IsType (type_at c.types i)
OuterHasMeaning s.Component i c = i < c.components
OuterHasMeaning _ i c = ⊥

-- No declaration is an import, as in each instance type.
abbrev pub ImportNothing : Decls → Type 0
ImportNothing end = Unit
ImportNothing (next (import_decl n d) ds) = ⊥
ImportNothing (next d ds) = ImportNothing ds

abbrev mutual
  pub TypeHasMeaning : TypeDef → Scope → List Scope → Type 0
  TypeHasMeaning (value_def t) c out = ValueHasMeaning t c
  TypeHasMeaning (func_def is_async params result) c out = AllByRecursion (λ f. ValHasMeaning c f.1) params × OptionHasMeaning c result
  TypeHasMeaning (component_def ds) c out = DeclsHaveMeaning ds empty (c ∷ out)
  TypeHasMeaning (instance_def ds) c out = DeclsHaveMeaning ds empty (c ∷ out) × ImportNothing ds

  pub DeclsHaveMeaning : Decls → Scope → List Scope → Type 0
  DeclsHaveMeaning end c out = Unit
  DeclsHaveMeaning (next d ds) c out = DeclHasMeaning d c out × DeclsHaveMeaning ds (with_decl d c out) out

  pub DeclHasMeaning : Decl → Scope → List Scope → Type 0
  DeclHasMeaning (core_type_decl m) c out = ModuleHasMeaning no_module m
  DeclHasMeaning (type_decl t) c out = TypeHasMeaning t c out
  DeclHasMeaning (alias_decl (export_alias t i n)) c out = IsOfSort t (items_in (bound_at c.instances i).type n)
  DeclHasMeaning (alias_decl (outer_alias t k i)) c out = OuterHasMeaning t i (scope_at (c ∷ out) k)
  DeclHasMeaning (import_decl n d) c out = IsFree (c.imports n) × DescriptionHasMeaning c d
  DeclHasMeaning (export_decl n d) c out = IsFree (c.exports n) × DescriptionHasMeaning c d

-- Items of the root.

-- An index that exists refers to something.
abbrev pub IsSomething : Thing → Type 0
IsSomething nothing = ⊥
IsSomething _ = Unit

-- An instance of this type has an export of this sort and name, as far as its exports are known.
abbrev pub HasExport : Sort → Tree → Name → Type 0
HasExport t i n = T (may_export t i n)

-- The name is not in the list.
abbrev pub IsNew : Name → List Name → Type 0
IsNew n names = list_any (same_name n) names ≡ false

abbrev pub ItemHasMeaning : Root → Item → Type 0
ItemHasMeaning r (custom n bs) = Unit
ItemHasMeaning r (core_type m) = ModuleHasMeaning no_module m
ItemHasMeaning r (nested bs) = Unit
ItemHasMeaning r (instantiate i args) = IsSomething (stands_for r s.Component i) × AllByRecursion (λ a. IsSomething (stands_for r a.1 a.2)) args
ItemHasMeaning r (alias_item (export_alias t i n)) = IsSomething (stands_for r s.Instance i) × HasExport t (bound_at r.scope.instances i).type n
ItemHasMeaning r (alias_item (outer_alias t k i)) = OuterHasMeaning t i (root_scope r k)
ItemHasMeaning r (type_item t) = TypeHasMeaning t r.scope []
ItemHasMeaning r (import_item n d) = DescriptionHasMeaning r.scope d
ItemHasMeaning r (export_item n t i) = IsNew n (map (λ e. e.name) r.exports) × IsSomething (stands_for r t i)

-- Each item has a meaning after the items before it.
abbrev pub AllHaveMeaning : Root → List Item → Type 0
AllHaveMeaning r [] = Unit
AllHaveMeaning r (x ∷ xs) = ItemHasMeaning r x × AllHaveMeaning (read r x) xs

-- The items of a component have a meaning.
abbrev pub HasMeaning : List Item → Type 0
HasMeaning items = AllHaveMeaning start items
