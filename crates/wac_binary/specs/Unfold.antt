-- Scopes: what their type and instance indexes refer to, and the tree of each type.
use Rattle.std.specs.Prelude.{ℕ, zero, suc, Bool, true, false, List, [], ◌∷◌, ◌++◌, if◌then◌else◌, length, map, Option, Some, None}
use Rattle.wac_types_shapes.specs.primitives.Name.{Name, same_name}
use Rattle.wac_types_shapes.specs.primitives.Tree.{Side, imported, exported, Place, named, Tree, absent, resource, primitive, record_of, variant_of, list_of, fixed_list_of, tuple_of, flags_of, enum_of, option_of, result_of, stream_of, future_of, function, instance, component, module_of, fresh, type_equal, function_item, instance_item, component_item, module_item, value_item, seen_from, taken_from, items_in, own_of, borrow_of}
use Rattle.wac_types_shapes.specs.declared.primitives.core_types.CoreType.{CoreType}
use Rattle.wac_types_shapes.specs.primitives.Core.{CoreItem, no_item, core_function, core_table, core_memory, core_global, core_tag}
use Rattle.wac_binary.specs.declared.core_types.EntityType.{EntityType}
use Rattle.wac_binary.specs.declared.core_types.EntityType.TheVariants as t
use Rattle.wac_binary.specs.declared.types.ComponentValType.{ComponentValType}
use Rattle.wac_binary.specs.declared.types.ComponentValType.TheVariants.{Primitive, Index}
use Rattle.wac_binary.specs.declared.sorts.Sort.{Sort}
use Rattle.wac_binary.specs.declared.sorts.Sort.TheVariants as s
use Rattle.wac_binary.specs.declared.sorts.Description.{Description}
use Rattle.wac_binary.specs.declared.sorts.Description.TheVariants as e
use Rattle.wac_binary.specs.Items.{ValueDef, primitive_def, record_def, variant_def, list_def, fixed_list_def, tuple_def, flags_def, enum_def, option_def, result_def, own_def, borrow_def, stream_def, future_def, export_alias, outer_alias, TypeDef, value_def, func_def, component_def, instance_def, ModuleDecl, module_import, module_func, module_export, Decls, end, next, Decl, core_type_decl, type_decl, alias_decl, import_decl, export_decl}

-- An instance: its type, and the side and path at which it is bound.
pub record Bound : Type 0 where
  pub type : Tree
  pub side : Side
  pub path : List Place

-- A core module type: its function types, its imports by module and name, its exports by name.
pub record Module : Type 0 where
  pub funcs : List (List CoreType × List CoreType)
  pub imports : Name → Name → CoreItem
  pub exports : Name → CoreItem

abbrev pub no_module : Module
no_module = record { funcs = []; imports = λ _ _. no_item; exports = λ _. no_item }

-- The core function or tag with the function type at index i.
abbrev pub func_at : List (List CoreType × List CoreType) → ℕ → (List CoreType → List CoreType → CoreItem) → CoreItem
func_at [] i make = no_item
func_at (f ∷ fs) zero make = make f.0 f.1
func_at (f ∷ fs) (suc i) make = func_at fs i make

abbrev pub core_item : Module → EntityType → CoreItem
core_item m (t.Function i) = func_at m.funcs i core_function
core_item m (t.Table x) = core_table x.element_type x.table64 x.shared x.minimum x.maximum
core_item m (t.Memory x) = core_memory x.memory64 x.shared x.minimum x.maximum x.page_size_log2
core_item m (t.Global x) = core_global x.val_type x.mutable x.shared
core_item m (t.Tag i) = func_at m.funcs i core_tag

-- A core module type with one more declaration.
abbrev pub with_module_decl : Module → ModuleDecl → Module
with_module_decl m (module_import «module» name x) = record m { imports = λ o n. if same_name o «module» then (if same_name n name then core_item m x else m.imports o n) else m.imports o n }
with_module_decl m (module_func ps rs) = record m { funcs = m.funcs ++ (ps, rs) ∷ [] }
with_module_decl m (module_export name x) = record m { exports = λ n. if same_name n name then core_item m x else m.exports n }

abbrev pub module_after : Module → List ModuleDecl → Module
module_after m [] = m
module_after m (d ∷ ds) = module_after (with_module_decl m d) ds

-- The tree of a core module type.
abbrev pub module_tree : List ModuleDecl → Tree
module_tree ds = let m = module_after no_module ds in module_of m.imports m.exports

-- A scope: its core types, types and instances, the number of its core modules and components, its imports and exports.
pub record Scope : Type 0 where
  pub core_types : List Tree
  pub types : List Tree
  pub instances : List Bound
  pub modules : ℕ
  pub components : ℕ
  pub imports : Name → Tree
  pub exports : Name → Tree

abbrev pub empty : Scope
empty = record { core_types = []; types = []; instances = []; modules = 0; components = 0; imports = λ _. absent; exports = λ _. absent }

-- An instance that is bound nowhere in the scope; its tree is absent.
abbrev pub unbound : Bound
unbound = record { type = absent; side = imported; path = [] }

abbrev pub type_at : List Tree → ℕ → Tree
type_at [] i = absent
type_at (t ∷ ts) zero = t
type_at (t ∷ ts) (suc i) = type_at ts i

abbrev pub bound_at : List Bound → ℕ → Bound
bound_at [] i = unbound
bound_at (b ∷ bs) zero = b
bound_at (b ∷ bs) (suc i) = bound_at bs i

abbrev pub scope_at : List Scope → ℕ → Scope
scope_at [] k = empty
scope_at (c ∷ cs) zero = c
scope_at (c ∷ cs) (suc k) = scope_at cs k

abbrev pub with_item : (Name → Tree) → Name → Tree → Name → Tree
with_item items name t n = if same_name n name then t else items n

abbrev pub val : Scope → ComponentValType → Tree
val c (Primitive p) = primitive p
val c (Index i) = type_at c.types i

abbrev pub option_val : Scope → Option ComponentValType → Tree
option_val c None = absent
option_val c (Some v) = val c v

-- The type of a type item that is bound on this side at this path; other items have none.
abbrev pub bound_type : Side → List Place → Tree → Tree
bound_type side path fresh = resource (record { out = 0; side = side; path = path })
bound_type side path (type_equal t) = t
bound_type side path _ = absent

-- Whether a tree is an item of this sort.
abbrev pub is_of_sort : Sort → Tree → Bool
is_of_sort s.CoreModule (module_item t) = true
is_of_sort s.Func (function_item t) = true
is_of_sort s.Value (value_item t) = true
is_of_sort s.Type fresh = true
is_of_sort s.Type (type_equal t) = true
is_of_sort s.Component (component_item t) = true
is_of_sort s.Instance (instance_item t) = true
is_of_sort _ _ = false

-- The type of an instance item; other items have none.
abbrev pub bound_instance : Tree → Tree
bound_instance (instance_item t) = t
bound_instance _ = absent

-- The item of a description.
abbrev pub described_item : Scope → Description → Tree
described_item c (e.CoreModule i) = module_item (type_at c.core_types i)
described_item c (e.Func i) = function_item (type_at c.types i)
described_item c (e.Equal i) = type_equal (type_at c.types i)
described_item c e.Fresh = fresh
described_item c (e.Component i) = component_item (type_at c.types i)
described_item c (e.Instance i) = instance_item (type_at c.types i)

-- A scope with one more core module or component; functions and values are not counted.
abbrev pub counted_up : Scope → Sort → Scope
counted_up c s.CoreModule = record c { modules = suc c.modules }
counted_up c s.Component = record c { components = suc c.components }
counted_up c _ = c

-- A scope with one more index, of an item that is bound on this side at this path.
abbrev pub with_bound : Scope → Side → List Place → Tree → Scope
with_bound c side path fresh = record c { types = c.types ++ bound_type side path fresh ∷ [] }
with_bound c side path (type_equal t) = record c { types = c.types ++ t ∷ [] }
with_bound c side path (instance_item t) = record c { instances = c.instances ++ record { type = t; side = side; path = path } ∷ [] }
with_bound c side path (module_item t) = counted_up c s.CoreModule
with_bound c side path (component_item t) = counted_up c s.Component
with_bound c side path _ = c

-- The export with this name of a bound instance.
abbrev pub exported_item : Bound → Name → Tree
exported_item b n = taken_from b.side b.path (items_in b.type n)

-- The type that an instance exports under this name, if the export is a type.
abbrev pub aliased_type : Bound → Name → Tree
aliased_type b n = bound_type b.side (b.path ++ named n ∷ []) (exported_item b n)

-- The instance that an instance exports under this name, if the export is an instance.
abbrev pub aliased_instance : Bound → Name → Bound
aliased_instance b n = record { type = bound_instance (exported_item b n); side = b.side; path = b.path ++ named n ∷ [] }

-- A scope with one more index, of an alias of an instance's export.
abbrev pub with_alias : Scope → Sort → Bound → Name → Scope
with_alias c s.Type b n = record c { types = c.types ++ aliased_type b n ∷ [] }
with_alias c s.Instance b n = record c { instances = c.instances ++ aliased_instance b n ∷ [] }
with_alias c t b n = counted_up c t

-- An instance of the scope k scopes out; it is bound in this scope only if that is this scope.
abbrev pub outer_bound : ℕ → Bound → Bound
outer_bound zero b = b
outer_bound (suc k) b = unbound

-- A scope with one more index, of an alias of index i of scope o, which is k scopes out.
abbrev pub with_outer : Scope → Sort → ℕ → Scope → ℕ → Scope
with_outer c s.Type k o i = record c { types = c.types ++ seen_from k (type_at o.types i) ∷ [] }
with_outer c s.Instance k o i = record c { instances = c.instances ++ outer_bound k (bound_at o.instances i) ∷ [] }
with_outer c t k o i = counted_up c t

-- The tree of a value type's definition.
abbrev pub value_tree : ValueDef → Scope → Tree
value_tree (primitive_def p) c = primitive p
value_tree (record_def fields) c = record_of (map (λ f. f.0) fields) (λ i. type_at (map (λ f. val c f.1) fields) i)
value_tree (variant_def cases) c = variant_of (map (λ f. f.0) cases) (λ i. type_at (map (λ f. option_val c f.1) cases) i)
value_tree (list_def v) c = list_of (val c v)
value_tree (fixed_list_def v n) c = fixed_list_of n (val c v)
value_tree (tuple_def vs) c = tuple_of (length vs) (λ i. type_at (map (λ v. val c v) vs) i)
value_tree (flags_def names) c = flags_of names
value_tree (enum_def names) c = enum_of names
value_tree (option_def v) c = option_of (val c v)
value_tree (result_def ok err) c = result_of (option_val c ok) (option_val c err)
value_tree (own_def i) c = own_of (type_at c.types i)
value_tree (borrow_def i) c = borrow_of (type_at c.types i)
value_tree (stream_def v) c = stream_of (option_val c v)
value_tree (future_def v) c = future_of (option_val c v)

abbrev mutual
  -- The tree of a type's definition, in a scope and its enclosing scopes, the innermost first.
  pub tree_of : TypeDef → Scope → List Scope → Tree
  tree_of (value_def t) c out = value_tree t c
  tree_of (func_def is_async params result) c out = function is_async (map (λ f. f.0) params) (λ i. type_at (map (λ f. val c f.1) params) i) (option_val c result)
  tree_of (component_def ds) c out = let w = after ds empty (c ∷ out) in component w.imports w.exports
  tree_of (instance_def ds) c out = let w = after ds empty (c ∷ out) in instance w.exports

  -- The scope after declarations.
  pub after : Decls → Scope → List Scope → Scope
  after end c out = c
  after (next d ds) c out = after ds (with_decl d c out) out

  -- The scope after one declaration.
  pub with_decl : Decl → Scope → List Scope → Scope
  with_decl (core_type_decl m) c out = record c { core_types = c.core_types ++ module_tree m ∷ [] }
  with_decl (type_decl t) c out = record c { types = c.types ++ tree_of t c out ∷ [] }
  with_decl (alias_decl (export_alias t i n)) c out = with_alias c t (bound_at c.instances i) n
  with_decl (alias_decl (outer_alias t k i)) c out = with_outer c t k (scope_at (c ∷ out) k) i
  with_decl (import_decl n d) c out = with_bound (record c { imports = with_item c.imports n (described_item c d) }) imported (named n ∷ []) (described_item c d)
  with_decl (export_decl n d) c out = with_bound (record c { exports = with_item c.exports n (described_item c d) }) exported (named n ∷ []) (described_item c d)
