-- The parts of a component in order: what each index refers to after them. Each resource that a part defines, or that
-- an instance of a component brings, has the binding `exported, position k ∷ path`, where the part is the k-th.
use Rattle.std.specs.Prelude.{ℕ, zero, suc, if◌then◌else◌, List, [], ◌∷◌, ◌++◌, map, Option, Some, None}
use Rattle.wac_types_shapes.specs.primitives.Name.{Name, same_name}
use Rattle.wac_types_shapes.specs.primitives.Tree.{imported, exported, position, Tree, absent, resource, instance, component, type_equal, function_item, instance_item, component_item, module_item, moved, further_out, seen_from, type_in}
use Rattle.wac_types_shapes.specs.declared.primitives.core_types.CoreType.{CoreType}
use Rattle.wac_binary.specs.declared.sorts.Sort.{Sort}
use Rattle.wac_binary.specs.declared.sorts.Sort.TheVariants as s
use Rattle.wac_binary.specs.declared.sorts.Description.{Description}
use Rattle.wac_binary.specs.declared.sorts.Description.TheVariants as e
use Rattle.wac_binary.specs.Items.{export_alias, outer_alias, ModuleDecl, module_func}
use Rattle.wac_binary.specs.Unfold.{Scope, empty, type_at, described_item, counted_up, module_tree, tree_of}
use Rattle.wac_component.specs.Parts.{CoreSort, func_sort, instance_sort, lift, lower, builtin, CoreDecl, module_decl, outer_decl, module_type, function_type, component_alias, core_export_alias, core_outer_alias, Part, custom_part, module_part, core_instance_part, core_type_part, component_part, instantiate_part, exports_part, alias_part, type_part, resource_part, canon_part, import_part, export_part, Parts, nothing, more}
use Rattle.wac_component.specs.Open.{bound_here, bound_item, with_resources, aliased_export, new_instance}

-- A core function type: parameters, results.
abbrev pub CoreFunctionType : Type 0
CoreFunctionType = List CoreType × List CoreType

-- What the parts so far have defined: the context in which the next part is read.
pub record Context : Type 0 where
  -- Types and core types, as types in the component see them.
  pub scope : Scope
  -- The function type of each core type that is one.
  pub core_funcs : List (Option CoreFunctionType)
  -- Open items.
  pub modules : List Tree
  pub funcs : List Tree
  pub components : List Tree
  pub instances : List Tree
  -- The sort of each core definition but modules and types.
  pub cores : List CoreSort
  -- The number of parts.
  pub count : ℕ
  pub imports : List (Name × Tree)
  -- Open items.
  pub exports : List (Name × Tree)

-- The context before the first part.
abbrev pub empty_context : Context
empty_context = record {
  scope = empty;
  core_funcs = [];
  modules = [];
  funcs = [];
  components = [];
  instances = [];
  cores = [];
  count = 0;
  imports = [];
  exports = [];
}

-- The item of this name.
abbrev pub items_named : List (Name × Tree) → Name → Tree
items_named [] n = absent
items_named (e ∷ es) n = if same_name n e.0 then e.1 else items_named es n

-- The context of the component that is k components further out.
abbrev pub context_at : List Context → ℕ → Context
context_at [] k = empty_context
context_at (c ∷ cs) zero = c
context_at (c ∷ cs) (suc k) = context_at cs k

-- The scopes of contexts.
abbrev pub scopes_of : List Context → List Scope
scopes_of out = map (λ c. c.scope) out

-- The item of an index of a sort. There are no values.
abbrev pub indexed_item : Context → Sort → ℕ → Tree
indexed_item c s.CoreModule i = type_at c.modules i
indexed_item c s.Func i = type_at c.funcs i
indexed_item c s.Value i = absent
indexed_item c s.«Type» i = type_equal (type_at c.scope.types i)
indexed_item c s.Component i = type_at c.components i
indexed_item c s.Instance i = type_at c.instances i

-- One more index, of an open item.
abbrev pub with_index : Context → Tree → Context
with_index c (module_item t) =
    record c { scope = counted_up c.scope s.CoreModule; modules = c.modules ++ module_item t ∷ [] }
with_index c (function_item t) = record c { funcs = c.funcs ++ function_item t ∷ [] }
with_index c (type_equal t) = record c { scope = record c.scope { types = c.scope.types ++ t ∷ [] } }
with_index c (component_item t) =
    record c { scope = counted_up c.scope s.Component; components = c.components ++ component_item t ∷ [] }
with_index c (instance_item t) = record c { instances = c.instances ++ instance_item t ∷ [] }
with_index c _ = c

-- One more core definition.
abbrev pub with_core : Context → CoreSort → Context
with_core c t = record c { cores = c.cores ++ t ∷ [] }

-- One more core type.
abbrev pub with_core_type : Context → Tree → Option CoreFunctionType → Context
with_core_type c t f = record c {
  scope = record c.scope { core_types = c.scope.core_types ++ t ∷ [] };
  core_funcs = c.core_funcs ++ f ∷ [];
}

-- The items of a list, each under its name.
abbrev pub items_listed : Context → List (Name × Sort × ℕ) → Name → Tree
items_listed c [] n = absent
items_listed c (a ∷ as_) n = if same_name n a.0 then indexed_item c a.1 a.2 else items_listed c as_ n

-- The core function type of an index.
abbrev pub function_type_at : List (Option CoreFunctionType) → ℕ → Option CoreFunctionType
function_type_at [] i = None
function_type_at (f ∷ fs) zero = f
function_type_at (f ∷ fs) (suc i) = function_type_at fs i

-- The declaration of a core function type.
abbrev pub function_decl : Option CoreFunctionType → List ModuleDecl
function_decl None = []
function_decl (Some f) = module_func f.0 f.1 ∷ []

-- Declarations of a core module type, whose outer aliases are of core function types; the module type is scope 0.
abbrev pub resolved_decls : List Context → List CoreDecl → List ModuleDecl
resolved_decls out [] = []
resolved_decls out (module_decl d ∷ ds) = d ∷ resolved_decls out ds
resolved_decls out (outer_decl k i ∷ ds) =
    function_decl (function_type_at (context_at (empty_context ∷ out) k).core_funcs i) ++ resolved_decls out ds

-- The exported item. With an ascribed type it is an item of that type, whose resources are new: they are of this part.
abbrev pub ascribed : Context → Tree → Option Description → Tree
ascribed c x None = x
ascribed c x (Some d) =
    with_resources (λ l. l) (λ p. bound_here exported (position c.count ∷ p)) (described_item c.scope d)

-- The component of these parts, whose resources have their bindings by parts.
abbrev pub open_component : Context → Tree
open_component c = component (items_named c.imports) (items_named c.exports)

-- The context before the next part.
abbrev pub next_part : Context → Context
next_part c = record c { count = suc c.count }

module _ (module_tree_of : List ℕ → Tree) where
  abbrev mutual
    -- The context after parts of a component, in those of the components that enclose it, the innermost first.
    pub after_parts : Parts → Context → List Context → Context
    after_parts nothing c out = c
    after_parts (more p ps) c out = after_parts ps (next_part (after_part p c out)) out

    -- The context after one part.
    pub after_part : Part → Context → List Context → Context
    after_part (custom_part n bs) c out = c
    after_part (module_part bs) c out = with_index c (module_item (module_tree_of bs))
    after_part (core_instance_part x) c out = with_core c instance_sort
    after_part (core_type_part (module_type ds)) c out =
        with_core_type c (module_tree (resolved_decls (c ∷ out) ds)) None
    after_part (core_type_part (function_type ps rs)) c out = with_core_type c absent (Some (ps, rs))
    after_part (component_part ps) c out =
        with_index c (component_item (open_component (after_parts ps empty_context (c ∷ out))))
    after_part (instantiate_part i args) c out =
        with_index c (new_instance c.count (items_listed c args) (type_in (type_at c.components i)))
    after_part (exports_part es) c out =
        with_index c (instance_item (instance (λ n. moved further_out (items_listed c es n))))
    after_part (alias_part (component_alias (export_alias t i n))) c out =
        with_index c (aliased_export (type_at c.instances i) n)
    after_part (alias_part (component_alias (outer_alias t k i))) c out =
        with_index c (seen_from k (indexed_item (context_at (c ∷ out) k) t i))
    after_part (alias_part (core_export_alias t i n)) c out = with_core c t
    after_part (alias_part (core_outer_alias k i)) c out =
        let o = context_at (c ∷ out) k in
        with_core_type c (type_at o.scope.core_types i) (function_type_at o.core_funcs i)
    after_part (type_part t) c out = with_index c (type_equal (tree_of t c.scope (scopes_of out)))
    after_part (resource_part d) c out =
        with_index c (type_equal (resource (bound_here exported (position c.count ∷ []))))
    after_part (canon_part (lift f options t)) c out = with_index c (function_item (type_at c.scope.types t))
    after_part (canon_part (lower f options)) c out = with_core c func_sort
    after_part (canon_part (builtin op operands)) c out = with_core c func_sort
    after_part (import_part n d) c out =
        let x = described_item c.scope d in
        with_index (record c { imports = c.imports ++ (n, x) ∷ [] }) (bound_item imported n x)
    after_part (export_part n t i d) c out =
        let x = ascribed c (indexed_item c t i) d in
        with_index (record c { exports = c.exports ++ (n, x) ∷ [] }) x
