-- The meaning of a component's items: its imports, nested components, instantiations, exports and custom sections.
use Rattle.std.specs.Prelude.{ℕ, zero, suc, List, [], ◌∷◌, ◌++◌, if◌then◌else◌, length, map, Bool, true, false}
use Rattle.wac_types_shapes.specs.primitives.Name.{Name}
use Rattle.wac_types_shapes.specs.primitives.Tree.{imported, position, Tree, absent, items_in}
use Rattle.wac_binary.specs.declared.sorts.Sort.{Sort}
use Rattle.wac_binary.specs.declared.sorts.Sort.TheVariants as s
use Rattle.wac_binary.specs.Items.{export_alias, outer_alias, Item, custom, core_type, nested, instantiate, alias_item, type_item, import_item, export_item}
use Rattle.wac_binary.specs.Indexes.{described_sort}
use Rattle.wac_binary.specs.Unfold.{Scope, Bound, empty, unbound, is_of_sort, type_at, bound_at, described_item, counted_up, with_bound, with_alias, with_outer, module_tree, tree_of}

-- What an index refers to.
pub data Thing : Type 0 where
  nothing : Thing
  -- The import at this position.
  import_at : ℕ → Thing
  -- The export of an instance with this name.
  projection : Thing → Name → Thing
  -- The instantiation at this position.
  instance_at : ℕ → Thing
  -- The nested component at this position.
  component_at : ℕ → Thing
  -- A type that is defined here, with its tree.
  written : Tree → Thing

-- An instantiation, with what its indexes refer to. An argument is a name, a sort and what its index refers to.
pub record Instantiation : Type 0 where
  pub component : Thing
  pub arguments : List (Name × Sort × Thing)

-- An export, with what its index refers to, and its tree if it has one.
pub record Export : Type 0 where
  pub name : Name
  pub sort : Sort
  pub thing : Thing
  pub tree : Tree

-- The meaning of the items that have been read.
pub record Root : Type 0 where
  pub scope : Scope
  pub modules : List Thing
  pub functions : List Thing
  pub values : List Thing
  pub types : List Thing
  pub components : List Thing
  pub instances : List Thing
  pub imports : List (Name × Tree)
  pub nested_bytes : List (List ℕ)
  pub instantiations : List Instantiation
  pub exports : List Export
  pub customs : List (Name × List ℕ)

abbrev pub start : Root
start = record { scope = empty; modules = []; functions = []; values = []; types = []; components = []; instances = []; imports = []; nested_bytes = []; instantiations = []; exports = []; customs = [] }

abbrev pub thing_at : List Thing → ℕ → Thing
thing_at [] i = nothing
thing_at (t ∷ ts) zero = t
thing_at (t ∷ ts) (suc i) = thing_at ts i

-- What the indexes of a sort refer to.
abbrev pub things : Root → Sort → List Thing
things r s.CoreModule = r.modules
things r s.Func = r.functions
things r s.Value = r.values
things r s.Type = r.types
things r s.Component = r.components
things r s.Instance = r.instances

-- What an index of a sort refers to.
abbrev pub stands_for : Root → Sort → ℕ → Thing
stands_for r t i = thing_at (things r t) i

abbrev pub with_thing : Root → Sort → Thing → Root
with_thing r s.CoreModule x = record r { modules = r.modules ++ x ∷ [] }
with_thing r s.Func x = record r { functions = r.functions ++ x ∷ [] }
with_thing r s.Value x = record r { values = r.values ++ x ∷ [] }
with_thing r s.Type x = record r { types = r.types ++ x ∷ [] }
with_thing r s.Component x = record r { components = r.components ++ x ∷ [] }
with_thing r s.Instance x = record r { instances = r.instances ++ x ∷ [] }

-- The export with this name of what an index refers to.
abbrev pub projected : Thing → Name → Thing
projected nothing n = nothing
projected x n = projection x n

-- Whether an instance of this type can have an export of this sort and name; an instantiation can have any.
abbrev pub may_export : Sort → Tree → Name → Bool
may_export t absent n = true
may_export t i n = is_of_sort t (items_in i n)

-- What an alias of an instance's export refers to: nothing if the instance has no such export of this sort.
abbrev pub aliased_thing : Bound → Sort → Thing → Name → Thing
aliased_thing b t x n = if may_export t b.type n then projected x n else nothing

-- The scope after an export, whose new index refers to the same definition.
abbrev pub with_exported : Scope → Sort → ℕ → Scope
with_exported c s.Type i = record c { types = c.types ++ type_at c.types i ∷ [] }
with_exported c s.Instance i = record c { instances = c.instances ++ bound_at c.instances i ∷ [] }
with_exported c t i = counted_up c t

-- The tree of an exported index, if it has one.
abbrev pub exported_tree : Scope → Sort → ℕ → Tree
exported_tree c s.Type i = type_at c.types i
exported_tree c s.Instance i = (bound_at c.instances i).type
exported_tree c _ i = absent

-- The scope that is k scopes out of the root, which has no enclosing scopes.
abbrev pub root_scope : Root → ℕ → Scope
root_scope r zero = r.scope
root_scope r (suc k) = empty

-- What an index refers to in the scope that is k scopes out of the root.
abbrev pub outer_thing : Root → Sort → ℕ → ℕ → Thing
outer_thing r t zero i = stands_for r t i
outer_thing r t (suc k) i = nothing

-- What the index that an item adds refers to.
abbrev pub thing_added : Root → Item → Thing
thing_added r (custom n bs) = nothing
thing_added r (core_type m) = nothing
thing_added r (nested bs) = component_at (length r.nested_bytes)
thing_added r (instantiate i args) = instance_at (length r.instantiations)
thing_added r (alias_item (export_alias t i n)) = aliased_thing (bound_at r.scope.instances i) t (stands_for r s.Instance i) n
thing_added r (alias_item (outer_alias t k i)) = outer_thing r t k i
thing_added r (type_item t) = written (tree_of t r.scope [])
thing_added r (import_item n d) = import_at (length r.imports)
thing_added r (export_item n t i) = stands_for r t i

-- The meaning after one more item.
abbrev pub read : Root → Item → Root
read r (custom n bs) = record r { customs = r.customs ++ (n, bs) ∷ [] }
read r (core_type m) = record r { scope = record r.scope { core_types = r.scope.core_types ++ module_tree m ∷ [] } }
read r (nested bs) = with_thing (record r { scope = counted_up r.scope s.Component; nested_bytes = r.nested_bytes ++ bs ∷ [] }) s.Component (component_at (length r.nested_bytes))
read r (instantiate i args) =
    with_thing
    (record r { scope = record r.scope { instances = r.scope.instances ++ unbound ∷ [] }; instantiations = r.instantiations ++ record { component = stands_for r s.Component i; arguments = map (λ a. (a.0, a.1, stands_for r a.1 a.2)) args } ∷ [] })
    s.Instance (instance_at (length r.instantiations))
read r (alias_item (export_alias t i n)) = with_thing (record r { scope = with_alias r.scope t (bound_at r.scope.instances i) n }) t (aliased_thing (bound_at r.scope.instances i) t (stands_for r s.Instance i) n)
read r (alias_item (outer_alias t k i)) = with_thing (record r { scope = with_outer r.scope t k (root_scope r k) i }) t (outer_thing r t k i)
read r (type_item t) = with_thing (record r { scope = record r.scope { types = r.scope.types ++ tree_of t r.scope [] ∷ [] } }) s.Type (written (tree_of t r.scope []))
read r (import_item n d) =
    with_thing
    (record r { scope = with_bound r.scope imported (position (length r.imports) ∷ []) (described_item r.scope d); imports = r.imports ++ (n, described_item r.scope d) ∷ [] })
    (described_sort d) (import_at (length r.imports))
read r (export_item n t i) =
    with_thing
    (record r { scope = with_exported r.scope t i; exports = r.exports ++ record { name = n; sort = t; thing = stands_for r t i; tree = exported_tree r.scope t i } ∷ [] })
    t (stands_for r t i)

abbrev pub read_all : Root → List Item → Root
read_all r [] = r
read_all r (x ∷ xs) = read_all (read r x) xs

-- The meaning of a list of items.
abbrev pub meaning : List Item → Root
meaning items = read_all start items

abbrev pub is_custom : Item → Bool
is_custom (custom n bs) = true
is_custom _ = false
