-- The tree of a type: the type unfolded, without ids. A resource is given by its binding.
use Rattle.std.specs.Prelude.{ℕ, zero, suc, Bool, List, ◌++◌}
use Rattle.wac_types_shapes.specs.declared.primitives.component.PrimitiveType.{PrimitiveType}
use Rattle.wac_types_shapes.specs.primitives.Core.{CoreItem}
use Rattle.wac_types_shapes.specs.primitives.Name.{Name}

-- The imports or the exports of a component type or instance type.
pub data Side : Type 0 where
  imported : Side
  exported : Side

-- A step of a path: a name, or at the root the index of an import.
pub data Place : Type 0 where
  position : ℕ → Place
  named : Name → Place

-- A binding of a resource, seen from a use of it: the number of scopes out, the side there, the path from that side.
pub record Leaf : Type 0 where
  pub out : ℕ
  pub side : Side
  pub path : List Place

-- A type unfolded, in which L represents a resource.
-- Parts in order are a function of the index, and items by name are a function of the name.
-- `absent` is the part after the last, the item of an unknown name, and a missing optional type.
pub data TypeTree (L : Type 0) : Type 0 where
  absent : TypeTree L
  resource : L → TypeTree L
  primitive : PrimitiveType → TypeTree L
  own : L → TypeTree L
  borrow : L → TypeTree L
  record_of : List Name → (ℕ → TypeTree L) → TypeTree L
  variant_of : List Name → (ℕ → TypeTree L) → TypeTree L
  list_of : TypeTree L → TypeTree L
  fixed_list_of : ℕ → TypeTree L → TypeTree L
  tuple_of : ℕ → (ℕ → TypeTree L) → TypeTree L
  flags_of : List Name → TypeTree L
  enum_of : List Name → TypeTree L
  option_of : TypeTree L → TypeTree L
  result_of : TypeTree L → TypeTree L → TypeTree L
  stream_of : TypeTree L → TypeTree L
  future_of : TypeTree L → TypeTree L
  function : Bool → List Name → (ℕ → TypeTree L) → TypeTree L → TypeTree L
  instance : (Name → TypeTree L) → TypeTree L
  component : (Name → TypeTree L) → (Name → TypeTree L) → TypeTree L
  -- The type of a core module: imports by module and name, exports by name.
  module_of : (Name → Name → CoreItem) → (Name → CoreItem) → TypeTree L
  -- Imports and exports. `fresh` is `(type (sub resource))`, `type_equal t` is `(type (eq t))`.
  fresh : TypeTree L
  type_equal : TypeTree L → TypeTree L
  function_item : TypeTree L → TypeTree L
  instance_item : TypeTree L → TypeTree L
  component_item : TypeTree L → TypeTree L
  module_item : TypeTree L → TypeTree L
  value_item : TypeTree L → TypeTree L

-- A tree whose resources are given by their bindings.
abbrev pub Tree : Type 0
Tree = TypeTree Leaf

-- The binding, seen from one scope further in.
abbrev pub further_out : Leaf → Leaf
further_out l = record l { out = suc l.out }

-- The step of `inside`, with the number of scopes out, the side and the path given apart.
abbrev pub inside_from : (Leaf → Leaf) → ℕ → Side → List Place → Leaf
inside_from f zero s p = record { out = 0; side = s; path = p }
inside_from f (suc o) s p = further_out (f (record { out = o; side = s; path = p }))

-- A change of bindings, applied one scope further in. A binding in that scope itself does not change.
abbrev pub inside : (Leaf → Leaf) → Leaf → Leaf
inside f l = inside_from f l.out l.side l.path

-- The tree with each binding changed.
abbrev pub moved : (Leaf → Leaf) → Tree → Tree
moved f absent = absent
moved f (resource l) = resource (f l)
moved f (primitive n) = primitive n
moved f (own l) = own (f l)
moved f (borrow l) = borrow (f l)
moved f (record_of names parts) = record_of names (λ i. moved f (parts i))
moved f (variant_of names parts) = variant_of names (λ i. moved f (parts i))
moved f (list_of t) = list_of (moved f t)
moved f (fixed_list_of n t) = fixed_list_of n (moved f t)
moved f (tuple_of n parts) = tuple_of n (λ i. moved f (parts i))
moved f (flags_of names) = flags_of names
moved f (enum_of names) = enum_of names
moved f (option_of t) = option_of (moved f t)
moved f (result_of t u) = result_of (moved f t) (moved f u)
moved f (stream_of t) = stream_of (moved f t)
moved f (future_of t) = future_of (moved f t)
moved f (function is_async names params result) = function is_async names (λ i. moved f (params i)) (moved f result)
moved f (instance items) = instance (λ n. moved (inside f) (items n))
moved f (component imports exports) = component (λ n. moved (inside f) (imports n)) (λ n. moved (inside f) (exports n))
moved f (module_of imports exports) = module_of imports exports
moved f fresh = fresh
moved f (type_equal t) = type_equal (moved f t)
moved f (function_item t) = function_item (moved f t)
moved f (instance_item t) = instance_item (moved f t)
moved f (component_item t) = component_item (moved f t)
moved f (module_item t) = module_item (moved f t)
moved f (value_item t) = value_item (moved f t)

-- The binding, seen from some scopes further in.
abbrev pub out_by : ℕ → Leaf → Leaf
out_by zero l = l
out_by (suc k) l = further_out (out_by k l)

-- The tree, seen from some scopes further in.
abbrev pub seen_from : ℕ → Tree → Tree
seen_from k = moved (out_by k)

-- A binding that an instance type sees, as seen from the scope with an instance of it at this side and path.
abbrev pub taken_at : Side → List Place → ℕ → Side → List Place → Leaf
taken_at side path zero s p = record { out = 0; side = side; path = path ++ p }
taken_at side path (suc o) s p = record { out = o; side = s; path = p }

-- The tree of an item of the instance at this side and path, seen from the scope that binds the instance.
abbrev pub taken_from : Side → List Place → Tree → Tree
taken_from side path = moved (λ l. taken_at side path l.out l.side l.path)

-- The type of an import or export.
abbrev pub type_in : Tree → Tree
type_in (type_equal t) = t
type_in (function_item t) = t
type_in (instance_item t) = t
type_in (component_item t) = t
type_in (module_item t) = t
type_in (value_item t) = t
type_in _ = absent

-- The exports of an instance type.
abbrev pub items_in : Tree → Name → Tree
items_in (instance items) = items
items_in _ = λ _. absent

-- `own` of a resource.
abbrev pub own_of : Tree → Tree
own_of (resource l) = own l
own_of _ = absent

-- `borrow` of a resource.
abbrev pub borrow_of : Tree → Tree
borrow_of (resource l) = borrow l
borrow_of _ = absent
