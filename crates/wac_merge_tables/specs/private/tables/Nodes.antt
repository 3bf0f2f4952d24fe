-- Types as nodes of an interning table. A node mentions other types by numbers lower than its own.
use Rattle.std.specs.Prelude.{ℕ, zero, suc, ◌≡◌, ◌≢◌, ◌<◌, Bool, List, [], ◌∷◌, ◌++◌, ◌⊎◌, length, map, Option, Some, None, slice_get}
use Rattle.std.specs.List.{AllByRecursion}
use Rattle.std.specs.Ordering.{nat_cmp}
use Rattle.std.specs.declared.cmp.Ordering.TheVariants.{Less}
use Rattle.std.specs.Cmp.Lexicographic.{slice_cmp}
use Rattle.wac_types_shapes.specs.primitives.Name.{Name, find_name, option_case}
use Rattle.wac_types_shapes.specs.declared.primitives.component.PrimitiveType.{PrimitiveType}
use Rattle.wac_types_shapes.specs.primitives.Core.{CoreItem, no_item}
use Rattle.wac_types_shapes.specs.primitives.Tree.{TypeTree, absent, resource, primitive, own, borrow, record_of, variant_of, list_of, fixed_list_of, tuple_of, flags_of, enum_of, option_of, result_of, stream_of, future_of, function, instance, component, module_of, type_equal, function_item, instance_item, component_item, module_item, value_item}
use Rattle.wac_types_collection.specs.collection.Held.{part_at, items_under}
use Rattle.wac_types_collection.specs.subtyping.Called.{Called}

-- An import or export of an instance or component: its sort, and the number of its type.
pub data Item : Type 0 where
  a_type : ℕ → Item
  a_func : ℕ → Item
  an_instance : ℕ → Item
  a_component : ℕ → Item
  a_module : ℕ → Item
  a_value : ℕ → Item

pub data Node : Type 0 where
  of_resource : Called → Node
  of_primitive : PrimitiveType → Node
  of_own : Called → Node
  of_borrow : Called → Node
  of_record : List (Name × ℕ) → Node
  of_variant : List (Name × Option ℕ) → Node
  of_list : ℕ → Node
  of_fixed_list : ℕ → ℕ → Node
  of_tuple : List ℕ → Node
  of_flags : List Name → Node
  of_enum : List Name → Node
  of_option : ℕ → Node
  of_result : Option ℕ → Option ℕ → Node
  of_stream : Option ℕ → Node
  of_future : Option ℕ → Node
  of_function : Bool → List (Name × ℕ) → Option ℕ → Node
  of_instance : List (Name × Item) → Node
  of_component : List (Name × Item) → List (Name × Item) → Node
  of_module : List (Name × List (Name × CoreItem)) → List (Name × CoreItem) → Node

abbrev pub and_optional : Option ℕ → List ℕ → List ℕ
and_optional None ns = ns
and_optional (Some n) ns = n ∷ ns

abbrev pub optionals : List (Name × Option ℕ) → List ℕ
optionals [] = []
optionals (e ∷ es) = and_optional e.1 (optionals es)

abbrev pub seconds : List (Name × ℕ) → List ℕ
seconds [] = []
seconds (e ∷ es) = e.1 ∷ seconds es

abbrev pub type_of : Item → ℕ
type_of (a_type n) = n
type_of (a_func n) = n
type_of (an_instance n) = n
type_of (a_component n) = n
type_of (a_module n) = n
type_of (a_value n) = n

abbrev pub types_of : List (Name × Item) → List ℕ
types_of [] = []
types_of (e ∷ es) = type_of e.1 ∷ types_of es

-- The numbers that a node mentions.
abbrev pub mentions : Node → List ℕ
mentions (of_resource r) = []
mentions (of_primitive p) = []
mentions (of_own r) = []
mentions (of_borrow r) = []
mentions (of_record fields) = seconds fields
mentions (of_variant cases) = optionals cases
mentions (of_list n) = n ∷ []
mentions (of_fixed_list k n) = n ∷ []
mentions (of_tuple ns) = ns
mentions (of_flags names) = []
mentions (of_enum names) = []
mentions (of_option n) = n ∷ []
mentions (of_result ok err) = and_optional ok (and_optional err [])
mentions (of_stream n) = and_optional n []
mentions (of_future n) = and_optional n []
mentions (of_function is_async params result) = and_optional result (seconds params)
mentions (of_instance exports) = types_of exports
mentions (of_component imports exports) = types_of imports ++ types_of exports
mentions (of_module imports exports) = []

abbrev pub optional_tree : (ℕ → TypeTree Called) → Option ℕ → TypeTree Called
optional_tree t None = absent
optional_tree t (Some n) = t n

abbrev pub item_tree : (ℕ → TypeTree Called) → Item → TypeTree Called
item_tree t (a_type n) = type_equal (t n)
item_tree t (a_func n) = function_item (t n)
item_tree t (an_instance n) = instance_item (t n)
item_tree t (a_component n) = component_item (t n)
item_tree t (a_module n) = module_item (t n)
item_tree t (a_value n) = value_item (t n)

abbrev pub listed_tree : (ℕ → TypeTree Called) → List (Name × Item) → Name → TypeTree Called
listed_tree t es = items_under (map (λ e. (e.0, item_tree t e.1)) es)

-- The import or export of a core module under its name.
abbrev pub core_under : List (Name × CoreItem) → Name → CoreItem
core_under es n = option_case (find_name es n) no_item (λ x. x)

-- The import of a core module under its module and name.
abbrev pub core_under_both : List (Name × List (Name × CoreItem)) → Name → Name → CoreItem
core_under_both ms m = option_case (find_name ms m) (λ n. no_item) core_under

-- The tree of a node, given the trees of the nodes that it mentions.
abbrev pub node_tree : (ℕ → TypeTree Called) → Node → TypeTree Called
node_tree t (of_resource r) = resource r
node_tree t (of_primitive p) = primitive p
node_tree t (of_own r) = own r
node_tree t (of_borrow r) = borrow r
node_tree t (of_record fields) = record_of (map (λ e. e.0) fields) (part_at (map (λ e. t e.1) fields))
node_tree t (of_variant cases) = variant_of (map (λ e. e.0) cases) (part_at (map (λ e. optional_tree t e.1) cases))
node_tree t (of_list n) = list_of (t n)
node_tree t (of_fixed_list k n) = fixed_list_of k (t n)
node_tree t (of_tuple ns) = tuple_of (length ns) (part_at (map t ns))
node_tree t (of_flags names) = flags_of names
node_tree t (of_enum names) = enum_of names
node_tree t (of_option n) = option_of (t n)
node_tree t (of_result ok err) = result_of (optional_tree t ok) (optional_tree t err)
node_tree t (of_stream n) = stream_of (optional_tree t n)
node_tree t (of_future n) = future_of (optional_tree t n)
node_tree t (of_function is_async params result) = function is_async (map (λ p. p.0) params) (part_at (map (λ p. t p.1) params)) (optional_tree t result)
node_tree t (of_instance exports) = instance (listed_tree t exports)
node_tree t (of_component imports exports) = component (listed_tree t imports) (listed_tree t exports)
node_tree t (of_module imports exports) = module_of (core_under_both imports) (core_under exports)

-- The tree of a number, down to depth k.
abbrev pub tree_to : ℕ → List Node → ℕ → TypeTree Called
tree_to zero ns i = absent
tree_to (suc k) ns i = option_case (slice_get ns i) absent (node_tree (tree_to k ns))

-- The tree of a number.
abbrev pub tree_at : List Node → ℕ → TypeTree Called
tree_at ns i = tree_to (suc i) ns i

-- The names ascend byte by byte.
abbrev pub Sorted : {V : Type 0} → List (Name × V) → Type 0
Sorted [] = Unit {0}
Sorted (e ∷ es) = AllByRecursion (λ x. slice_cmp nat_cmp e.0 x.0 ≡ Less) es × Sorted es

-- The items are sorted by name, and each is there.
abbrev pub AreCoreItems : List (Name × CoreItem) → Type 0
AreCoreItems es = Sorted es × AllByRecursion (λ e. e.1 ≢ no_item) es

-- The imports and exports of a node are sorted by name. A module from which nothing is imported is not named.
abbrev pub IsSorted : Node → Type 0
IsSorted (of_instance exports) = Sorted exports
IsSorted (of_component imports exports) = Sorted imports × Sorted exports
IsSorted (of_module imports exports) = (Sorted imports × AllByRecursion (λ e. AreCoreItems e.1 × (e.1 ≢ [])) imports) × AreCoreItems exports
IsSorted _ = Unit {0}

-- Each node is sorted, is there once, and mentions only lower numbers.
pub record IsTable (ns : List Node) : Type 0 where
  pub sorted : (i : ℕ) (n : Node) → slice_get ns i ≡ Some n → IsSorted n
  pub lower : (i : ℕ) (n : Node) → slice_get ns i ≡ Some n → AllByRecursion (λ m. m < i) (mentions n)
  pub once : (i j : ℕ) (n : Node) → slice_get ns i ≡ Some n → slice_get ns j ≡ Some n → i ≡ j

-- The node has the number i: it was there already, or it was appended.
abbrev pub Added : List Node → Node → List Node → ℕ → Type 0
Added old n new i = (slice_get new i ≡ Some n) × ((new ≡ old) ⊎ (new ≡ old ++ n ∷ []))
