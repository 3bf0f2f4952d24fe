-- Types that are the same in each scope, since they mention no resource from outside. Only contracts inside the merge
-- cite this file.
use Rattle.std.specs.Prelude.{ℕ, ◌≡◌, ◌<◌, ◌≤◌, ◌||◌, Bool, true, false, List, length}
use Rattle.std.specs.List.{list_any}
use Rattle.wac_types_shapes.specs.primitives.Name.{Name}
use Rattle.wac_types_shapes.specs.primitives.Tree.{TypeTree, resource, own, borrow, record_of, variant_of, list_of, fixed_list_of, tuple_of, option_of, result_of, stream_of, future_of, function, instance, component, type_equal, function_item, instance_item, component_item, module_item, value_item}
use Rattle.wac_types_collection.specs.subtyping.Called.{Called, bound_at}
use Rattle.wac_merge_tables.specs.private.tables.Nodes.{Node, of_resource, of_own, of_borrow, of_component, types_of, tree_at}
use Rattle.wac_merge_agreement.specs.private.agreement.ReachSteps.{flag_of, parts}

-- The resource is not bound inside the compared type: a class binds it, or nothing does.
abbrev pub is_outer : Called → Bool
is_outer (bound_at l n) = false
is_outer _ = true

-- Each resource in the tree is bound inside the compared type.
abbrev pub IsInner : TypeTree Called → Type 0
IsInner (resource x) = is_outer x ≡ false
IsInner (own x) = is_outer x ≡ false
IsInner (borrow x) = is_outer x ≡ false
IsInner (record_of names ts) = (i : ℕ) → IsInner (ts i)
IsInner (variant_of names ts) = (i : ℕ) → IsInner (ts i)
IsInner (list_of t) = IsInner t
IsInner (fixed_list_of n t) = IsInner t
IsInner (tuple_of n ts) = (i : ℕ) → IsInner (ts i)
IsInner (option_of t) = IsInner t
IsInner (result_of t u) = IsInner t × IsInner u
IsInner (stream_of t) = IsInner t
IsInner (future_of t) = IsInner t
IsInner (function is_async names ts t) = ((i : ℕ) → IsInner (ts i)) × IsInner t
IsInner (instance exports) = (n : Name) → IsInner (exports n)
IsInner (component imports exports) = ((n : Name) → IsInner (imports n)) × ((n : Name) → IsInner (exports n))
IsInner (type_equal t) = IsInner t
IsInner (function_item t) = IsInner t
IsInner (instance_item t) = IsInner t
IsInner (component_item t) = IsInner t
IsInner (module_item t) = IsInner t
IsInner (value_item t) = IsInner t
IsInner t = Unit {0}

-- The node is a resource that is not bound inside the compared type, or is a handle to one.
abbrev pub is_outer_node : Node → Bool
is_outer_node (of_resource x) = is_outer x
is_outer_node (of_own x) = is_outer x
is_outer_node (of_borrow x) = is_outer x
is_outer_node n = false

-- The test passes for the type of an import or export of a component.
abbrev pub any_side : (ℕ → Bool) → Node → Bool
any_side f (of_component imports exports) = list_any f (types_of imports) || list_any f (types_of exports)
any_side f n = false

-- The mark of a node, by those of the nodes that it mentions.
abbrev pub is_marked : List Bool → Node → Bool
is_marked marks n = (is_outer_node n || list_any (flag_of marks) (parts n)) || any_side (flag_of marks) n

-- Each resource of an examined node without its mark is bound inside the compared type.
pub record AreMarks (ns : List Node) (marks : List Bool) : Type 0 where
  pub there : length marks ≤ length ns
  pub inner : (i : ℕ) → i < length marks → flag_of marks i ≡ false → IsInner (tree_at ns i)
