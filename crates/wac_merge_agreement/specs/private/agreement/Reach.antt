-- The classes whose resources a type mentions. Only contracts inside the merge cite this file.
use Rattle.std.specs.Prelude.{ℕ, ◌≡◌, Bool, List}
use Rattle.wac_types_shapes.specs.primitives.Name.{Name}
use Rattle.wac_types_shapes.specs.primitives.Tree.{TypeTree, resource, own, borrow, record_of, variant_of, list_of, fixed_list_of, tuple_of, option_of, result_of, stream_of, future_of, function, instance, type_equal, function_item, instance_item, component_item, module_item, value_item}
use Rattle.wac_types_collection.specs.subtyping.Called.{Called, of_class}

-- The tree mentions, outside of components, a resource for which P holds.
pub data Reaches {L : Type 0} (P : L → Type 0) : TypeTree L → Type 0 where
  as_resource : (l : L) → P l → Reaches P (resource l)
  as_own : (l : L) → P l → Reaches P (own l)
  as_borrow : (l : L) → P l → Reaches P (borrow l)
  in_field : (names : List Name) (parts : ℕ → TypeTree L) (i : ℕ) → Reaches P (parts i) → Reaches P (record_of names parts)
  in_case : (names : List Name) (parts : ℕ → TypeTree L) (i : ℕ) → Reaches P (parts i) → Reaches P (variant_of names parts)
  in_list : (t : TypeTree L) → Reaches P t → Reaches P (list_of t)
  in_fixed_list : (n : ℕ) (t : TypeTree L) → Reaches P t → Reaches P (fixed_list_of n t)
  in_tuple : (n : ℕ) (parts : ℕ → TypeTree L) (i : ℕ) → Reaches P (parts i) → Reaches P (tuple_of n parts)
  in_option : (t : TypeTree L) → Reaches P t → Reaches P (option_of t)
  in_ok : (t u : TypeTree L) → Reaches P t → Reaches P (result_of t u)
  in_err : (t u : TypeTree L) → Reaches P u → Reaches P (result_of t u)
  in_stream : (t : TypeTree L) → Reaches P t → Reaches P (stream_of t)
  in_future : (t : TypeTree L) → Reaches P t → Reaches P (future_of t)
  in_parameter : (is_async : Bool) (names : List Name) (parts : ℕ → TypeTree L) (t : TypeTree L) (i : ℕ) → Reaches P (parts i) → Reaches P (function is_async names parts t)
  in_result : (is_async : Bool) (names : List Name) (parts : ℕ → TypeTree L) (t : TypeTree L) → Reaches P t → Reaches P (function is_async names parts t)
  in_instance : (exports : Name → TypeTree L) (n : Name) → Reaches P (exports n) → Reaches P (instance exports)
  in_type_item : (t : TypeTree L) → Reaches P t → Reaches P (type_equal t)
  in_function_item : (t : TypeTree L) → Reaches P t → Reaches P (function_item t)
  in_instance_item : (t : TypeTree L) → Reaches P t → Reaches P (instance_item t)
  in_component_item : (t : TypeTree L) → Reaches P t → Reaches P (component_item t)
  in_module_item : (t : TypeTree L) → Reaches P t → Reaches P (module_item t)
  in_value_item : (t : TypeTree L) → Reaches P t → Reaches P (value_item t)

-- The class with this number binds the resource.
abbrev pub IsOfClass : ℕ → Called → Type 0
IsOfClass b (of_class k path name) = k ≡ b
IsOfClass b _ = ⊥
