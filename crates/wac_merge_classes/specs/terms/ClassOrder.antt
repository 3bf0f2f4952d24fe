-- The order of the merged imports: instances, then type items, then the rest, each after the classes that it depends
-- on.
use Rattle.std.specs.Prelude.{ℕ, suc, ◌≡◌, ◌≢◌, ◌≤◌, Bool, true, ◌==◌, if◌then◌else◌, List, [], ◌∷◌, ◌++◌, Some, slice_get, Contains}
use Rattle.wac_edges.specs.Arranged.{Arranges}
use Rattle.wac_edges.specs.cycles.Cycles.{Path}
use Rattle.wac_types_shapes.specs.primitives.Name.{Name, same_name}
use Rattle.wac_types_shapes.specs.primitives.Tree.{Place, position, TypeTree, resource, own, borrow, record_of, variant_of, list_of, fixed_list_of, tuple_of, option_of, result_of, stream_of, future_of, function, instance, component, type_equal, function_item, instance_item, component_item, module_item, value_item}
use Rattle.wac_types_collection.specs.collection.Collection.{Collection, item_at}
use Rattle.wac_types_collection.specs.wide.Wide.{UsesWidely}
use Rattle.wac_types_shapes.specs.declared.shapes.component.InterfaceId.{InterfaceId}
use Rattle.wac_types_shapes.specs.declared.shapes.component.Interface.{Interface}
use Rattle.wac_types_shapes.specs.declared.shapes.component.ItemKind.{ItemKind}
use Rattle.wac_types_shapes.specs.declared.shapes.component.ItemKind.TheVariants as kind
use Rattle.wac_merge_classes.specs.entries.Classes.{Entry, NameRules, same_class, class_names, members}
use Rattle.wac_merge_classes.specs.entries.Binding.{root_bindings}
use Rattle.wac_merge_classes.specs.terms.Union.{member_tree}

-- The tree mentions a resource for which P holds.
pub data Mentions {L : Type 0} (P : L → Type 0) : TypeTree L → Type 0 where
  as_resource : (l : L) → P l → Mentions P (resource l)
  as_own : (l : L) → P l → Mentions P (own l)
  as_borrow : (l : L) → P l → Mentions P (borrow l)
  in_field : (names : List Name) (parts : ℕ → TypeTree L) (i : ℕ) → Mentions P (parts i) → Mentions P (record_of names parts)
  in_case : (names : List Name) (parts : ℕ → TypeTree L) (i : ℕ) → Mentions P (parts i) → Mentions P (variant_of names parts)
  in_list : (t : TypeTree L) → Mentions P t → Mentions P (list_of t)
  in_fixed_list : (n : ℕ) (t : TypeTree L) → Mentions P t → Mentions P (fixed_list_of n t)
  in_tuple : (n : ℕ) (parts : ℕ → TypeTree L) (i : ℕ) → Mentions P (parts i) → Mentions P (tuple_of n parts)
  in_option : (t : TypeTree L) → Mentions P t → Mentions P (option_of t)
  in_ok : (t u : TypeTree L) → Mentions P t → Mentions P (result_of t u)
  in_err : (t u : TypeTree L) → Mentions P u → Mentions P (result_of t u)
  in_stream : (t : TypeTree L) → Mentions P t → Mentions P (stream_of t)
  in_future : (t : TypeTree L) → Mentions P t → Mentions P (future_of t)
  in_parameter : (is_async : Bool) (names : List Name) (parts : ℕ → TypeTree L) (t : TypeTree L) (i : ℕ) → Mentions P (parts i) → Mentions P (function is_async names parts t)
  in_result : (is_async : Bool) (names : List Name) (parts : ℕ → TypeTree L) (t : TypeTree L) → Mentions P t → Mentions P (function is_async names parts t)
  in_instance : (exports : Name → TypeTree L) (n : Name) → Mentions P (exports n) → Mentions P (instance exports)
  in_imports : (imports exports : Name → TypeTree L) (n : Name) → Mentions P (imports n) → Mentions P (component imports exports)
  in_exports : (imports exports : Name → TypeTree L) (n : Name) → Mentions P (exports n) → Mentions P (component imports exports)
  in_type_item : (t : TypeTree L) → Mentions P t → Mentions P (type_equal t)
  in_function_item : (t : TypeTree L) → Mentions P t → Mentions P (function_item t)
  in_instance_item : (t : TypeTree L) → Mentions P t → Mentions P (instance_item t)
  in_component_item : (t : TypeTree L) → Mentions P t → Mentions P (component_item t)
  in_module_item : (t : TypeTree L) → Mentions P t → Mentions P (module_item t)
  in_value_item : (t : TypeTree L) → Mentions P t → Mentions P (value_item t)

-- The import at this position binds the leaf at the root.
abbrev pub begins_at : ℕ → List Place → Type 0
begins_at k (position j ∷ path) = j ≡ k
begins_at k _ = ⊥

-- Class a depends on class b if an entry of a uses an interface of b widely, or mentions a resource that b binds.
pub data RestsOn (rules : NameRules) (c : Collection) (es : List Entry) : ℕ → ℕ → Type 0 where
  by_use : (a b : ℕ) (class other id : Name) (e : Entry) (i j : InterfaceId) (used : Interface)
      → a ≢ b → slice_get (class_names rules es) a ≡ Some class → slice_get (class_names rules es) b ≡ Some other
      → Contains (members rules es class) e → e.kind ≡ kind.Instance i → UsesWidely c i j
      → item_at c.interfaces j.0 ≡ Some used → used.id ≡ Some id → same_class rules es id other ≡ true
      → RestsOn rules c es a b
  by_resource : (a b : ℕ) (class : Name) (e : Entry)
      → a ≢ b → slice_get (class_names rules es) a ≡ Some class → Contains (members rules es class) e
      → Mentions (λ l. begins_at b l.path) (member_tree rules c es class a (root_bindings rules c es (λ k. k)) e.kind)
      → RestsOn rules c es a b

-- The class depends on itself, through other classes.
abbrev pub IsOnCircle : NameRules → Collection → List Entry → ℕ → Type 0
IsOnCircle rules c es a = Path (RestsOn rules c es) a a

-- The first class that is on a cycle.
pub record IsFirstOnCircle (rules : NameRules) (c : Collection) (es : List Entry) (a : ℕ) : Type 0 where
  pub on : IsOnCircle rules c es a
  pub first : (b : ℕ) → IsOnCircle rules c es b → a ≤ b

-- The group of an item: 0 for instances, 1 for type items, 2 for the rest.
abbrev pub group_of : ItemKind → ℕ
group_of (kind.Instance i) = 0
group_of (kind.TypeItem t) = 1
group_of _ = 2

-- The group of the first entry with this name.
abbrev pub group_under : List Entry → Name → ℕ
group_under [] n = 2
group_under (e ∷ rest) n = if same_name e.name n then group_of e.kind else group_under rest n

-- The numbers of the classes in a group. The first of these classes has the number i.
abbrev pub in_group : ℕ → List Entry → ℕ → List Name → List ℕ
in_group g es i [] = []
in_group g es i (n ∷ ns) = if group_under es n == g then i ∷ in_group g es (suc i) ns else in_group g es (suc i) ns

-- The classes by group, each group in order of first appearance.
abbrev pub grouped : NameRules → List Entry → List ℕ
grouped rules es = in_group 0 es 0 (class_names rules es) ++ (in_group 1 es 0 (class_names rules es) ++ in_group 2 es 0 (class_names rules es))

-- The numbers of the classes in the order of their imports.
abbrev pub IsWrittenOrder : NameRules → Collection → List Entry → List ℕ → Type 0
IsWrittenOrder rules c es order = Arranges (RestsOn rules c es) (grouped rules es) [] (grouped rules es) order
