-- The subtype relation on the trees of types ("Subtyping").
use Rattle.std.specs.Prelude.{ℕ, ◌≡◌, ◌≢◌, ◌≤◌, false, List, map, Option, Some, None, slice_get}
use Rattle.wac_types_shapes.specs.primitives.Name.{Name}
use Rattle.wac_types_shapes.specs.primitives.Core.{CoreItem, no_item, core_table, core_memory}
use Rattle.wac_types_shapes.specs.primitives.Tree.{TypeTree, absent, instance, component, module_of, type_equal, instance_item, component_item, module_item}
use Rattle.wac_types_collection.specs.collection.Collection.{Collection}
use Rattle.wac_types_collection.specs.collection.Held.{Naming, Names, unfolded, item_tree, items_under}
use Rattle.wac_types_collection.specs.declared.collection.collection.Held.{Held}
use Rattle.wac_types_shapes.specs.declared.shapes.component.Resource.{Resource}
use Rattle.wac_types_shapes.specs.declared.shapes.component.«Type».{«Type» as AnyType}
use Rattle.wac_types_shapes.specs.declared.shapes.component.ItemKind.{ItemKind}

-- The first maximum is within the second, if there is a second.
abbrev pub IsMaximumWithin : Option ℕ → Option ℕ → Type 0
IsMaximumWithin m None = Unit {0}
IsMaximumWithin None (Some b) = ⊥
IsMaximumWithin (Some a) (Some b) = a ≤ b

-- The first core item matches the second: limits of tables and memories are within its limits, and all else is equal.
abbrev pub IsCoreSubtype : CoreItem → CoreItem → Type 0
IsCoreSubtype (core_table e wide shared least most) (core_table f wide_b shared_b least_b most_b) =
    (e ≡ f) × (wide ≡ wide_b) × (shared ≡ shared_b) × (least_b ≤ least) × IsMaximumWithin most most_b
IsCoreSubtype (core_memory wide shared least most page) (core_memory wide_b shared_b least_b most_b page_b) =
    (wide ≡ wide_b) × (shared ≡ shared_b) × (page ≡ page_b) × (least_b ≤ least) × IsMaximumWithin most most_b
IsCoreSubtype a b = a ≡ b

-- A tree that is a subtype only of itself: a value type, a function, a resource, or nothing.
abbrev pub IsPlain : {L : Type 0} → TypeTree L → Type 0
IsPlain (instance es) = ⊥
IsPlain (component is es) = ⊥
IsPlain (module_of is es) = ⊥
IsPlain (type_equal t) = ⊥
IsPlain (instance_item t) = ⊥
IsPlain (component_item t) = ⊥
IsPlain (module_item t) = ⊥
IsPlain _ = Unit {0}

-- The first tree is a subtype of the second.
pub data Sub {L : Type 0} : TypeTree L → TypeTree L → Type 0 where
  same : (a : TypeTree L) → IsPlain a → Sub a a
  -- For each export of the second there is one of the first with a subtype.
  instances : (xs ys : Name → TypeTree L) → ((n : Name) → ys n ≢ absent → Sub (xs n) (ys n)) → Sub (instance xs) (instance ys)
  -- For each import of the first there is one of the second with a subtype; and exports as above.
  components : (xi xe yi ye : Name → TypeTree L) → ((n : Name) → xi n ≢ absent → Sub (yi n) (xi n)) → ((n : Name) → ye n ≢ absent → Sub (xe n) (ye n)) → Sub (component xi xe) (component yi ye)
  -- The same for core modules.
  modules : (xi yi : Name → Name → CoreItem) (xe ye : Name → CoreItem) → ((m n : Name) → xi m n ≢ no_item → IsCoreSubtype (yi m n) (xi m n)) → ((n : Name) → ye n ≢ no_item → IsCoreSubtype (xe n) (ye n)) → Sub (module_of xi xe) (module_of yi ye)
  -- Items are compared by their types, type items in both directions.
  type_items : (a b : TypeTree L) → Sub a b → Sub b a → Sub (type_equal a) (type_equal b)
  instance_items : (a b : TypeTree L) → Sub a b → Sub (instance_item a) (instance_item b)
  component_items : (a b : TypeTree L) → Sub a b → Sub (component_item a) (component_item b)
  module_items : (a b : TypeTree L) → Sub a b → Sub (module_item a) (module_item b)

-- The naming of resources by their own names, in every scope.
abbrev pub by_name : Naming Name
by_name = record { in_instance = λ i m. m; in_imports = λ w m. m; in_exports = λ w m. m; is_fresh = λ m side e. false }

-- The name of a resource, if there is one.
abbrev pub held_name : Option (Held Resource) → Option Name
held_name None = None
held_name (Some h) = Some h.item.name

-- The own name of each resource.
abbrev pub resource_names : Collection → Names Name
resource_names c r = held_name (slice_get c.resources r.0)

-- The tree of a type of the collection, with resources given by the names at the ends of their aliases.
unfoldable pub type_tree : Collection → AnyType → TypeTree Name
type_tree c t = unfolded by_name c (resource_names c) t

-- The tree of an import or export.
abbrev pub kind_tree : Collection → ItemKind → TypeTree Name
kind_tree c k = item_tree (type_tree c) false k

-- The trees of imports or exports, by name.
abbrev pub listed_in : Collection → List (Name × ItemKind) → Name → TypeTree Name
listed_in c es = items_under (map (λ e. (e.0, kind_tree c e.1)) es)

-- The item of the first collection is a subtype of that of the second.
abbrev pub IsSubtype : Collection → ItemKind → Collection → ItemKind → Type 0
IsSubtype c a d b = Sub (kind_tree c a) (kind_tree d b)
