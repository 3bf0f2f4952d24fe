-- The subtype relation on open items ("Subtyping"). Resources are compared by what they are, not by their names.
use Rattle.std.specs.Prelude.{ℕ, zero, ◌≡◌, ◌≢◌, ◌≤◌, List, ◌∷◌, Option, Some, None}
use Rattle.wac_types_shapes.specs.primitives.Name.{Name}
use Rattle.wac_types_shapes.specs.primitives.Core.{CoreItem, no_item, core_table, core_memory}
use Rattle.wac_types_shapes.specs.primitives.Tree.{Side, imported, exported, Place, named, Leaf, Tree, absent, instance, component, module_of, type_equal, instance_item, component_item, module_item, further_out}
use Rattle.wac_component.specs.Open.{bound_here, with_resources, resource_at, bound_item}

-- The first maximum is within the second, if there is a second.
abbrev pub IsMaximumBelow : Option ℕ → Option ℕ → Type 0
IsMaximumBelow m None = Unit {0}
IsMaximumBelow None (Some b) = ⊥
IsMaximumBelow (Some a) (Some b) = a ≤ b

-- The first core item matches the second: limits of tables and memories are within its limits, and all else is equal.
abbrev pub IsCoreItemSubtype : CoreItem → CoreItem → Type 0
IsCoreItemSubtype (core_table e wide shared least most) (core_table f wide_b shared_b least_b most_b) =
    (e ≡ f) × (wide ≡ wide_b) × (shared ≡ shared_b) × (least_b ≤ least) × IsMaximumBelow most most_b
IsCoreItemSubtype (core_memory wide shared least most page) (core_memory wide_b shared_b least_b most_b page_b) =
    (wide ≡ wide_b) × (shared ≡ shared_b) × (page ≡ page_b) × (least_b ≤ least) × IsMaximumBelow most most_b
IsCoreItemSubtype a b = a ≡ b

-- An instance of this type, in a scope of its own.
abbrev pub any_instance : (Name → Tree) → Tree
any_instance xs = with_resources further_out (bound_here exported) (instance_item (instance xs))

-- This instance type, with the resources of an instance in that scope.
abbrev pub matching_instance : Tree → (Name → Tree) → Tree
matching_instance x ys = with_resources further_out (resource_at x) (instance_item (instance ys))

-- The step of `passed_import`, with the parts of the binding given apart.
abbrev pub passed_import_from : (Name → Tree) → ℕ → Side → List Place → Leaf
passed_import_from items zero imported (named n ∷ p) = resource_at (items n) p
passed_import_from items o s p = record { out = o; side = s; path = p }

-- The resource that a binding of a component is, where these are its imports.
abbrev pub passed_import : (Name → Tree) → Leaf → Leaf
passed_import items l = passed_import_from items l.out l.side l.path

-- The step of `offered_export`, with the parts of the binding given apart.
abbrev pub offered_export_from : (Name → Tree) → ℕ → Side → List Place → Leaf
offered_export_from items zero exported (named n ∷ p) = resource_at (items n) p
offered_export_from items o s p = record { out = o; side = s; path = p }

-- The resource that a binding of a component type is, where these are its exports.
abbrev pub offered_export : (Name → Tree) → Leaf → Leaf
offered_export items l = offered_export_from items l.out l.side l.path

-- Imports of these types, with resources of their own.
abbrev pub any_imports : (Name → Tree) → Name → Tree
any_imports ys n = bound_item imported n (ys n)

-- The exports of a component that was given these imports.
abbrev pub exports_with : (Name → Tree) → (Name → Tree) → Name → Tree
exports_with is xs n = with_resources (passed_import is) (λ p. bound_here exported (named n ∷ p)) (xs n)

-- What an import of a component asks of these imports.
abbrev pub import_asked : (Name → Tree) → Name → Tree → Tree
import_asked items n = with_resources (passed_import items) (resource_at (items n))

-- What an export of a component type asks of these exports.
abbrev pub export_asked : (Name → Tree) → Name → Tree → Tree
export_asked items n = with_resources (offered_export items) (resource_at (items n))

-- The first item can be used where the second is wanted.
pub data IsItemSubtype : Tree → Tree → Type 0 where
  same : (a : Tree) → IsItemSubtype a a
  -- For each export of the second there is one of the first that fits it.
  instances : (xs ys : Name → Tree) → ((n : Name) → ys n ≢ absent → IsItemSubtype (xs n) (ys n)) →
      IsItemSubtype (instance_item (instance xs)) (instance_item (instance ys))
  -- The imports of the second fit those of the first, and then the exports of the first those of the second.
  components : (xi xe yi ye : Name → Tree) →
      ((n : Name) → xi n ≢ absent → IsItemSubtype (any_imports yi n) (import_asked (any_imports yi) n (xi n))) →
      ((n : Name) → ye n ≢ absent → IsItemSubtype (exports_with (any_imports yi) xe n) (export_asked (exports_with (any_imports yi) xe) n (ye n))) →
      IsItemSubtype (component_item (component xi xe)) (component_item (component yi ye))
  modules : (xi yi : Name → Name → CoreItem) (xe ye : Name → CoreItem) →
      ((m n : Name) → xi m n ≢ no_item → IsCoreItemSubtype (yi m n) (xi m n)) → ((n : Name) → ye n ≢ no_item → IsCoreItemSubtype (xe n) (ye n)) →
      IsItemSubtype (module_item (module_of xi xe)) (module_item (module_of yi ye))
  -- Types are compared in both directions.
  instance_types : (xs ys : Name → Tree) →
      IsItemSubtype (any_instance xs) (matching_instance (any_instance xs) ys) → IsItemSubtype (any_instance ys) (matching_instance (any_instance ys) xs) →
      IsItemSubtype (type_equal (instance xs)) (type_equal (instance ys))
  component_types : (a b : Tree) → IsItemSubtype (component_item a) (component_item b) → IsItemSubtype (component_item b) (component_item a) →
      IsItemSubtype (type_equal a) (type_equal b)
