-- What merged imports bind.
use Rattle.std.specs.Prelude.{ℕ, ◌≡◌, ◌↔◌, List, [], ◌∷◌, Some, slice_get}
use Rattle.wac_types_shapes.specs.primitives.Name.{Name}
use Rattle.wac_types_shapes.specs.primitives.Tree.{named}
use Rattle.wac_types_collection.specs.collection.Collection.{Collection}
use Rattle.wac_types_shapes.specs.declared.shapes.component.ResourceId.{ResourceId}
use Rattle.wac_merge_classes.specs.entries.Classes.{Entry, NameRules, canonical, class_names}
use Rattle.wac_merge_classes.specs.entries.Binding.{class_binds}
use Rattle.wac_merge_classes.specs.terms.Merge.{Merged, bound_resource}

-- The class of the name `class` binds a resource under the name n.
abbrev pub BindsUnder : NameRules → Collection → List Entry → Name → Name → Type 0
BindsUnder rules c es class n = (r : ResourceId) × (class_binds rules c es class r ≡ Some (named n ∷ []))

-- The import with this id binds q under the name n: q is its interface's own resource, and its class binds one there.
abbrev pub IsBoundAs : NameRules → List Entry → Merged → Name → Name → ResourceId → Type 0
IsBoundAs rules es m id n q = (bound_resource m id n ≡ Some q) × BindsUnder rules m.types es id n

-- The import of a class binds a resource under the same names as the class.
-- Classes bind the same resources in both collections.
pub record BindsAsClasses (rules : NameRules) (c : Collection) (es : List Entry) (m : Merged) : Type 0 where
  pub binds : (k : ℕ) (class n : Name) → slice_get (class_names rules es) k ≡ Some class
      → ((q : ResourceId) × IsBoundAs rules es m (canonical rules es class) n q) ↔ BindsUnder rules c es class n
  pub same : (class : Name) (r : ResourceId) → class_binds rules m.types es class r ≡ class_binds rules c es class r
