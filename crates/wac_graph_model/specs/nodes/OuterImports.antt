-- The imports of the composed component: one for each class of the graph's imports, in written order.
use Rattle.std.specs.Prelude.{ℕ, ◌≡◌, List, length, Some, slice_get}
use Rattle.wac_types_shapes.specs.primitives.Name.{Name}
use Rattle.wac_types_shapes.specs.primitives.Tree.{Tree}
use Rattle.wac_types_collection.specs.collection.Bound.{Bindings}
use Rattle.wac_merge_classes.specs.entries.Binding.{root_bindings}
use Rattle.wac_merge_classes.specs.entries.Classes.{Entry, by_names, class_names, canonical, IsClassOf}
use Rattle.wac_merge_classes.specs.terms.ClassOrder.{IsWrittenOrder}
use Rattle.wac_merge_classes.specs.terms.Merge.{position_in}
use Rattle.wac_merge_classes.specs.terms.Union.{merged}
use Rattle.wac_graph_model.specs.nodes.Graph.{Graph}
use Rattle.wac_graph_model.specs.nodes.Entries.{asked_entries, to_merge}

-- The graph's imports with the interfaces that they use, as they are merged.
abbrev pub outer_entries : Graph → List Entry
outer_entries g = to_merge (asked_entries g)

-- The order in which the classes of the graph's imports are written.
abbrev pub IsOuterOrder : Graph → List ℕ → Type 0
IsOuterOrder g order = IsWrittenOrder by_names g.types (outer_entries g) order

-- The resources that the root binds, if the classes are imported in this order.
abbrev pub outer_bindings : Graph → List ℕ → Bindings
outer_bindings g order = root_bindings by_names g.types (outer_entries g) (position_in order)

-- The name and type of the class that is imported at a position of the order.
abbrev pub outer_import : Graph → List ℕ → ℕ → Name → Name × Tree
outer_import g order p class = (
  canonical by_names (outer_entries g) class,
  merged by_names g.types (outer_entries g) (outer_bindings g order) p class,
)

-- The imports are the classes in written order, each under its canonical name with its merged type.
pub record AreOuterImports (g : Graph) (imports : List (Name × Tree)) : Type 0 where
  pub order : List ℕ
  pub written : IsOuterOrder g order
  pub count : length imports ≡ length order
  pub each : (p k : ℕ) (class : Name) (e : Name × Tree) → slice_get order p ≡ Some k → slice_get (class_names by_names (outer_entries g)) k ≡ Some class → slice_get imports p ≡ Some e
      → e ≡ outer_import g order p class

-- The position of the import that a name belongs to: that of the name's class.
pub record IsImportPlace (g : Graph) (name : Name) (p : ℕ) : Type 0 where
  pub order : List ℕ
  pub written : IsOuterOrder g order
  pub number : ℕ
  pub placed : slice_get order p ≡ Some number
  pub of_class : IsClassOf by_names (outer_entries g) name number
