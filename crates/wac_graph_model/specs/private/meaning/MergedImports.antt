-- The merged imports of a graph, and the place of each name's import.
use Rattle.std.specs.Prelude.{ℕ, suc, ◌≡◌, List, [], ◌∷◌, Some, slice_get}
use Rattle.wac_types_shapes.specs.primitives.Name.{Name}
use Rattle.wac_types_shapes.specs.primitives.Tree.{imported, position, Tree}
use Rattle.wac_types_collection.specs.collection.Collection.{IsWellFormed}
use Rattle.wac_types_collection.specs.collection.Bound.{held_item}
use Rattle.wac_types_collection.specs.collection.Names.{ExportsOnce}
use Rattle.wac_merge_classes.specs.entries.Binding.{root_bindings}
use Rattle.wac_merge_classes.specs.entries.Bindings.{AreHeld}
use Rattle.wac_merge_classes.specs.entries.Classes.{Entry, by_names, canonical}
use Rattle.wac_merge_classes.specs.terms.Merge.{Merged, IsMerge}
use Rattle.wac_binary.specs.declared.sorts.Sort.{Sort}
use Rattle.wac_graph_model.specs.nodes.Graph.{Graph}
use Rattle.wac_graph_model.specs.nodes.OuterImports.{outer_entries}
use Rattle.wac_graph_model.specs.meaning.Means.{sort_of_kind}
use Rattle.wac_graph_model.specs.private.meaning.Beginning.{Places}

-- The tree of the merged import at a position.
abbrev pub merged_item : Merged → ℕ → Entry → Tree
merged_item m p e = held_item m.types (root_bindings by_names m.types m.imports (λ i. i)) imported (position p ∷ []) e.kind

-- The imports with their trees, the first one at this position.
abbrev pub imports_from : Merged → ℕ → List Entry → List (Name × Tree)
imports_from m p [] = []
imports_from m p (e ∷ es) = (e.name, merged_item m p e) ∷ imports_from m (suc p) es

-- All merged imports with their trees.
abbrev pub merged_imports : Merged → List (Name × Tree)
merged_imports m = imports_from m 0 m.imports

-- The place of each import has the import's sort.
abbrev pub AreOfSorts : Merged → Places → Type 0
AreOfSorts m places = (p : ℕ) (e : Entry) (place : Sort × ℕ) → slice_get m.imports p ≡ Some e → slice_get places p ≡ Some place → place.0 ≡ sort_of_kind e.kind

-- The merge is one of all imports of the graph, over well-formed collections.
pub record IsMergeOf (g : Graph) (m : Merged) : Type 0 where
  pub merge : IsMerge by_names g.types (outer_entries g) m
  pub ordered : IsWellFormed g.types
  pub merged_ordered : IsWellFormed m.types
  pub once : ExportsOnce g.types
  pub merged_once : ExportsOnce m.types
  pub held : AreHeld m.types m.imports

-- The import under the name's canonical name has this sort and index.
pub record IsFoundAt (g : Graph) (m : Merged) (places : Places) (name : Name) (t : Sort) (i : ℕ) : Type 0 where
  pub p : ℕ
  pub entry : Entry
  pub there : slice_get m.imports p ≡ Some entry
  pub named : entry.name ≡ canonical by_names (outer_entries g) name
  pub placed : slice_get places p ≡ Some (t, i)
