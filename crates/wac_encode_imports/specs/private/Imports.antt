-- The imports of a merge, as the root imports them.
use Rattle.std.specs.Prelude.{ℕ, ◌≡◌, ◌<◌, true, false, List, [], ◌∷◌, ◌++◌, length, Some, slice_get}
use Rattle.std.specs.List.{AllByRecursion}
use Rattle.wac_types_shapes.specs.primitives.Name.{Name}
use Rattle.wac_types_shapes.specs.primitives.Tree.{imported, position, Tree}
use Rattle.wac_types_shapes.specs.declared.shapes.component.ItemKind.{ItemKind}
use Rattle.wac_types_collection.specs.collection.Collection.{Collection}
use Rattle.wac_types_collection.specs.collection.Bound.{Bindings, held_item}
use Rattle.wac_merge_classes.specs.entries.Binding.{root_bindings}
use Rattle.wac_merge_classes.specs.entries.Classes.{Entry, by_names, same_class}
use Rattle.wac_merge_classes.specs.terms.Merge.{Merged}
use Rattle.wac_binary.specs.declared.sorts.Description.{Description}
use Rattle.wac_binary.specs.declared.sorts.Sort.{Sort}
use Rattle.wac_binary.specs.Indexes.{space, described_sort, indexes}
use Rattle.wac_binary.specs.Items.{Item, import_item}
use Rattle.wac_binary.specs.Meaning.{meaning}
use Rattle.wac_encode_faults.specs.declared.fault.WriteFault.{WriteFault}
use Rattle.wac_encode_faults.specs.Faults.{IsImportFault}
use Rattle.wac_encode_stacks.specs.Good.{Good, innermost, nothing_bound}
use Rattle.wac_encode_scopes.specs.declared.state.State.{State}
use Rattle.wac_encode_scopes.specs.Contents.{IsTypeItem}
use Rattle.wac_encode_scopes.specs.Roots.{IsRoot, items_of}
use Rattle.wac_encode_scopes.specs.States.{stack}
use Rattle.wac_encode_interfaces.specs.private.Imports.{RefersToImport, import_sort}

-- The leaf of each resource of the merged types at the root.
abbrev pub merged_bindings : Merged → Bindings
merged_bindings m = root_bindings by_names m.types m.imports (λ i. i)

-- The tree of the merged import at a position.
abbrev pub import_tree : Merged → ℕ → ItemKind → Tree
import_tree m p k = held_item m.types (merged_bindings m) imported (position p ∷ []) k

-- No two imports are of one class.
abbrev pub HasDistinctClasses : Merged → Type 0
HasDistinctClasses m = (p q : ℕ) (a b : Entry) → slice_get m.imports p ≡ Some a → slice_get m.imports q ≡ Some b → same_class by_names m.imports a.name b.name ≡ true → p ≡ q

-- No import has a fault.
abbrev pub HasNoImportFault : Merged → Type 0
HasNoImportFault m = (p : ℕ) (e : Entry) (f : WriteFault) → slice_get m.imports p ≡ Some e → IsImportFault m.types (merged_bindings m) e.kind f → ⊥

-- An import, a type, or an alias of a type.
abbrev pub IsImportOrType : Item → Type 0
IsImportOrType (import_item n d) = Unit {0}
IsImportOrType x = IsTypeItem x

-- The import item at position p among the imports has this sort and index.
pub record IsImportedAt (items : List Item) (p : ℕ) (place : Sort × ℕ) : Type 0 where
  pub name : Name
  pub description : Description
  pub before : List Item
  pub after : List Item
  pub split : items ≡ before ++ import_item name description ∷ after
  pub number : length (meaning before).imports ≡ p
  pub sorted : described_sort description ≡ place.0
  pub index : place.1 ≡ indexes (space place.0) before

-- The items import the first n imports of the merge, at these places, each with its tree. All else are types and aliases of types.
pub record ImportsFirst (m : Merged) (n : ℕ) (places : List (Sort × ℕ)) (items : List Item) : Type 0 where
  pub only : AllByRecursion IsImportOrType items
  pub count : length (meaning items).imports ≡ n
  pub trees : (p : ℕ) (e : Entry) → p < n → slice_get m.imports p ≡ Some e → slice_get (meaning items).imports p ≡ Some (e.name, import_tree m p e.kind)
  pub placed : length places ≡ n
  pub sorts : (p : ℕ) (e : Entry) (place : Sort × ℕ) → slice_get m.imports p ≡ Some e → slice_get places p ≡ Some place → place.0 ≡ import_sort e.kind
  pub at : (p : ℕ) (place : Sort × ℕ) → slice_get places p ≡ Some place → IsImportedAt items p place

-- The root imports exactly the imports of the merge, at these places, and binds the resources that they bind. Nothing is
-- recorded of other types.
pub record AreImported (m : Merged) (places : List (Sort × ℕ)) (s : State) : Type 0 where
  pub root : IsRoot s.here.content
  pub imports : ImportsFirst m (length m.imports) places (items_of s.here.content)
  pub good : Good m.types (merged_bindings m ∷ []) (stack true s)
  -- The index of each type item refers to its type, and that of each instance to the import.
  pub refers : (p : ℕ) (e : Entry) (place : Sort × ℕ) → slice_get m.imports p ≡ Some e → slice_get places p ≡ Some place
      → RefersToImport m.types (merged_bindings m) (innermost (stack true s)) (position p) e.kind place.1
  pub beside : (c : Collection) → Good c (nothing_bound ∷ []) (stack false s)
