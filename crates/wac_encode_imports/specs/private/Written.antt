-- The imports of a merge that are written so far; private functions alone cite this.
use Rattle.std.specs.Prelude.{ℕ, suc, ◌≡◌, ◌==◌, ltb, Bool, true, false, if◌then◌else◌, List, [], ◌∷◌, ◌++◌, take, Option, Some, None, slice_get, Contains}
use Rattle.wac_types_shapes.specs.primitives.Name.{Name}
use Rattle.wac_types_shapes.specs.primitives.Tree.{Place, position, Leaf}
use Rattle.wac_types_shapes.specs.shapes.Kinds.{kind_type}
use Rattle.wac_types_shapes.specs.declared.shapes.component.ItemKind.{ItemKind}
use Rattle.wac_types_shapes.specs.declared.shapes.component.«Type».{«Type» as AnyType}
use Rattle.wac_types_collection.specs.collection.Collection.{Collection, IsWellFormed}
use Rattle.wac_types_collection.specs.collection.Bound.{Bindings}
use Rattle.wac_types_collection.specs.collection.Names.{ExportsOnce}
use Rattle.wac_merge_classes.specs.entries.Bindings.{AreBindings, AreHeld}
use Rattle.wac_merge_classes.specs.entries.Classes.{Entry, by_names}
use Rattle.wac_merge_classes.specs.terms.Merge.{Merged, import_entries}
use Rattle.wac_merge.specs.MergedPlaces.{MentionsBefore}
use Rattle.wac_binary.specs.declared.sorts.Sort.{Sort}
use Rattle.wac_binary.specs.Meaning.{meaning}
use Rattle.wac_encode_stacks.specs.Good.{Good, Onward, innermost, nothing_bound}
use Rattle.wac_encode_scopes.specs.declared.state.State.{State}
use Rattle.wac_encode_scopes.specs.private.Closed.{AreClosedTypes}
use Rattle.wac_encode_scopes.specs.Roots.{IsRoot, items_of}
use Rattle.wac_encode_scopes.specs.States.{stack}
use Rattle.wac_encode_interfaces.specs.private.Imports.{ImportsBeside, RefersToImport}
use Rattle.wac_encode_interfaces.specs.private.Ready.{IsClean}
use Rattle.wac_encode_interfaces.specs.private.Worlds.{Worlds, HaveWorlds, written_in}
use Rattle.wac_encode_interfaces.specs.private.Writers.{IsWriter}
use Rattle.wac_encode_imports.specs.private.Imports.{merged_bindings, import_tree, HasDistinctClasses, HasNoImportFault, ImportsFirst}
use Rattle.wac_encode_imports.specs.declared.import.ImportWriter.{ImportWriter}

-- The path begins at this position; then: at a position below n.
abbrev pub begins_at : ℕ → List Place → Bool
begins_at p (position j ∷ path) = j == p
begins_at p path = false

abbrev pub begins_below : ℕ → List Place → Bool
begins_below n (position j ∷ path) = ltb j n
begins_below n path = false

-- The binding, if there is one, is at the import at this position; then: at one of the first n imports.
abbrev pub is_bound_at : ℕ → Option Leaf → Bool
is_bound_at p None = false
is_bound_at p (Some l) = begins_at p l.path

abbrev pub is_bound_below : ℕ → Option Leaf → Bool
is_bound_below n None = false
is_bound_below n (Some l) = begins_below n l.path

-- The bindings of the root, as far as the first n imports make them.
abbrev pub bound_before : Merged → ℕ → Bindings
bound_before m n r = if is_bound_below n (merged_bindings m r) then merged_bindings m r else None

-- The first n imports are written, with their final trees. The root binds what they bind.
pub record AreWritten (m : Merged) (n : ℕ) (places : List (Sort × ℕ)) (s : State) : Type 0 where
  pub root : IsRoot s.here.content
  pub imports : ImportsFirst m n places (items_of s.here.content)
  pub good : Good m.types (bound_before m n ∷ []) (stack true s)
  pub refers : (p : ℕ) (e : Entry) (place : Sort × ℕ) → slice_get m.imports p ≡ Some e → slice_get places p ≡ Some place
      → RefersToImport m.types (bound_before m n) (innermost (stack true s)) (position p) e.kind place.1
  pub beside : (c : Collection) → Good c (nothing_bound ∷ []) (stack false s)

-- Nothing inside the imports has a fault; then: the worlds inside them are written.
abbrev pub AreCleanImports : Collection → List Entry → Type 0
AreCleanImports c es = (p : ℕ) (e : Entry) → slice_get es p ≡ Some e → IsClean c (kind_type e.kind)

abbrev pub HaveImportWorlds : Collection → Worlds → List Entry → Type 0
HaveImportWorlds c ws es = (p : ℕ) (e : Entry) → slice_get es p ≡ Some e → HaveWorlds c ws (kind_type e.kind)

-- The imports of the merge can be written, where these worlds are.
pub record AreWritable (m : Merged) (ws : Worlds) : Type 0 where
  pub ordered : IsWellFormed m.types
  pub once : ExportsOnce m.types
  pub held : AreHeld m.types m.imports
  pub distinct : HasDistinctClasses m
  pub before : MentionsBefore by_names m
  pub clean : HasNoImportFault m
  pub worlds : HaveImportWorlds m.types ws m.imports

-- The merge whose imports a writer writes.
abbrev pub merge_of : ImportWriter → List (Name × ItemKind) → Merged
merge_of w es = record { types = w.types.now; imports = import_entries es }

-- The writer writes the imports of this merge, and what it is given of them is true.
pub record IsImportWriter (w : ImportWriter) (m : Merged) : Type 0 where
  pub types : w.types.now ≡ m.types
  pub writer : IsWriter w.writer
  pub of_types : w.writer.types.now ≡ m.types
  pub merged : w.writer.merged ≡ true
  pub closed : AreClosedTypes m.types w.closed.now
  pub bindings : AreBindings m.types m.imports w.bindings.now
  pub writable : AreWritable m (written_in w.writer.worlds.now)

-- The import at this position is the next one.
pub record MayFollow (m : Merged) (p : ℕ) (n : Name) (k : ItemKind) (places : List (Sort × ℕ)) (s : State) : Type 0 where
  pub there : slice_get m.imports p ≡ Some (record { name = n; kind = k })
  pub written : AreWritten m p places s

-- It can be written.
abbrev pub MayWrite : ImportWriter → ℕ → Name → ItemKind → State → Type 0
MayWrite w p n k s = (m : Merged) × (places : List (Sort × ℕ)) × IsImportWriter w m × MayFollow m p n k places s

-- What the step brings in which the import at position p is written and gets the index i: the import with its final tree, and
-- what it binds.
pub record Brings (m : Merged) (p : ℕ) (e : Entry) (i : ℕ) (old new : State) : Type 0 where
  pub beside : ImportsBeside true e.name e.kind i old new
  pub onward : Onward m.types (bound_before m (suc p) ∷ []) (stack true old) (stack true new)
  pub imports : (meaning (items_of new.here.content)).imports ≡ (meaning (items_of old.here.content)).imports ++ (e.name, import_tree m p e.kind) ∷ []
  pub refers : RefersToImport m.types (bound_before m (suc p)) (innermost (stack true new)) (position p) e.kind i

-- The import at this position is written next, and gets the index i.
abbrev pub WritesImport : ImportWriter → ℕ → Name → ItemKind → State → State → ℕ → Type 0
WritesImport w p n k old new i = (m : Merged) → IsImportWriter w m → (places : List (Sort × ℕ)) → MayFollow m p n k places old → Brings m p (record { name = n; kind = k }) i old new
