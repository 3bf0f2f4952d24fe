-- What an aggregator holds.
use Rattle.std.specs.Prelude.{ℕ, ◌≡◌, Bool, false, List, [], ◌⊎◌, IsSome, Some, slice_get}
use Rattle.wac_types_shapes.specs.primitives.Name.{Name}
use Rattle.wac_types_collection.specs.collection.Collection.{Collection, empty}
use Rattle.wac_merge_classes.specs.entries.Bindings.{AreBindings, AreHeld, ClassBindings}
use Rattle.wac_merge_classes.specs.entries.Classes.{AreClasses, Entry, by_names, canonical, class_names}
use Rattle.wac_merge_classes.specs.terms.Faults.{Fault, HasFault, fault_of}
use Rattle.wac_merge_classes.specs.terms.Merge.{Merged, import_under}
use Rattle.wac_merge_classes.specs.declared.terms.fault.MergeFault.{MergeFault}
use Rattle.wac_merge_classes.specs.declared.terms.fault.MergeFault.TheVariants.{OutOfMemory}

-- The entries, whether they were merged, and the merge, which is empty until then.
pub record Aggregate : Type 0 where
  pub entries : List Entry
  pub is_finished : Bool
  pub merge : Merged

-- The empty merge.
abbrev pub nothing : Merged
nothing = record { types = empty; imports = [] }

-- Entries that were not merged yet.
abbrev pub unmerged : List Entry → Aggregate
unmerged es = record { entries = es; is_finished = false; merge = nothing }

-- The error is `OutOfMemory`, or the entries have the fault that it names.
abbrev pub IsFault : Collection → List Entry → MergeFault → Type 0
IsFault c es e = (e ≡ OutOfMemory) ⊎ ((fault : Fault) × (fault_of e ≡ Some fault) × HasFault by_names c es fault)

-- The entries are of the merged collection, their classes and bindings are known, and each class is imported.
pub record AreKnown (m : Merged) (es : List Entry) (numbers positions : List ℕ) (names : List (Name × ℕ)) (b : ClassBindings) : Type 0 where
  pub held : AreHeld m.types es
  pub classes : AreClasses by_names es numbers positions names
  pub bindings : AreBindings m.types es b
  pub imported : (k : ℕ) (class : Name) → slice_get (class_names by_names es) k ≡ Some class → IsSome (import_under m.imports (canonical by_names es class))
