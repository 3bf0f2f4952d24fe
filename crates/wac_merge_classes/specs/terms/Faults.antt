-- Why entries cannot be merged.
use Rattle.std.specs.Prelude.{ℕ, ◌≡◌, List, Option, Some, None, slice_get, string_bytes}
use Rattle.wac_types_shapes.specs.primitives.Name.{Name}
use Rattle.wac_types_collection.specs.collection.Collection.{Collection}
use Rattle.wac_merge_classes.specs.entries.Classes.{Entry, NameRules, by_names, class_names, canonical}
use Rattle.wac_merge_classes.specs.entries.Agreement.{compared, IsFirstDisagreement, LeadsApart, joined}
use Rattle.wac_merge_classes.specs.terms.ClassOrder.{IsOnCircle, IsFirstOnCircle}
use Rattle.wac_merge_classes.specs.declared.terms.fault.MergeFault.{MergeFault}
use Rattle.wac_merge_classes.specs.declared.terms.fault.MergeFault.TheVariants as merge
use Rattle.wac_merge_classes.specs.terms.NoDisagreement.{HasNoDisagreement}

-- The first disagreement: its two entries, and the export names that lead to it.
pub record Disagrees (rules : NameRules) (c : Collection) (es : List Entry) (first second : ℕ) (export : Name) : Type 0 where
  pub is_first : IsFirstDisagreement rules c es first second
  pub names : List Name
  pub leads : LeadsApart c (compared rules c es is_first.disagree.earlier.name is_first.disagree.earlier.kind) (compared rules c es is_first.disagree.earlier.name is_first.disagree.later.kind)
      is_first.disagree.later.kind names
  pub path : export ≡ joined names

-- No class depends on itself through other classes.
abbrev pub HasNoCircle : NameRules → Collection → List Entry → Type 0
HasNoCircle rules c es = (a : ℕ) → IsOnCircle rules c es a → ⊥

-- The canonical name of the first class that is on a cycle.
pub record UseEachOther (rules : NameRules) (c : Collection) (es : List Entry) (import : Name) : Type 0 where
  pub number : ℕ
  pub class : Name
  pub is_first : IsFirstOnCircle rules c es number
  pub numbered : slice_get (class_names rules es) number ≡ Some class
  pub named : import ≡ canonical rules es class

-- What an error names.
pub data Fault : Type 0 where
  disagree : ℕ → ℕ → Name → Fault
  use_each_other : Name → Fault

-- The entries have this fault, and no fault that is tested before it.
abbrev pub HasFault : NameRules → Collection → List Entry → Fault → Type 0
HasFault rules c es (disagree first second export) = Disagrees rules c es first second export
HasFault rules c es (use_each_other import) = HasNoDisagreement rules c es × UseEachOther rules c es import

-- The fault that an error names. `OutOfMemory` names none.
abbrev pub fault_of : MergeFault → Option Fault
fault_of (merge.Disagree first second export) = Some (disagree first second (string_bytes export))
fault_of (merge.UseEachOther import) = Some (use_each_other (string_bytes import))
fault_of merge.OutOfMemory = None

-- Entries have at most one fault.
abbrev pub OneFault : Type 0
OneFault = (c : Collection) (es : List Entry) (a b : Fault) → HasFault by_names c es a → HasFault by_names c es b → a ≡ b
