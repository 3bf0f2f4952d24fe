-- When an import of a merge cannot be written.
use Rattle.std.specs.Prelude.{ℕ, ◌≡◌, List, Some, slice_get}
use Rattle.wac_types_collection.specs.collection.Collection.{Collection}
use Rattle.wac_encode_faults.specs.declared.fault.WriteFault.{WriteFault}
use Rattle.wac_encode_faults.specs.Faults.{IsImportFault}
use Rattle.wac_merge_classes.specs.entries.Binding.{root_bindings}
use Rattle.wac_merge_classes.specs.entries.Classes.{Entry, NameRules}
use Rattle.wac_merge_classes.specs.terms.Merge.{Merged}
use Rattle.wac_merge_imports.specs.unions.EntryFaults.{HasEntryWith, HasFaultsOfEntries}

-- If a merge has the faults of its entries and an import cannot be written by a fault, an entry of its class cannot by the same fault.
abbrev pub ImportFaultLaw : Type 0
ImportFaultLaw = (rules : NameRules) (c : Collection) (es : List Entry) (m : Merged) → HasFaultsOfEntries rules c es m
    → (p : ℕ) (x : Entry) (f : WriteFault) → slice_get m.imports p ≡ Some x → IsImportFault m.types (root_bindings rules m.types m.imports (λ i. i)) x.kind f
    → HasEntryWith rules es x (λ k. IsImportFault c (root_bindings rules c es (λ i. i)) k f)
