-- An import of a merge has the faults of its class's entries.
use Rattle.std.proofs.Common.{ℕ, ◌≡◌, List, Some, slice_get}
use Rattle.wac_types_collection.specs.collection.Collection.{Collection}
use Rattle.wac_encode_faults.specs.declared.fault.WriteFault.{WriteFault}
use Rattle.wac_encode_faults.specs.Faults.{IsImportFault, own, unbound, inside}
use Rattle.wac_merge_classes.specs.entries.Binding.{root_bindings}
use Rattle.wac_merge_classes.specs.entries.Classes.{Entry, NameRules}
use Rattle.wac_merge_classes.specs.terms.Merge.{Merged}
use Rattle.wac_merge_imports.specs.unions.EntryFaults.{HasEntryWith, HasFaultsOfEntries}

module _ (rules : NameRules) (c : Collection) (es : List Entry) (m : Merged) (has : HasFaultsOfEntries rules c es m) (p : ℕ) (x : Entry) (at : slice_get m.imports p ≡ Some x) where
  -- each fault comes of the same kind of fault of an entry
  pub entry_fault : (f : WriteFault) → IsImportFault m.types (root_bindings rules m.types m.imports (λ i. i)) x.kind f → HasEntryWith rules es x (λ k. IsImportFault c (root_bindings rules c es (λ i. i)) k f)
  entry_fault _ (own f h) = let e = has.own p x f at h in (e.0, e.1, own f e.2)
  entry_fault _ (unbound h) = let e = has.unbound p x at h in (e.0, e.1, unbound e.2)
  entry_fault _ (inside f h) = let e = has.inside p x f at h in (e.0, e.1, inside f e.2)
