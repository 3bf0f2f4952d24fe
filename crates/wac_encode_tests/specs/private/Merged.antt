-- A merge of imports, of which no entry has a fault.
use Rattle.std.specs.Prelude.{ℕ, ◌≡◌, true, List, Some, IsSome, Contains, slice_get}
use Rattle.wac_types_shapes.specs.declared.shapes.component.ItemKind.{ItemKind}
use Rattle.wac_types_shapes.specs.declared.shapes.component.ResourceId.{ResourceId}
use Rattle.wac_types_collection.specs.collection.Collection.{Collection}
use Rattle.wac_merge_classes.specs.entries.Agreement.{AllMembersAgree}
use Rattle.wac_merge_classes.specs.entries.Binding.{binding_class, root_bindings}
use Rattle.wac_merge_classes.specs.entries.Bindings.{AreHeld}
use Rattle.wac_merge_classes.specs.entries.Classes.{Entry, by_names}
use Rattle.wac_merge_classes.specs.terms.Faults.{HasNoCircle}
use Rattle.wac_merge_classes.specs.terms.Merge.{IsMerge}
use Rattle.wac_merge_imports.specs.unions.EntryFaults.{HasFaultsOfEntries}
use Rattle.wac_merge_imports.specs.unions.MergedScope.{BindsAsClasses}
use Rattle.wac_merge.specs.Aggregate.{Aggregate}
use Rattle.wac_merge.specs.MergedPlaces.{MentionsBefore}
use Rattle.wac_encode_faults.specs.declared.fault.WriteFault.{WriteFault}
use Rattle.wac_encode_faults.specs.Faults.{IsImportFault}

-- The aggregator has merged entries of the collection.
pub record IsMergeOf (c : Collection) (a : Aggregate) : Type 0 where
  pub finished : a.is_finished ≡ true
  pub entries : AreHeld c a.entries
  pub imports : AreHeld (a.merge).types (a.merge).imports
  pub merged : IsMerge by_names c a.entries a.merge
  pub bound : BindsAsClasses by_names c a.entries a.merge
  pub before : MentionsBefore by_names a.merge
  pub faults : HasFaultsOfEntries by_names c a.entries a.merge
  pub agreed : AllMembersAgree by_names c a.entries
  pub ordered : HasNoCircle by_names c a.entries

-- A class of the entries binds each of these resources.
abbrev pub AreClassResources : Aggregate → List ResourceId → Type 0
AreClassResources a rs = (r : ResourceId) → Contains rs r → IsSome (binding_class by_names (a.merge).types a.entries r)

-- The item has no fault as an import of the root, which binds the resources that classes of the entries bind.
abbrev pub HasNoFaultIn : Collection → List Entry → ItemKind → Type 0
HasNoFaultIn c es k = (f : WriteFault) → IsImportFault c (root_bindings by_names c es (λ i. i)) k f → ⊥

-- No entry has a fault.
abbrev pub HasNoEntryFault : Collection → List Entry → Type 0
HasNoEntryFault c es = (i : ℕ) (e : Entry) → slice_get es i ≡ Some e → HasNoFaultIn c es e.kind
