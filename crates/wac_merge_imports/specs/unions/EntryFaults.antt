-- Imports have the faults of their entries.
use Rattle.std.specs.Prelude.{ℕ, ◌≡◌, List, Some, slice_get, Contains}
use Rattle.wac_types_shapes.specs.shapes.Kinds.{kind_type}
use Rattle.wac_types_shapes.specs.declared.shapes.component.ItemKind.{ItemKind}
use Rattle.wac_types_collection.specs.collection.Collection.{Collection}
use Rattle.wac_encode_faults.specs.declared.fault.WriteFault.{WriteFault}
use Rattle.wac_encode_faults.specs.Faults.{IsFaultInside, import_fault}
use Rattle.wac_encode_faults.specs.Free.{IsUnbound}
use Rattle.wac_merge_classes.specs.entries.Binding.{root_bindings}
use Rattle.wac_merge_classes.specs.entries.Classes.{Entry, NameRules, members}
use Rattle.wac_merge_classes.specs.terms.Merge.{Merged}

-- An entry of the import's class satisfies the predicate.
abbrev pub HasEntryWith : NameRules → List Entry → Entry → (ItemKind → Type 0) → Type 0
HasEntryWith rules es x Has = (e : Entry) × Contains (members rules es x.name) e × Has e.kind

-- An import has an own fault, an unbound resource or a fault inside only if an entry of its class has one, the same fault.
pub record HasFaultsOfEntries (rules : NameRules) (c : Collection) (es : List Entry) (m : Merged) : Type 0 where
  pub own : (p : ℕ) (x : Entry) (f : WriteFault) → slice_get m.imports p ≡ Some x → import_fault x.kind ≡ Some f
      → HasEntryWith rules es x (λ k. import_fault k ≡ Some f)
  pub unbound : (p : ℕ) (x : Entry) → slice_get m.imports p ≡ Some x → IsUnbound m.types (root_bindings rules m.types m.imports (λ i. i)) (kind_type x.kind)
      → HasEntryWith rules es x (λ k. IsUnbound c (root_bindings rules c es (λ i. i)) (kind_type k))
  pub inside : (p : ℕ) (x : Entry) (f : WriteFault) → slice_get m.imports p ≡ Some x → IsFaultInside m.types (kind_type x.kind) f
      → HasEntryWith rules es x (λ k. IsFaultInside c (kind_type k) f)
