-- A merge whose import has a fault that its entry has not is none.
use Rattle.std.proofs.Common.{◌≡◌, ℕ, zero, suc, false, List, [], ◌∷◌, Contains, Some, None, refl, sym, ◌∙◌, subst, codes}
use Rattle.std.specs.Prelude.{slice_get}
use Rattle.wac_names.specs.Track.{whole}
use Rattle.wac_types_shapes.specs.primitives.Name.{Name}
use Rattle.wac_types_shapes.specs.shapes.Kinds.{kind_type}
use Rattle.wac_types_shapes.specs.declared.primitives.component.PrimitiveType.TheVariants as primitive
use Rattle.wac_types_shapes.specs.declared.shapes.component.FuncType.{FuncType}
use Rattle.wac_types_shapes.specs.declared.shapes.component.Interface.{Interface}
use Rattle.wac_types_shapes.specs.declared.shapes.component.ItemKind.{ItemKind}
use Rattle.wac_types_shapes.specs.declared.shapes.component.ItemKind.TheVariants as kind
use Rattle.wac_types_shapes.specs.declared.shapes.component.ResourceId.{ResourceId}
use Rattle.wac_types_shapes.specs.declared.shapes.component.ValueType.{ValueType}
use Rattle.wac_types_shapes.specs.declared.shapes.component.ValueType.TheVariants as val
use Rattle.wac_types_shapes.specs.declared.shapes.component.«Type».{«Type» as AnyType}
use Rattle.wac_types_shapes.specs.declared.shapes.component.«Type».TheVariants as ty
use Rattle.wac_types_collection.specs.declared.collection.collection.Held.{Held}
use Rattle.wac_types_collection.specs.collection.Collection.{Collection}
use Rattle.wac_types_collection.proofs.lemmas.wide.Members.{in_first, in_none, in_one}
use Rattle.wac_encode_faults.specs.declared.fault.WriteFault.{WriteFault}
use Rattle.wac_encode_faults.specs.declared.fault.WriteFault.TheVariants as fault
use Rattle.wac_encode_faults.specs.Faults.{IsFaultInside, IsInside, IsTypeFault, import_fault, in_item, listed_items}
use Rattle.wac_encode_faults.specs.Faults as faults
use Rattle.wac_encode_faults.specs.Free.{IsFree, IsUnbound, in_export, in_part, parts}
use Rattle.wac_encode_faults.specs.Free as free
use Rattle.wac_merge_classes.specs.entries.Binding.{root_bindings}
use Rattle.wac_merge_classes.specs.entries.Classes.{Entry, NameRules, members}
use Rattle.wac_merge_classes.specs.terms.Merge.{Merged}
use Rattle.wac_merge_imports.specs.unions.EntryFaults.{HasFaultsOfEntries}
use Rattle.wac_merge_tests.proofs.lemmas.examples.Apart.{no_entry, one_entry}

-- ---- a function without parameters and one over a resource; an interface without items and one with a value

abbrev simple : NameRules
simple = record { track = whole; is_newer = λ a b. false }

abbrev resource_id : ResourceId
resource_id = record { 0 = 0 }

abbrev over : List (Name × ValueType) → Held FuncType
over params = record { item = record { params = params; result = None; is_async = false }; before = 1 }

abbrev of_items : List (Name × ItemKind) → Held Interface
of_items items = record { item = record { id = None; uses = []; exports = items }; before = 2 }

abbrev a_value : ItemKind
a_value = kind.Value (val.Primitive primitive.U8)

abbrev types : Collection
types = record {
  resources = record { item = record { name = codes "r"; alias = None }; before = 0 } ∷ [];
  funcs = over [] ∷ over ((codes "x", val.Own resource_id) ∷ []) ∷ [];
  defined = [];
  interfaces = of_items [] ∷ of_items ((codes "v", a_value) ∷ []) ∷ [];
  worlds = [];
  modules = [];
}

abbrev function : ℕ → ItemKind
function n = kind.Func (record { 0 = n })

abbrev instance : ℕ → ItemKind
instance n = kind.Instance (record { 0 = n })

abbrev entry : ItemKind → Entry
entry k = record { name = codes "a"; kind = k }

abbrev merge_of : ItemKind → Merged
merge_of k = record { types = types; imports = entry k ∷ [] }

-- ---- what is free, and what is faulty

own_is_free : IsFree types (ty.Func (record { 0 = 1 })) resource_id
own_is_free =
    in_part (ty.Func (record { 0 = 1 })) (ty.Value (val.Own resource_id)) resource_id (in_first (ty.Value (val.Own resource_id)) [])
    (in_part (ty.Value (val.Own resource_id)) (ty.Resource resource_id) resource_id (in_first (ty.Resource resource_id) []) (free.itself resource_id))

nothing_free : (t : AnyType) (r : ResourceId) → IsFree types t r → t ≡ ty.Func (record { 0 = 0 }) → ⊥
nothing_free _ _ (free.itself q) e = cc
nothing_free t r (in_part _ u _ there more) e = in_none u (subst (λ z. Contains (parts types z) u) e there)
nothing_free _ r (in_export i it n k _ there listed not_own more) e = cc

no_fault : (s : AnyType) (f : WriteFault) → IsTypeFault types s f → s ≡ ty.Interface (record { 0 = 0 }) → ⊥
no_fault s f (faults.of_listed _ _ w) e = in_none ((w.1).0, w.0) (subst (λ z. Contains (listed_items types z) ((w.1).0, w.0)) e (w.1).1)
no_fault _ f (faults.of_world w _ h) e = cc

no_fault_inside : (s t : AnyType) (f : WriteFault) → IsInside types s t → IsTypeFault types s f → t ≡ ty.Interface (record { 0 = 0 }) → ⊥
no_fault_inside s t f (faults.itself _ _ same) h e = no_fault s f h (same ∙ e)
no_fault_inside s t f (in_item _ _ k listed more) h e = in_none (listed.0, k) (subst (λ z. Contains (listed_items types z) (listed.0, k)) e listed.1)

-- ---- an import with an unbound resource

pub no_new_free : HasFaultsOfEntries simple types (entry (function 0) ∷ []) (merge_of (function 1)) → ⊥
no_new_free h =
    let w = h.unbound 0 (entry (function 1)) refl (resource_id, own_is_free, refl) in
    let is = in_one (entry (function 0)) w.0 w.1 in
    nothing_free (ty.Func (record { 0 = 0 })) (w.2).0 (subst (λ (e : Entry). IsFree types (kind_type e.kind) (w.2).0) is (w.2).1) refl

-- ---- an import with a fault inside

pub no_new_fault : HasFaultsOfEntries simple types (entry (instance 0) ∷ []) (merge_of (instance 1)) → ⊥
no_new_fault h =
    let w = h.inside 0 (entry (instance 1)) fault.NestedItem refl (ty.Interface (record { 0 = 1 }), faults.itself _ _ refl, faults.of_listed (ty.Interface (record { 0 = 1 })) fault.NestedItem (a_value, (codes "v", in_first (codes "v", a_value) []), refl)) in
    let is = in_one (entry (instance 0)) w.0 w.1 in
    no_fault_inside (w.2).0 (ty.Interface (record { 0 = 0 })) fault.NestedItem (subst (λ (e : Entry). IsInside types (w.2).0 (kind_type e.kind)) is (w.2).1) (w.2).2 refl

-- ---- an import of another sort

pub no_new_sort : HasFaultsOfEntries simple types (entry (function 0) ∷ []) (merge_of a_value) → ⊥
no_new_sort h =
    let w = h.own 0 (entry a_value) fault.ValueItem refl refl in
    let is = in_one (entry (function 0)) w.0 w.1 in
    no_entry fault.ValueItem (subst (λ (e : Entry). import_fault e.kind ≡ Some fault.ValueItem) is w.2)

-- ---- an import that is its entry

pub its_own_faults : HasFaultsOfEntries simple types (entry (function 1) ∷ []) (merge_of (function 1))
its_own_faults = record {
  own = λ p x f at w. (entry (function 1), its_entry x (the_entry p x at), subst (λ (e : Entry). import_fault e.kind ≡ Some f) (sym (the_entry p x at)) w);
  unbound = λ p x at w. (entry (function 1), its_entry x (the_entry p x at), subst (λ (e : Entry). IsUnbound types (root_bindings simple types (entry (function 1) ∷ []) (λ i. i)) (kind_type e.kind)) (sym (the_entry p x at)) w);
  inside = λ p x f at w. (entry (function 1), its_entry x (the_entry p x at), subst (λ (e : Entry). IsFaultInside types (kind_type e.kind) f) (sym (the_entry p x at)) w);
}
  where
    the_entry : (p : ℕ) (x : Entry) → slice_get (entry (function 1) ∷ []) p ≡ Some x → entry (function 1) ≡ x
    the_entry zero x at = one_entry (entry (function 1)) x at
    the_entry (suc p) x at = absurd (no_entry x at)

    its_entry : (x : Entry) → entry (function 1) ≡ x → Contains (members simple (entry (function 1) ∷ []) x.name) (entry (function 1))
    its_entry x same = subst (λ (y : Entry). Contains (members simple (entry (function 1) ∷ []) y.name) (entry (function 1))) same (in_first (entry (function 1)) [])
