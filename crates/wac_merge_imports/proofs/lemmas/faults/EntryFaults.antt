-- Imports have the faults of their entries.
use Rattle.std.proofs.Common.{◌≡◌, ℕ, true, List, ◌∷◌, slice_get, take, Contains, Option, Some, None, refl, sym, ap, ◌∙◌, subst, arith, inl, inr}
use Rattle.std.proofs.lemmas.Option.{slice_get_within}
use Rattle.wac_types_shapes.specs.primitives.Name.{Name, option_case}
use Rattle.wac_types_shapes.specs.primitives.Tree.{Leaf, Place, imported, position}
use Rattle.wac_types_shapes.specs.shapes.Kinds.{kind_type}
use Rattle.wac_types_shapes.specs.declared.shapes.component.InterfaceId.{InterfaceId}
use Rattle.wac_types_shapes.specs.declared.shapes.component.ResourceId.{ResourceId}
use Rattle.wac_types_collection.specs.collection.Collection.{Collection}
use Rattle.wac_types_collection.specs.collection.Bound.{Bindings}
use Rattle.wac_encode_faults.specs.declared.fault.WriteFault.{WriteFault}
use Rattle.wac_encode_faults.specs.Faults.{IsFaultInside, import_fault}
use Rattle.wac_encode_faults.specs.Free.{IsUnbound}
use Rattle.wac_merge_classes.specs.declared.terms.fresh.Fresh.{Fresh}
use Rattle.wac_merge_classes.specs.declared.terms.parts.Part.{Part}
use Rattle.wac_merge_classes.specs.declared.terms.parts.Union.{Union}
use Rattle.wac_merge_classes.specs.entries.Binding.{binding_class, root_bindings}
use Rattle.wac_merge_classes.specs.entries.Bindings.{ClassBindings}
use Rattle.wac_merge_classes.specs.entries.Classes.{Entry, by_names, class_names, members, same_class}
use Rattle.wac_merge_classes.specs.private.terms.MergedKinds.{AreMergedKinds}
use Rattle.wac_merge_classes.specs.terms.Became.{became}
use Rattle.wac_merge_classes.specs.terms.Merge.{position_in}
use Rattle.wac_merge_classes.specs.terms.Renaming.{AreEnds}
use Rattle.wac_merge_classes.proofs.lemmas.entries.Lists.{some-at}
use Rattle.wac_merge_classes.proofs.lemmas.terms.Alike.{members_alike}
use Rattle.wac_merge_classes.proofs.lemmas.terms.Found.{no_some}
use Rattle.wac_merge_unions.specs.uses.KeptUses.{instances}
use Rattle.wac_merge_unions.specs.uses.Using.{AreUsing, uses_among}
use Rattle.wac_merge_imports.proofs.lemmas.fitting.BecameEnds.{became-ends}
use Rattle.wac_merge_imports.proofs.lemmas.fitting.MergedBindings.{import-at}
use Rattle.wac_merge_imports.proofs.lemmas.fitting.MergedBindingsAgreed.{names-agree}
use Rattle.wac_merge_imports.proofs.lemmas.unions.Assembled.{AreAssembled}
use Rattle.wac_merge_imports.proofs.lemmas.unions.AssembledKinds.{merged-kinds, none-disagrees}
use Rattle.wac_merge_imports.specs.unions.EntryFaults.{HasEntryWith, HasFaultsOfEntries}
use Rattle.wac_merge_imports.proofs.lemmas.faults.FaultsComing.{fault_from, own_fault_from}
use Rattle.wac_merge_imports.proofs.lemmas.faults.FromEntries.{free_from}
use Rattle.wac_merge_imports.proofs.lemmas.faults.Using.{kind_fault, kind_free, kind_own}

abbrev leaf_of : (ℕ → ℕ) → Option (ℕ × List Place) → Option Leaf
leaf_of f o = option_case o None (λ b. Some (record { out = 0; side = imported; path = position (f b.0) ∷ b.1 }))

-- What is bound does not depend on where imports stand.
unbound_at : (c : Collection) (es : List Entry) (at to : ℕ → ℕ) (r : ResourceId) → root_bindings by_names c es at r ≡ None → root_bindings by_names c es to r ≡ None
unbound_at c es at to r none = by (binding_class by_names c es r) none where
  by : (o : Option (ℕ × List Place)) → leaf_of at o ≡ None → leaf_of to o ≡ None
  by None e = refl
  by (Some b) e = absurd (no_some _ (sym e))

module _ (c m : Collection) (es : List Entry) (roots : List (List InterfaceId)) (us : List Union) (ps : List Part) (bs : ClassBindings) (f : Fresh) (ids : List (Option Name)) (ws : List InterfaceId) (order : List ℕ) (bare imports : List Entry)
    (all : AreAssembled c m es roots us ps bs f ids ws order bare) (using : AreUsing by_names c es m bare imports) (same_roots : root_bindings by_names m imports (λ i. i) ≡ root_bindings by_names m bare (λ i. i)) where
  are : AreMergedKinds c es roots f m ids ws order bare
  are = merged-kinds c m es roots us ps bs f ids ws order bare all

  ends : (o : Option ℕ) → AreEnds c m (became c ps bs f o)
  ends = became-ends c m es roots us ps bs f all.merged.source all.sound all.extended all.merged.bindings all.merged.counted all.merged.unions all.merged.fresh (names-agree c es (none-disagrees c es all.agreed))

  -- An import, what it was before it had uses, and its class.
  record IsFrom (p : ℕ) (x : Entry) : Type 0 where
    pub before : Entry
    pub there : slice_get bare p ≡ Some before
    pub number : ℕ
    pub class : Name
    pub ordered : slice_get order p ≡ Some number
    pub numbered : slice_get (class_names by_names es) number ≡ Some class
    pub same_members : members by_names es class ≡ members by_names es x.name

  from : (p : ℕ) (x : Entry) → slice_get imports p ≡ Some x → IsFrom p x
  from p x at =
      let low = slice_get_within imports p x at in
      let as_many = using.counted in
      let a = some-at bare p (omega (arith, low, as_many)) in
      let i = import-at c m es roots us ps bs f ids ws all.merged order bare are p a.0 a.1 in
      let w = all.imported.each p i.number i.class a.0 i.ordered i.at a.1 in
      let one : same_class by_names es i.class x.name ≡ true = ap (same_class by_names es i.class) (using.names p a.0 x a.1 at ∙ w.5) ∙ w.3 in
      record {
        before = a.0;
        there = a.1;
        number = i.number;
        class = i.class;
        ordered = i.ordered;
        numbered = i.at;
        same_members = members_alike c es i.class x.name one;
      }

  -- imports have the faults of their entries
  pub entry_faults : HasFaultsOfEntries by_names c es (record { types = m; imports = imports })
  entry_faults = record { own = own; unbound = unbound; inside = inside } where
    own : (p : ℕ) (x : Entry) (g : WriteFault) → slice_get imports p ≡ Some x → import_fault x.kind ≡ Some g → HasEntryWith by_names es x (λ k. import_fault k ≡ Some g)
    own p x g at h =
        let a = from p x at in
        let before = kind_own c m (uses_among by_names c es m (take p imports)) (instances (members by_names es (a.before).name)) (a.before).kind x.kind (using.kinds p a.before x a.there at) g h in
        let e = own_fault_from c m es roots us ps bs f ids ws order bare all are ends p a.number a.class a.before a.ordered a.numbered a.there g before in
        (e.0, subst (λ l. Contains l e.0) a.same_members e.1, e.2)

    unbound : (p : ℕ) (x : Entry) → slice_get imports p ≡ Some x → IsUnbound m (root_bindings by_names m imports (λ i. i)) (kind_type x.kind)
        → HasEntryWith by_names es x (λ k. IsUnbound c (root_bindings by_names c es (λ i. i)) (kind_type k))
    unbound p x at w =
        let a = from p x at in
        let is = kind_free c m (uses_among by_names c es m (take p imports)) (instances (members by_names es (a.before).name)) (a.before).kind x.kind (using.kinds p a.before x a.there at) w.0 w.1 in
        let none : root_bindings by_names m bare (λ i. i) w.0 ≡ None = sym (ap (λ (g : Bindings). g w.0) same_roots) ∙ w.2 in
        elim (free_from c m es roots us ps bs f ids ws order bare all are ends p a.number a.class a.before a.ordered a.numbered a.there w.0 is) [
          | inl bound ↦ absurd (no_some bound.0 (sym none ∙ bound.1))
          | inr h ↦ (h.0, subst (λ l. Contains l h.0) a.same_members h.1, (h.2, h.3, unbound_at c es (position_in order) (λ i. i) h.2 (sym h.4 ∙ none)))
        ]

    inside : (p : ℕ) (x : Entry) (g : WriteFault) → slice_get imports p ≡ Some x → IsFaultInside m (kind_type x.kind) g
        → HasEntryWith by_names es x (λ k. IsFaultInside c (kind_type k) g)
    inside p x g at w =
        let a = from p x at in
        let h = kind_fault c m (uses_among by_names c es m (take p imports)) (instances (members by_names es (a.before).name)) (a.before).kind x.kind (using.kinds p a.before x a.there at) g w in
        let e = fault_from c m es roots us ps bs f ids ws order bare all are ends p a.number a.class a.before a.ordered a.numbered a.there g h in
        (e.0, subst (λ l. Contains l e.0) a.same_members e.1, e.2)
