-- What the imports of a merge are for the types of the entries.
use Rattle.std.proofs.Common.{ℕ, eq-eqb, ◌≡◌, ◌<◌, ◌⊎◌, inl, inr, Bool, true, false, cond, List, [], ◌∷◌, map, length, Option, Some, None, slice_get, refl, ap, sym, ◌∙◌, subst, arith}
use Rattle.wac_types_shapes.specs.primitives.Name.{Name, find_name, first_some, option_case}
use Rattle.wac_types_shapes.specs.primitives.Tree.{Tree, Leaf, Place, exported, further_out, imported, position, named, fresh, resource, type_equal, instance, taken_from}
use Rattle.wac_types_shapes.specs.shapes.Kinds.{kind_type}
use Rattle.wac_types_shapes.proofs.lemmas.shapes.Names.{find_name-at}
use Rattle.wac_types_shapes.specs.declared.shapes.component.DefinedTypeId.{DefinedTypeId}
use Rattle.wac_types_shapes.specs.declared.shapes.component.Interface.{Interface}
use Rattle.wac_types_shapes.specs.declared.shapes.component.InterfaceId.{InterfaceId}
use Rattle.wac_types_shapes.specs.declared.shapes.component.ItemKind.{ItemKind}
use Rattle.wac_types_shapes.specs.declared.shapes.component.ItemKind.TheVariants as kind
use Rattle.wac_types_shapes.specs.declared.shapes.component.ResourceId.{ResourceId}
use Rattle.wac_types_shapes.specs.declared.shapes.component.ValueType.{ValueType}
use Rattle.wac_types_shapes.specs.declared.shapes.component.ValueType.TheVariants as val
use Rattle.wac_types_shapes.specs.declared.shapes.component.«Type».TheVariants as ty
use Rattle.wac_types_collection.specs.collection.Aliases.{value_resolved}
use Rattle.wac_types_collection.specs.collection.Collection.{Collection, IsWellFormed, holds_type, holds_value, item_at}
use Rattle.wac_types_collection.specs.collection.Held.{resolved, source_of}
use Rattle.wac_types_collection.specs.collection.Bound.{Bindings, held_item, held_tree, is_alias, is_here, own_name}
use Rattle.wac_types_collection.specs.collection.Names.{ExportsOnce}
use Rattle.wac_types_collection.proofs.lemmas.collection.Chains.{resource_ends}
use Rattle.wac_types_collection.proofs.lemmas.wide.Members.{at_in}
use Rattle.wac_merge.specs.MergedPlaces.{IsRootPlace}
use Rattle.wac_merge_classes.specs.entries.Agreement.{AllMembersAgree}
use Rattle.wac_merge_classes.specs.entries.Binding.{binding_class, class_binds, kind_binds}
use Rattle.wac_merge_classes.specs.entries.Bindings.{AreHeld}
use Rattle.wac_merge_classes.specs.entries.Classes.{Entry, by_names, class_names, members, same_class}
use Rattle.wac_merge_classes.specs.terms.Faults.{HasNoCircle}
use Rattle.wac_merge_classes.specs.terms.Merge.{IsMerge, Merged, position_in}
use Rattle.wac_merge_classes.specs.terms.Union.{merged, union_all}
use Rattle.wac_merge_classes.proofs.lemmas.entries.Opening.{below}
use Rattle.wac_merge_classes.proofs.lemmas.terms.Found.{at-filter, find_at, some_same}
use Rattle.wac_merge_imports.specs.unions.MergedScope.{BindsAsClasses}
use Rattle.wac_merge_imports.proofs.lemmas.fitting.FittingClasses.{first-binding}
use Rattle.wac_merge_imports.proofs.lemmas.fitting.FittingOwn.{no-value, own-found}
use Rattle.wac_merge_imports.proofs.lemmas.fitting.FittingSteps.{binding-at}
use Rattle.wac_binary.specs.Unfold.{Scope}
use Rattle.wac_binary.specs.HasMeaning.{IsValue}
use Rattle.wac_encode_faults.specs.Free.{IsFree, IsUnbound}
use Rattle.wac_encode_faults.specs.Free as free_resources
use Rattle.wac_encode_stacks.specs.Good.{At, IsHeld, Stands}
use Rattle.wac_encode_stacks.specs.Scopes.{at_type, at_export}
use Rattle.wac_encode_stacks.proofs.Aliases.{end-held}
use Rattle.wac_encode_stacks.specs.Instances.{IsApart}
use Rattle.wac_encode_stacks.proofs.HeldParts.{apart-carried}
use Rattle.wac_encode_stacks.proofs.HeldValues.{holds-value}
use Rattle.wac_encode_stacks.proofs.Moved.{on, taken}
use Rattle.wac_encode_interfaces.specs.private.Imports.{RefersToImport}
use Rattle.wac_encode_scopes.proofs.FreeAgreeing.{held-free}
use Rattle.wac_encode_imports.specs.private.Imports.{merged_bindings}
use Rattle.wac_encode_imports.specs.private.ToldGraph.{entry_bindings}
use Rattle.wac_encode_imports.proofs.Binders.{instance-binds, resource-binds}
use Rattle.wac_encode_imports.proofs.Bound.{no-some}
use Rattle.wac_encode_imports.proofs.Distinct.{import-at}
use Rattle.wac_encode_imports.proofs.Members.{IsInstance, each-instance, export-held, exports_of, inner, merged-instance, own-fresh, resource-fresh, type-same, value-same}
use Rattle.wac_encode_imports.proofs.Placed.{bound-place, same-number}
use Rattle.wac_encode_imports.proofs.Stood.{at-path, fresh-export, fresh-stands, instance-stands, type-export, type-stands}

module _ (c : Collection) (wf : IsWellFormed c) (once : ExportsOnce c) (es : List Entry) (held : AreHeld c es) (agreed : AllMembersAgree by_names c es)
    (m : Merged) (merge : IsMerge by_names c es m) (ordered : HasNoCircle by_names c es) (bound : BindsAsClasses by_names c es m) where
  abbrev at : ℕ → ℕ
  at = position_in merge.order

  -- The bindings of the entries' resources in the end.
  abbrev end : Bindings
  end = entry_bindings c es merge.order

  -- an import, and an entry of its class

  module _ (p : ℕ) (x : Entry) (there : slice_get m.imports p ≡ Some x) where
    abbrev number : ℕ
    number = (import-at c es m merge ordered p x there).number

    abbrev class : Name
    class = (import-at c es m merge ordered p x there).class

    of-class : held_item m.types (merged_bindings m) imported (position p ∷ []) x.kind ≡ merged by_names c es end p class
    of-class = let i = import-at c es m merge ordered p x there in merge.items p i.number i.class x i.placed i.known there

    -- The own resources of each entry of the class, but for the others, are bound to what the import exports under their names.
    abbrev pub IsBoundBut : (ResourceId → Bool) → Type 0
    IsBoundBut others = (j : ℕ) (y : Entry) (i : InterfaceId) (it : Interface) → slice_get (members by_names es class) j ≡ Some y → y.kind ≡ kind.Instance i → item_at c.interfaces i.0 ≡ Some it
        → (r : ResourceId) (n : Name) → own_name c it.uses it.exports r ≡ Some n → others r ≡ false → end r ≡ Some (at-path (position p ∷ (named n ∷ [])))

    module _ (w : Scope) (i : ℕ) (refers : RefersToImport m.types (merged_bindings m) w (position p) x.kind i) (j : ℕ) (e : Entry) (at_j : slice_get (members by_names es class) j ≡ Some e) where
      -- an instance

      module _ (id : InterfaceId) (it : Interface) (is : e.kind ≡ kind.Instance id) (has : item_at c.interfaces id.0 ≡ Some it) where
        abbrev mate : IsInstance c wf es at class e
        mate = record { id = id; interface = it; is = is; there = has }

        abbrev items : Name → Tree
        items n = union_all (map (λ y. exports_of c wf es at class agreed held p y n) (members by_names es class))

        here : At w.instances i (record { type = instance items; side = imported; path = position p ∷ [] })
        here = instance-stands m.types (merged_bindings m) w (position p) x.kind i refers (instance items) (of-class ∙ merged-instance c wf es at class agreed held p j e at_j mate)

        own-stands : (r : ResourceId) (n : Name) → own_name c it.uses it.exports r ≡ Some n → Stands w (resource (at-path (position p ∷ (named n ∷ [])))) (at_export i n)
        own-stands r n own = fresh-export w (position p) items i here n (own-fresh c wf es at class agreed held p j e at_j mate (once id it has) r n own)

        value-stands : (n : Name) (v : ValueType) → find_name it.exports n ≡ Some (kind.TypeItem (ty.Value v)) → Stands w (taken_from imported (position p ∷ []) (held_tree c (inner c wf es at class it) (ty.Value v))) (at_export i n)
        value-stands n v found = type-export w (position p) items i here n (held_tree c (inner c wf es at class it) (ty.Value v)) (value-same c wf es at class agreed held p j e at_j mate n v found)

        -- What is bound in the instance, but for the others, is bound at the root in the end, taken from the instance.

        abbrev in_it : List Place → Leaf
        in_it path = record { out = 0; side = exported; path = path }

        further : (o : Option Leaf) → on (taken imported (position p ∷ [])) (option_case o None (λ l. Some (further_out l))) ≡ o
        further None = refl
        further (Some l) = refl

        leaf-taken : (r : ResourceId) (o : Option Name) → ((n : Name) → o ≡ Some n → end r ≡ Some (at-path (position p ∷ (named n ∷ [])))) → (b : Option (List Place)) → ((path : List Place) → b ≡ Some path → end r ≡ Some (at-path (position p ∷ path)))
            → on (taken imported (position p ∷ [])) (first_some (option_case o None (λ n. Some (in_it (named n ∷ [])))) (first_some (option_case b None (λ path. Some (in_it path))) (option_case (end r) None (λ l. Some (further_out l))))) ≡ end r
        leaf-taken r (Some n) own b bound_path = sym (own n refl)
        leaf-taken r None own (Some path) bound_path = sym (bound_path path refl)
        leaf-taken r None own None bound_path = further (end r)

        module _ (others : ResourceId → Bool) (bound_but : IsBoundBut others) where
          class-path : (r : ResourceId) → others r ≡ false → (path : List Place) → class_binds by_names c es class r ≡ Some path → end r ≡ Some (at-path (position p ∷ path))
          class-path r other path binds =
              let f = first-binding by_names c class (members by_names es class) r path binds in
              let y = each-instance c wf es at class agreed held p j e at_j mate f.0 f.1 f.2 in
              let b = instance-binds c class y.id r path (subst (λ (k : ItemKind). kind_binds by_names c class k r ≡ Some path) y.is f.3) in
              bound_but f.0 f.1 y.id b.0 f.2 y.is b.1 r b.2 b.3 other ∙ ap (λ (q : List Place). Some (at-path (position p ∷ q))) (sym b.4)

          all-taken : (r : ResourceId) → others r ≡ false → on (taken imported (position p ∷ [])) (inner c wf es at class it r) ≡ end r
          all-taken r other = leaf-taken r (own_name c it.uses it.exports r) (λ n own. bound_but j e id it at_j is has r n own other) (class_binds by_names c es class r) (λ path binds. class-path r other path binds)

          -- Then each value type that does not depend on the others has its tree at the root where the instance exports it.
          pub bound-stands : (n : Name) (v : ValueType) (d : DefinedTypeId) → find_name it.exports n ≡ Some (kind.TypeItem (ty.Value v)) → value_resolved c v ≡ val.Defined d → holds_value c (val.Defined d) ≡ true → IsApart c others (ty.Value (val.Defined d)) → (IsUnbound c end (ty.Interface id) → ⊥)
              → (tree : Tree) × IsHeld c end (ty.Value (val.Defined d)) tree × IsValue tree × Stands w tree (at_export i n)
          bound-stands n v d found resolves holds apart clean =
              let inside = inner c wf es at class it in
              let tree = held_tree c inside (ty.Value v) in
              let within = held-free c inside (ty.Value v) (λ r free. bound-here r free (own_name c it.uses it.exports r) refl (class_binds by_names c es class r) (end r) refl) in
              let in_instance = subst (λ (u : ValueType). IsHeld c inside (ty.Value u) tree) resolves (end-held c wf inside v tree within) in
              let told = apart-carried c (taken imported (position p ∷ [])) others inside end (ty.Value (val.Defined d)) tree apart (λ r l other at_l. sym (all-taken r other) ∙ ap (on (taken imported (position p ∷ []))) at_l) in_instance in (
                taken_from imported (position p ∷ []) tree,
                told,
                holds-value c wf end (val.Defined d) (taken_from imported (position p ∷ []) tree) holds told,
                value-stands n v found,
              )
            where
              outside : (r : ResourceId) → own_name c it.uses it.exports r ≡ None → IsFree c (ty.Value v) r → end r ≡ None → ⊥
              outside r none free_in unbound =
                  let f = find_at it.exports n (kind.TypeItem (ty.Value v)) found in
                  clean (r, free_resources.in_export id it n (kind.TypeItem (ty.Value v)) r has (at_in it.exports f.0 (n, kind.TypeItem (ty.Value v)) f.1) none free_in, unbound)

              bound-here : (r : ResourceId) → IsFree c (ty.Value v) r → (o : Option Name) → own_name c it.uses it.exports r ≡ o → (b : Option (List Place)) (l : Option Leaf) → end r ≡ l
                  → (x : Leaf) × (first_some (option_case o None (λ q. Some (in_it (named q ∷ [])))) (first_some (option_case b None (λ path. Some (in_it path))) (option_case l None (λ y. Some (further_out y)))) ≡ Some x)
              bound-here r free_in (Some q) own b l is = (in_it (named q ∷ []), refl)
              bound-here r free_in None own (Some path) l is = (in_it path, refl)
              bound-here r free_in None own None (Some y) is = (further_out y, refl)
              bound-here r free_in None own None None is = absurd (outside r own free_in is)

      -- A type item of a value type has its tree at the root.
      pub type-stands-at : (v : ValueType) (d : DefinedTypeId) → e.kind ≡ kind.TypeItem (ty.Value v) → value_resolved c v ≡ val.Defined d → holds_value c (val.Defined d) ≡ true → (IsUnbound c end (ty.Value v) → ⊥)
          → (tree : Tree) × IsHeld c end (ty.Value (val.Defined d)) tree × IsValue tree × Stands w tree (at_type i)
      type-stands-at v d is resolves holds clean =
          let tree = held_tree c end (ty.Value v) in
          let at_root = held-free c end (ty.Value v) (λ r free. bound-here r (end r) refl free) in
          let told = subst (λ (u : ValueType). IsHeld c end (ty.Value u) tree) resolves (end-held c wf end v tree at_root) in
          (tree, told, holds-value c wf end (val.Defined d) tree holds told, type-stands m.types (merged_bindings m) w (position p) x.kind i refers tree (of-class ∙ type-same c wf es at class agreed held p j e at_j v is))
        where
          bound-here : (r : ResourceId) (o : Option Leaf) → end r ≡ o → IsFree c (ty.Value v) r → (l : Leaf) × (end r ≡ Some l)
          bound-here r None none free = absurd (clean (r, free, none))
          bound-here r (Some l) some free = (l, some)

      -- A type item of a resource that it binds is fresh.
      resource-stands : (q : ResourceId) → e.kind ≡ kind.TypeItem (ty.Resource q) → is_alias c q ≡ false → end q ≡ Some (at-path (position p ∷ [])) → At w.types i (resource (at-path (position p ∷ [])))
      resource-stands q is plain here =
          let itself = resource_ends (length c.resources) c q (no-value (source_of (slice_get c.resources q.0)) plain) in
          let bound_here : is_here imported (position p ∷ []) (end (resolved c q)) ≡ true =
          ap (λ (r : ResourceId). is_here imported (position p ∷ []) (end r)) itself ∙ ap (is_here imported (position p ∷ [])) here ∙ ap (λ b. cond b true false) (eq-eqb p p refl) in
          fresh-stands m.types (merged_bindings m) w (position p) x.kind i refers
          (of-class ∙ resource-fresh c wf es at class agreed held p j e at_j (ty.Resource q) is (ap (λ b. cond b fresh (type_equal (held_tree c end (ty.Resource q)))) bound_here))

  -- where a resource is bound

  -- The index of the import that binds a resource refers to it, or the instance with this index exports it.
  abbrev pub IsBoundThere : Scope → ℕ → ℕ → List Place → Type 0
  IsBoundThere w p i path = ((path ≡ []) × At w.types i (resource (at-path (position p ∷ [])))) ⊎ ((n : Name) × (path ≡ named n ∷ []) × Stands w (resource (at-path (position p ∷ (named n ∷ [])))) (at_export i n))

  module _ (r : ResourceId) (p : ℕ) (path : List Place) (h : IsRootPlace by_names es m r p path) (w : Scope) (i : ℕ) (refers : RefersToImport m.types (merged_bindings m) w (position p) h.entry.kind i) where
    abbrev places : (binding_class by_names c es r ≡ Some (h.number, path)) × (end r ≡ Some (at-path (position p ∷ path)))
    places = bound-place c es m merge ordered bound r p path h

    one-class : (k : ℕ) (n : Name) → h.number ≡ k → slice_get (class_names by_names es) k ≡ Some n → n ≡ class p h.entry h.there
    one-class k n is known =
        let mine = (import-at c es m merge ordered p h.entry h.there).known in
        let same = same-number c es m merge ordered p h.number h.class h.entry h.there h.numbered h.named in
        some_same n (class p h.entry h.there) (sym known ∙ ap (slice_get (class_names by_names es)) (sym is ∙ sym same) ∙ mine)

    by-kind : (j : ℕ) (e : Entry) → slice_get (members by_names es (class p h.entry h.there)) j ≡ Some e → (k : ItemKind) → e.kind ≡ k → kind_binds by_names c (class p h.entry h.there) k r ≡ Some path → IsBoundThere w p i path
    by-kind j e at_j (kind.Instance id) is binds =
        let b = instance-binds c (class p h.entry h.there) id r path binds in
        inr (b.2, b.4, own-stands p h.entry h.there w i refers j e at_j id b.0 is b.1 r b.2 b.3)
    by-kind j e at_j (kind.TypeItem (ty.Resource q)) is binds =
        let b = resource-binds c (class p h.entry h.there) q r path binds in
        inl (b.2, resource-stands p h.entry h.there w i refers j e at_j q is b.1 (ap end b.0 ∙ places.1 ∙ ap (λ (y : List Place). Some (at-path (position p ∷ y))) b.2))
    by-kind j e at_j (kind.TypeItem (ty.Value v)) is binds = no-some path binds
    by-kind j e at_j (kind.TypeItem (ty.Func f)) is binds = no-some path binds
    by-kind j e at_j (kind.TypeItem (ty.Interface y)) is binds = no-some path binds
    by-kind j e at_j (kind.TypeItem (ty.World y)) is binds = no-some path binds
    by-kind j e at_j (kind.TypeItem (ty.Module y)) is binds = no-some path binds
    by-kind j e at_j (kind.Func f) is binds = no-some path binds
    by-kind j e at_j (kind.Component y) is binds = no-some path binds
    by-kind j e at_j (kind.Module y) is binds = no-some path binds
    by-kind j e at_j (kind.Value v) is binds = no-some path binds

    pub bound-there : IsBoundThere w p i path
    bound-there =
        let b = binding-at by_names c es 0 (class_names by_names es) r h.number path places.0 in
        let count : h.number ≡ b.0 = (let n = b.1 in omega (arith, n)) in
        let f = first-binding by_names c (b.2).class (members by_names es (b.2).class) r path (b.2).binds in
        let same = one-class b.0 (b.2).class count (b.2).at in
        by-kind f.0 f.1 (subst (λ (n : Name). slice_get (members by_names es n) f.0 ≡ Some f.1) same f.2) (f.1).kind refl (subst (λ (n : Name). kind_binds by_names c n (f.1).kind r ≡ Some path) same f.3)

  -- What is bound is of the collection.

  low-kind : (n : Name) (k : ItemKind) (r : ResourceId) (path : List Place) → holds_type c (kind_type k) ≡ true → kind_binds by_names c n k r ≡ Some path → r.0 < length c.resources
  low-kind n (kind.Instance id) r path holds binds =
      let b = instance-binds c n id r path binds in
      let o = own-found c (b.0).uses (b.0).exports r b.2 b.3 in
      let found = find_name-at (b.0).exports o.0 b.2 o.1 (once id b.0 b.1) o.2 in
      below r.0 (length c.resources) (subst (λ (z : ItemKind). holds_type c (kind_type z) ≡ true) (o.3).is (export-held c wf id b.0 b.2 o.1 b.1 found))
  low-kind n (kind.TypeItem (ty.Resource q)) r path holds binds =
      let b = resource-binds c n q r path binds in
      subst (λ (z : ResourceId). z.0 < length c.resources) b.0 (below q.0 (length c.resources) holds)
  low-kind n (kind.TypeItem (ty.Value v)) r path holds binds = no-some path binds
  low-kind n (kind.TypeItem (ty.Func f)) r path holds binds = no-some path binds
  low-kind n (kind.TypeItem (ty.Interface y)) r path holds binds = no-some path binds
  low-kind n (kind.TypeItem (ty.World y)) r path holds binds = no-some path binds
  low-kind n (kind.TypeItem (ty.Module y)) r path holds binds = no-some path binds
  low-kind n (kind.Func f) r path holds binds = no-some path binds
  low-kind n (kind.Component y) r path holds binds = no-some path binds
  low-kind n (kind.Module y) r path holds binds = no-some path binds
  low-kind n (kind.Value v) r path holds binds = no-some path binds

  pub bound-low : (r : ResourceId) (l : Leaf) → end r ≡ Some l → r.0 < length c.resources
  bound-low r l is = by (binding_class by_names c es r) refl is
    where
      by : (o : Option (ℕ × List Place)) → binding_class by_names c es r ≡ o → option_case o None (λ b. Some (record { out = 0; side = imported; path = position (at b.0) ∷ b.1 })) ≡ Some l → r.0 < length c.resources
      by None none e = no-some l e
      by (Some q) first e =
          let b = binding-at by_names c es 0 (class_names by_names es) r q.0 q.1 first in
          let f = first-binding by_names c (b.2).class (members by_names es (b.2).class) r q.1 (b.2).binds in
          let y = at-filter (λ (z : Entry). same_class by_names es (b.2).class z.name) es f.0 f.1 f.2 in
          low-kind (b.2).class (f.1).kind r q.1 (held y.0 f.1 y.1) f.3
