-- Which import of a merge binds a resource.
use Rattle.std.proofs.Common.{ℕ, zero, suc, ◌≡◌, ◌+◌, ◌<◌, ◌≤◌, Bool, true, false, if◌then◌else◌, List, [], ◌∷◌, Option, Some, None, slice_get, length, lt-ltb, refl, ap, sym, ◌∙◌, subst, arith}
use Rattle.std.specs.Prelude.{◌==◌, ◌&&◌, not, ltb}
use Rattle.std.proofs.lemmas.Bool.{eqb-true}
use Rattle.std.proofs.lemmas.Option.{slice_get_within}
use Rattle.wac_types_shapes.specs.primitives.Name.{Name, option_case}
use Rattle.wac_types_shapes.specs.primitives.Tree.{imported, Place, position, named, Leaf}
use Rattle.wac_types_shapes.specs.declared.shapes.component.Interface.{Interface}
use Rattle.wac_types_shapes.specs.declared.shapes.component.InterfaceId.{InterfaceId}
use Rattle.wac_types_shapes.specs.declared.shapes.component.ItemKind.{ItemKind}
use Rattle.wac_types_shapes.specs.declared.shapes.component.ItemKind.TheVariants as kind
use Rattle.wac_types_shapes.specs.declared.shapes.component.ResourceId.{ResourceId}
use Rattle.wac_types_shapes.specs.declared.shapes.component.«Type».TheVariants as ty
use Rattle.wac_types_collection.specs.collection.Collection.{Collection, item_at}
use Rattle.wac_types_collection.specs.collection.Bound.{own_name, is_alias}
use Rattle.wac_merge_classes.specs.entries.Binding.{binding_class, class_binds, kind_binds}
use Rattle.wac_merge_classes.specs.entries.Classes.{Entry, by_names, class_names, same_track}
use Rattle.wac_merge_classes.specs.terms.Merge.{Merged}
use Rattle.wac_merge_imports.proofs.lemmas.fitting.FittingSteps.{binding-at}
use Rattle.wac_merge_imports.proofs.lemmas.fitting.MergedBindingsClasses.{alone-binds, class-at}
use Rattle.wac_encode_imports.specs.private.Imports.{merged_bindings, HasDistinctClasses}
use Rattle.wac_encode_imports.specs.private.Written.{begins_below, is_bound_at}
use Rattle.wac_encode_imports.proofs.Bound.{true-false, no-some, one-some}

-- The import at a position binds the resource, under a path.
pub record IsBinder (m : Merged) (r : ResourceId) (l : Leaf) : Type 0 where
  pub at : ℕ
  pub entry : Entry
  pub there : slice_get m.imports at ≡ Some entry
  pub path : List Place
  pub leaf : l ≡ record { out = 0; side = imported; path = position at ∷ path }
  pub binds : kind_binds by_names m.types entry.name entry.kind r ≡ Some path

-- What is bound at the root is bound by the import at that position.
pub binder : (m : Merged) → HasDistinctClasses m → (r : ResourceId) (l : Leaf) → merged_bindings m r ≡ Some l → IsBinder m r l
binder m distinct r l h = by (binding_class by_names m.types m.imports r) refl h
  where
    by : (o : Option (ℕ × List Place)) → binding_class by_names m.types m.imports r ≡ o → option_case o None (λ b. Some (record { out = 0; side = imported; path = position b.0 ∷ b.1 })) ≡ Some l → IsBinder m r l
    by None is e = no-some l e
    by (Some b) is e =
        let w = binding-at by_names m.types m.imports 0 (class_names by_names m.imports) r b.0 b.1 is in
        let x = class-at by_names m.imports distinct w.0 w.2.class w.2.at in
        let number : b.0 ≡ w.0 = let count = w.1 in omega (arith, count) in
        record {
          at = w.0;
          entry = x.0;
          there = x.1;
          path = b.1;
          leaf = sym (one-some (record { out = 0; side = imported; path = position b.0 ∷ b.1 }) l e) ∙ ap (λ n. record { out = 0; side = imported; path = position n ∷ b.1 }) number;
          binds = sym (alone-binds by_names m.imports distinct m.types w.0 x.0 x.1 r) ∙ ap (λ (n : Name). class_binds by_names m.types m.imports n r) x.2 ∙ w.2.binds;
        }

-- So its position is below the number of imports.
pub binder-low : (m : Merged) → HasDistinctClasses m → (n : ℕ) → length m.imports ≤ n → (r : ResourceId) (l : Leaf) → merged_bindings m r ≡ Some l → begins_below n l.path ≡ true
binder-low m distinct n past r l h =
    let b = binder m distinct r l h in
    let low = slice_get_within m.imports b.at b.entry b.there in
    ap (λ (x : Leaf). begins_below n x.path) b.leaf ∙ lt-ltb b.at n (omega (arith, low, past))

-- The binder at a position is the import there.
pub binder-here : (m : Merged) → HasDistinctClasses m → (p : ℕ) (e : Entry) (r : ResourceId) → slice_get m.imports p ≡ Some e → is_bound_at p (merged_bindings m r) ≡ true
    → (path : List Place) × (kind_binds by_names m.types e.name e.kind r ≡ Some path) × (merged_bindings m r ≡ Some (record { out = 0; side = imported; path = position p ∷ path }))
binder-here m distinct p e r there h = by (merged_bindings m r) refl h
  where
    by : (o : Option Leaf) → merged_bindings m r ≡ o → is_bound_at p o ≡ true
        → (path : List Place) × (kind_binds by_names m.types e.name e.kind r ≡ Some path) × (o ≡ Some (record { out = 0; side = imported; path = position p ∷ path }))
    by None is at = true-false false at refl
    by (Some l) is at =
        let b = binder m distinct r l is in
        let same : b.at ≡ p = eqb-true b.at p (sym (ap (λ (x : Leaf). is_bound_at p (Some x)) b.leaf) ∙ at) in
        let entry : b.entry ≡ e = one-some b.entry e (sym b.there ∙ ap (slice_get m.imports) same ∙ there) in
        (b.path, ap (λ (x : Entry). kind_binds by_names m.types x.name x.kind r) (sym entry) ∙ b.binds, ap Some (b.leaf ∙ ap (λ n. record { out = 0; side = imported; path = position n ∷ b.path }) same))

-- What an item binds: an instance its interface's own resources, a type item its resource.

pub instance-binds : (c : Collection) (class : Name) (i : InterfaceId) (r : ResourceId) (path : List Place) → kind_binds by_names c class (kind.Instance i) r ≡ Some path
    → (it : Interface) × (item_at c.interfaces i.0 ≡ Some it) × (n : Name) × (own_name c it.uses it.exports r ≡ Some n) × (path ≡ named n ∷ [])
instance-binds c class i r path h = by (item_at c.interfaces i.0) refl h
  where
    last : (it : Interface) (o : Option Name) → own_name c it.uses it.exports r ≡ o → option_case o None (λ n. Some (named n ∷ [])) ≡ Some path → (n : Name) × (own_name c it.uses it.exports r ≡ Some n) × (path ≡ named n ∷ [])
    last it None is e = no-some path e
    last it (Some n) is e = (n, is, sym (one-some (named n ∷ []) path e))

    track : (it : Interface) (b : Bool) → (if b then option_case (own_name c it.uses it.exports r) None (λ n. Some (named n ∷ [])) else None) ≡ Some path → (n : Name) × (own_name c it.uses it.exports r ≡ Some n) × (path ≡ named n ∷ [])
    track it true e = last it (own_name c it.uses it.exports r) refl e
    track it false e = no-some path e

    named-so : (it : Interface) (o : Option Name) → option_case o None (λ id. if same_track (by_names.track id) (by_names.track class) then option_case (own_name c it.uses it.exports r) None (λ n. Some (named n ∷ [])) else None) ≡ Some path
        → (n : Name) × (own_name c it.uses it.exports r ≡ Some n) × (path ≡ named n ∷ [])
    named-so it None e = no-some path e
    named-so it (Some id) e = track it (same_track (by_names.track id) (by_names.track class)) e

    by : (o : Option Interface) → item_at c.interfaces i.0 ≡ o
        → option_case o None (λ it. option_case it.id None (λ id. if same_track (by_names.track id) (by_names.track class) then option_case (own_name c it.uses it.exports r) None (λ n. Some (named n ∷ [])) else None)) ≡ Some path
        → (it : Interface) × (item_at c.interfaces i.0 ≡ Some it) × (n : Name) × (own_name c it.uses it.exports r ≡ Some n) × (path ≡ named n ∷ [])
    by None is e = no-some path e
    by (Some it) is e = let w = named-so it it.id e in (it, is, w.0, w.1, w.2)

pub resource-binds : (c : Collection) (class : Name) (q r : ResourceId) (path : List Place) → kind_binds by_names c class (kind.TypeItem (ty.Resource q)) r ≡ Some path → (q ≡ r) × (is_alias c q ≡ false) × (path ≡ [])
resource-binds c class q r path h = by (q.0 == r.0) refl (is_alias c q) refl h
  where
    by : (a : Bool) → (q.0 == r.0) ≡ a → (b : Bool) → is_alias c q ≡ b → (if a && not b then Some [] else None) ≡ Some path → (q ≡ r) × (is_alias c q ≡ false) × (path ≡ [])
    by true one false itself_ e = (ap (λ k. record { 0 = k }) (eqb-true q.0 r.0 one), itself_, sym (one-some [] path e))
    by true one true alias e = no-some path e
    by false other b is e = no-some path e
