-- Which classes are new resources.
use Rattle.std.proofs.Common.{◌≡◌, ℕ, zero, suc, ◌+◌, nat_eq, Bool, true, false, not, cond, ◌&&◌, ◌==◌, List, [], ◌∷◌, filter, take, length, Option, Some, None, refl, sym, ap, ◌∙◌, inl, inr, arith}
use Rattle.std.specs.Prelude.{slice_get}
use Rattle.std.specs.declared.string.String.{String}
use Rattle.std.proofs.lemmas.Bool.{eqb-true}
use Rattle.std.proofs.lemmas.Option.{slice_get_within}
use Rattle.wac_types_shapes.specs.primitives.Name.{Name, option_case, first_some}
use Rattle.wac_types_shapes.specs.primitives.Tree.{Place, named}
use Rattle.wac_types_collection.specs.collection.Collection.{Collection, item_at}
use Rattle.wac_types_collection.specs.collection.Bound.{is_alias, own_name}
use Rattle.wac_types_shapes.specs.declared.shapes.component.Interface.{Interface}
use Rattle.wac_types_shapes.specs.declared.shapes.component.ResourceId.{ResourceId}
use Rattle.wac_types_shapes.specs.declared.shapes.component.ItemKind.{ItemKind}
use Rattle.wac_types_shapes.specs.declared.shapes.component.ItemKind.TheVariants as kind
use Rattle.wac_types_shapes.specs.declared.shapes.component.«Type».TheVariants as ty
use Rattle.wac_types_shapes.proofs.lemmas.shapes.Names.{take_at}
use Rattle.wac_merge_classes.specs.entries.Binding.{kind_binds, first_binds, class_binds, binding_from}
use Rattle.wac_merge_classes.specs.entries.Bindings.{AreBindings, ClassBindings, first_in}
use Rattle.wac_merge_classes.specs.entries.Classes.{Entry, by_names, class_names, same_class, same_track}
use Rattle.wac_merge_resources.specs.private.renaming.FreshSteps.{AreCounted, IsWhole, StayWhole}
use Rattle.wac_merge_classes.specs.entries.Places.{resource_itself}
use Rattle.wac_types_collection.specs.subtyping.CalledViews.{path_view}
use Rattle.wac_merge_classes.proofs.lemmas.entries.Lists.{push-cases}

some-same : {A : Type 0} (x y : A) → Some x ≡ Some y → x ≡ y
some-same x y e = cc

-- what binds a resource under no name is that resource
binds-itself : (c : Collection) (class : Name) (k : ItemKind) (r : ResourceId) → kind_binds by_names c class k r ≡ Some [] → resource_itself c k ≡ Some r
binds-itself c class (kind.Instance i) r h = absurd (at (item_at c.interfaces i.0) h) where
  ids : (it : Interface) (o : Option Name) → option_case o None (λ id. cond (same_track (by_names.track id) (by_names.track class)) (option_case (own_name c it.uses it.exports r) None (λ n. Some (named n ∷ []))) None) ≡ Some [] → ⊥
  ids it None h = cc
  ids it (Some id) h = on (same_track (by_names.track id) (by_names.track class)) (own_name c it.uses it.exports r) h where
    on : (b : Bool) (o : Option Name) → cond b (option_case o None (λ n. Some (named n ∷ []))) None ≡ Some [] → ⊥
    on true None h = cc
    on true (Some n) h = cc
    on false o h = cc

  at : (o : Option Interface) → option_case o None (λ it. option_case it.id None (λ id. cond (same_track (by_names.track id) (by_names.track class)) (option_case (own_name c it.uses it.exports r) None (λ n. Some (named n ∷ []))) None)) ≡ Some [] → ⊥
  at None h = cc
  at (Some it) h = ids it it.id h
binds-itself c class (kind.TypeItem (ty.Resource q)) r h = by (nat_eq q.0 r.0) refl (is_alias c q) h where
  by : (b : Bool) → nat_eq q.0 r.0 ≡ b → (a : Bool) → ◌≡◌ {A = Option (List Place)} (cond (b && not a) (Some []) None) (Some []) → ◌≡◌ {A = Option ResourceId} (cond a None (Some q)) (Some r)
  by true e false h = ap (λ n. Some (record { 0 = n })) (eqb-true q.0 r.0 e)
  by true e true h = cc
  by false e a h = cc
binds-itself c class (kind.TypeItem (ty.Func x)) r h = cc
binds-itself c class (kind.TypeItem (ty.Value x)) r h = cc
binds-itself c class (kind.TypeItem (ty.Interface x)) r h = cc
binds-itself c class (kind.TypeItem (ty.World x)) r h = cc
binds-itself c class (kind.TypeItem (ty.Module x)) r h = cc
binds-itself c class (kind.Func x) r h = cc
binds-itself c class (kind.Component x) r h = cc
binds-itself c class (kind.Module x) r h = cc
binds-itself c class (kind.Value x) r h = cc

-- the entry that binds it
first-entry : (c : Collection) (class : Name) (es : List Entry) (r : ResourceId) (path : List Place) → first_binds by_names c class es r ≡ Some path
    → (j : ℕ) × (e : Entry) × (slice_get es j ≡ Some e) × (kind_binds by_names c class e.kind r ≡ Some path)
first-entry c class [] r path h = cc
first-entry c class (e ∷ es) r path h = by (kind_binds by_names c class e.kind r) refl h (first-entry c class es r path) where
  by : (o : Option (List Place)) → kind_binds by_names c class e.kind r ≡ o → first_some o (first_binds by_names c class es r) ≡ Some path
      → (first_binds by_names c class es r ≡ Some path → (j : ℕ) × (x : Entry) × (slice_get es j ≡ Some x) × (kind_binds by_names c class x.kind r ≡ Some path))
      → (j : ℕ) × (x : Entry) × (slice_get (e ∷ es) j ≡ Some x) × (kind_binds by_names c class x.kind r ≡ Some path)
  by (Some p) is h rest = (0, e, refl, is ∙ h)
  by None is h rest = let w = rest h in (suc w.0, w.1, w.2, w.3)

-- what passes a filter was there
filtered-at : {A : Type 0} (p : A → Bool) (xs : List A) (j : ℕ) (x : A) → slice_get (filter p xs) j ≡ Some x → (i : ℕ) × (slice_get xs i ≡ Some x)
filtered-at p [] j x at = cc
filtered-at p (y ∷ xs) j x at = by (p y) j at (filtered-at p xs) where
  by : (b : Bool) (j : ℕ) → slice_get (cond b (y ∷ filter p xs) (filter p xs)) j ≡ Some x → ((j : ℕ) (x : _) → slice_get (filter p xs) j ≡ Some x → (i : ℕ) × (slice_get xs i ≡ Some x))
      → (i : ℕ) × (slice_get (y ∷ xs) i ≡ Some x)
  by true zero at rest = (0, at)
  by true (suc j) at rest = let w = rest j x at in (suc w.0, w.1)
  by false j at rest = let w = rest j x at in (suc w.0, w.1)

-- the class that binds it
from-class : (c : Collection) (es : List Entry) (k : ℕ) (ns : List Name) (r : ResourceId) (j : ℕ) (path : List Place) → binding_from by_names c es k ns r ≡ Some (j, path)
    → (i : ℕ) × (n : Name) × (slice_get ns i ≡ Some n) × (j ≡ k + i) × (class_binds by_names c es n r ≡ Some path)
from-class c es k [] r j path h = cc
from-class c es k (n ∷ ns) r j path h = by (class_binds by_names c es n r) refl h (from-class c es (suc k) ns r j path) where
  by : (o : Option (List Place)) → class_binds by_names c es n r ≡ o → option_case o (binding_from by_names c es (suc k) ns r) (λ p. Some (k, p)) ≡ Some (j, path)
      → (binding_from by_names c es (suc k) ns r ≡ Some (j, path) → (i : ℕ) × (m : Name) × (slice_get ns i ≡ Some m) × (j ≡ suc k + i) × (class_binds by_names c es m r ≡ Some path))
      → (i : ℕ) × (m : Name) × (slice_get (n ∷ ns) i ≡ Some m) × (j ≡ k + i) × (class_binds by_names c es m r ≡ Some path)
  by (Some p) is h rest =
      let same : ◌≡◌ {A = ℕ × List Place} (k, p) (j, path) = some-same (k, p) (j, path) h in
      let number : k ≡ j = ap (λ z. z.0) same in
      (0, n, refl, omega (arith, number), is ∙ ap (λ z. Some z.1) same)
  by None is h rest = let w = rest h in let e = w.3 in (suc w.0, w.1, w.2, omega (arith, e), w.4)

module _ (c : Collection) (es : List Entry) (bs : ClassBindings) (are : AreBindings c es bs) where
  -- a class that is the first to bind a resource by being it has an entry that is that resource
  first-itself : (k : ℕ) (r : ResourceId) → first_in bs r ≡ Some (k, []) → (j : ℕ) × (e : Entry) × (slice_get es j ≡ Some e) × (resource_itself c e.kind ≡ Some r)
  first-itself k r h =
      let w = from-class c es 0 (class_names by_names es) r k [] (sym (are.firsts r) ∙ h) in
      let v = first-entry c w.1 (filter (λ e. same_class by_names es w.1 e.name) es) r [] w.4 in
      let at = filtered-at (λ (e : Entry). same_class by_names es w.1 e.name) es v.0 v.1 v.2 in
      (at.0, v.1, at.1, binds-itself c w.1 v.1.kind r v.3)

  -- classes that bind have numbers
  pub first-counted : (ws : List (Option ResourceId)) → length ws ≡ length (class_names by_names es) → AreCounted bs ws
  first-counted ws count r b h =
      let w = from-class c es 0 (class_names by_names es) r b.0 b.1 (sym (are.firsts r) ∙ h) in
      let low = slice_get_within (class_names by_names es) w.0 w.1 w.2 in
      let e = w.3 in
      omega (arith, count, low, e)

  -- all entries were seen
  pub first-whole : (ws : List (Option ResourceId)) → ((j : ℕ) (e : Entry) (r : ResourceId) (k : ℕ) → slice_get es j ≡ Some e → resource_itself c e.kind ≡ Some r → first_in bs r ≡ Some (k, []) → IsWhole ws k)
      → (k : ℕ) (r : ResourceId) → first_in bs r ≡ Some (k, []) → IsWhole ws k
  first-whole ws seen k r h = let w = first-itself k r h in seen w.0 w.1 r k w.2 w.3 h

-- one more entry
pub seen-more : (c : Collection) (bs : ClassBindings) (es : List Entry) (i : ℕ) (e : Entry) (ws more : List (Option ResourceId)) → slice_get es i ≡ Some e → StayWhole ws more
    → ((r : ResourceId) (k : ℕ) → resource_itself c e.kind ≡ Some r → first_in bs r ≡ Some (k, []) → IsWhole more k)
    → ((j : ℕ) (x : Entry) (r : ResourceId) (k : ℕ) → slice_get (take i es) j ≡ Some x → resource_itself c x.kind ≡ Some r → first_in bs r ≡ Some (k, []) → IsWhole ws k)
    → (j : ℕ) (x : Entry) (r : ResourceId) (k : ℕ) → slice_get (take (suc i) es) j ≡ Some x → resource_itself c x.kind ≡ Some r → first_in bs r ≡ Some (k, []) → IsWhole more k
seen-more c bs es i e ws more at stay put seen j x r k there is first = elim (push-cases (take i es) e j x (ap (λ l. slice_get l j) (sym (take_at es i e at)) ∙ there)) [
  | inl old ↦ stay k (seen j x r k old is first)
  | inr new ↦ put r k (ap (λ (y : Entry). resource_itself c y.kind) (sym new.1) ∙ is) first
]

-- ---- an empty path

pub no-path : {A : Type 0} (path : List (String A)) → path_view path ≡ [] → (length path == 0) ≡ true
no-path [] e = refl
no-path (s ∷ path) e = cc

pub is-path : {A : Type 0} (path : List (String A)) → (length path == 0) ≡ true → path_view path ≡ []
is-path [] e = refl
is-path (s ∷ path) e = absurd (let h = eqb-true (length (s ∷ path)) 0 e in omega (arith, h))

-- the class that is the first to bind a resource, and the path there
pub first-same : (bs : ClassBindings) (q r : ResourceId) (o : Option ResourceId) (class k : ℕ) (path : List Place) → Some q ≡ o → o ≡ Some r → Some (class, path) ≡ first_in bs q → first_in bs r ≡ Some (k, []) → (class ≡ k) × (path ≡ [])
first-same bs q r o class k path is also at first =
    let resource : q ≡ r = some-same q r (is ∙ also) in
    let same : ◌≡◌ {A = ℕ × List Place} (class, path) (k, []) = some-same (class, path) (k, []) (at ∙ (ap (first_in bs) resource ∙ first)) in
    (ap (λ z. z.0) same, ap (λ z. z.1) same)
