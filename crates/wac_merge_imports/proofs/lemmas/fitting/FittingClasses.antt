-- What a class binds, where its members are instances.
use Rattle.std.proofs.Common.{◌≡◌, ℕ, suc, Bool, true, false, cond, ◌&&◌, ◌==◌, not, List, [], ◌∷◌, slice_get, Option, Some, None, refl, sym, ap, ◌∙◌}
use Rattle.std.specs.List.{Contains}
use Rattle.std.proofs.lemmas.Bool.{eqb-true, false≢true}
use Rattle.std.proofs.lemmas.Option.{get_or_from_slice_get, slice_get_within}
use Rattle.wac_types_shapes.specs.primitives.Name.{Name, option_case, first_some}
use Rattle.wac_types_shapes.specs.primitives.Tree.{Place, named}
use Rattle.wac_types_collection.specs.collection.Collection.{Collection, item_at}
use Rattle.wac_types_collection.specs.collection.Bound.{is_alias, own_name}
use Rattle.wac_types_shapes.specs.declared.shapes.component.Interface.{Interface}
use Rattle.wac_types_shapes.specs.declared.shapes.component.InterfaceId.{InterfaceId}
use Rattle.wac_types_shapes.specs.declared.shapes.component.ResourceId.{ResourceId}
use Rattle.wac_types_shapes.specs.declared.shapes.component.«Type».TheVariants as ty
use Rattle.wac_types_shapes.specs.declared.shapes.component.ItemKind.{ItemKind}
use Rattle.wac_types_shapes.specs.declared.shapes.component.ItemKind.TheVariants as kind
use Rattle.wac_merge_classes.specs.declared.terms.fresh.Fresh.{Fresh}
use Rattle.wac_merge_classes.specs.declared.terms.parts.Part.{Part}
use Rattle.wac_merge_classes.specs.declared.terms.parts.Union.{Union}
use Rattle.wac_merge_classes.specs.terms.Became.{AreFresh, own_in}
use Rattle.wac_merge_classes.specs.entries.Binding.{class_binds, first_binds, kind_binds}
use Rattle.wac_merge_classes.specs.entries.Bindings.{ClassBindings}
use Rattle.wac_merge_classes.specs.entries.Classes.{Entry, NameRules, by_names, is_instance, members, same_track}
use Rattle.wac_merge_classes.specs.private.terms.MergedKinds.{AreInstancesOf, AreListedOnce}
use Rattle.wac_merge_classes.specs.entries.Places.{resource_itself}
use Rattle.wac_merge_classes.specs.terms.Unions.{AreUnions, part}
use Rattle.wac_merge_classes.proofs.lemmas.terms.Found.{no_some, some_same}
use Rattle.wac_merge_imports.proofs.lemmas.fitting.FittingOwn.{zip-left}
use Rattle.wac_merge_imports.proofs.lemmas.fitting.FittingParts.{part-owns}

-- one of these entries binds the resource under the path
pub first-binding : (rules : NameRules) (c : Collection) (class : Name) (xs : List Entry) (r : ResourceId) (path : List Place) → first_binds rules c class xs r ≡ Some path
    → (j : ℕ) × (e : Entry) × (slice_get xs j ≡ Some e) × (kind_binds rules c class e.kind r ≡ Some path)
first-binding rules c class [] r path h = absurd (no_some path h)
first-binding rules c class (x ∷ xs) r path h = go (λ g. first-binding rules c class xs r path g) (kind_binds rules c class x.kind r) refl h where
  go : (first_binds rules c class xs r ≡ Some path → (j : ℕ) × (e : Entry) × (slice_get xs j ≡ Some e) × (kind_binds rules c class e.kind r ≡ Some path))
      → (o : Option (List Place)) → kind_binds rules c class x.kind r ≡ o → first_some o (first_binds rules c class xs r) ≡ Some path
      → (j : ℕ) × (e : Entry) × (slice_get (x ∷ xs) j ≡ Some e) × (kind_binds rules c class e.kind r ≡ Some path)
  go later None is h = let w = later h in (suc w.0, w.1, w.2, w.3)
  go later (Some p) is h = (0, x, refl, is ∙ h)

-- An instance of a class binds a resource: its interface has an id on the class's track, and lists the resource as its own.
pub record IsTracked (rules : NameRules) (c : Collection) (class : Name) (i : InterfaceId) (r : ResourceId) (path : List Place) : Type 0 where
  pub interface : Interface
  pub there : item_at c.interfaces i.0 ≡ Some interface
  pub id : Name
  pub has : interface.id ≡ Some id
  pub track : same_track (rules.track id) (rules.track class) ≡ true
  pub name : Name
  pub own : own_name c interface.uses interface.exports r ≡ Some name
  pub is : path ≡ named name ∷ []

module _ (rules : NameRules) (c : Collection) (class : Name) (r : ResourceId) where
  abbrev under_name : Option Name → Option (List Place)
  under_name o = option_case o None (λ n. Some (named n ∷ []))

  abbrev by_id : Interface → Name → Option (List Place)
  by_id it id = cond (same_track (rules.track id) (rules.track class)) (under_name (own_name c it.uses it.exports r)) None

  pub instance-binds : (i : InterfaceId) (path : List Place) → kind_binds rules c class (kind.Instance i) r ≡ Some path → IsTracked rules c class i r path
  instance-binds i path h = on (item_at c.interfaces i.0) refl h where
    last : (it : Interface) (id : Name) → item_at c.interfaces i.0 ≡ Some it → it.id ≡ Some id → same_track (rules.track id) (rules.track class) ≡ true
        → (o : Option Name) → own_name c it.uses it.exports r ≡ o → under_name o ≡ Some path → IsTracked rules c class i r path
    last it id at has track None own h = absurd (no_some path h)
    last it id at has track (Some n) own h =
        record { interface = it; there = at; id = id; has = has; track = track; name = n; own = own; is = sym (some_same (named n ∷ []) path h) }

    tracked : (it : Interface) (id : Name) → item_at c.interfaces i.0 ≡ Some it → it.id ≡ Some id → (b : Bool) → same_track (rules.track id) (rules.track class) ≡ b
        → cond b (under_name (own_name c it.uses it.exports r)) None ≡ Some path → IsTracked rules c class i r path
    tracked it id at has true is h = last it id at has is (own_name c it.uses it.exports r) refl h
    tracked it id at has false is h = absurd (no_some path h)

    named_so : (it : Interface) → item_at c.interfaces i.0 ≡ Some it → (o : Option Name) → it.id ≡ o → option_case o None (by_id it) ≡ Some path → IsTracked rules c class i r path
    named_so it at None has h = absurd (no_some path h)
    named_so it at (Some id) has h = tracked it id at has (same_track (rules.track id) (rules.track class)) refl h

    on : (o : Option Interface) → item_at c.interfaces i.0 ≡ o → option_case o None (λ it. option_case it.id None (by_id it)) ≡ Some path → IsTracked rules c class i r path
    on None at h = absurd (no_some path h)
    on (Some it) at h = named_so it at it.id refl h

  -- and where it does, it binds
  pub binds-tracked : (i : InterfaceId) (path : List Place) → IsTracked rules c class i r path → kind_binds rules c class (kind.Instance i) r ≡ Some path
  binds-tracked i path t =
      ap (λ (o : Option Interface). option_case o None (λ it. option_case it.id None (by_id it))) t.there
      ∙ ap (λ (o : Option Name). option_case o None (by_id t.interface)) t.has
      ∙ ap (λ b. cond b (under_name (own_name c (t.interface).uses (t.interface).exports r)) None) t.track
      ∙ ap under_name t.own ∙ ap Some (sym t.is)

-- ---- what is no instance

pub contains-at : {X : Type 0} (xs : List X) (k : ℕ) (x : X) → slice_get xs k ≡ Some x → Contains xs x
contains-at xs k x at = (k, slice_get_within xs k x at, get_or_from_slice_get xs k x x at)

-- what is no instance binds the whole
pub bare-path : (c : Collection) (class : Name) (k : ItemKind) (r : ResourceId) (path : List Place) → is_instance k ≡ false → kind_binds by_names c class k r ≡ Some path → path ≡ []
bare-path c class (kind.Instance i) r path plain e = absurd (false≢true (sym plain))
bare-path c class (kind.TypeItem (ty.Resource q)) r path plain e = by ((q.0 == r.0) && not (is_alias c q)) e where
  by : (b : Bool) → cond b (Some []) None ≡ Some path → path ≡ []
  by true e = sym (some_same [] path e)
  by false e = absurd (no_some path e)
bare-path c class (kind.TypeItem (ty.Func q)) r path plain e = absurd (no_some path e)
bare-path c class (kind.TypeItem (ty.Value q)) r path plain e = absurd (no_some path e)
bare-path c class (kind.TypeItem (ty.Interface q)) r path plain e = absurd (no_some path e)
bare-path c class (kind.TypeItem (ty.World q)) r path plain e = absurd (no_some path e)
bare-path c class (kind.TypeItem (ty.Module q)) r path plain e = absurd (no_some path e)
bare-path c class (kind.Func q) r path plain e = absurd (no_some path e)
bare-path c class (kind.Component q) r path plain e = absurd (no_some path e)
bare-path c class (kind.Module q) r path plain e = absurd (no_some path e)
bare-path c class (kind.Value q) r path plain e = absurd (no_some path e)

-- the resource that a type item is binds itself
pub whole-binds : (c : Collection) (class : Name) (q r : ResourceId) (path : List Place) → kind_binds by_names c class (kind.TypeItem (ty.Resource q)) r ≡ Some path → (q ≡ r) × (resource_itself c (kind.TypeItem (ty.Resource q)) ≡ Some q)
whole-binds c class q r path e = by (q.0 == r.0) (is_alias c q) refl e where
  by : (b a : Bool) → (q.0 == r.0) ≡ b → cond (b && not a) (Some []) None ≡ Some path → (q ≡ r) × (cond a None (Some q) ≡ Some q)
  by true true same e = absurd (no_some path e)
  by true false same e = let id = eqb-true q.0 r.0 same in (λ i. record { 0 = id i }, refl)
  by false a same e = absurd (no_some path e)

-- what is neither binds nothing
pub other-binds : (c : Collection) (class : Name) (k : ItemKind) (r : ResourceId) (path : List Place) → is_instance k ≡ false → resource_itself c k ≡ None → kind_binds by_names c class k r ≡ Some path → ⊥
other-binds c class (kind.Instance i) r path plain none e = false≢true (sym plain)
other-binds c class (kind.TypeItem (ty.Resource q)) r path plain none e = no_some q (sym none ∙ (whole-binds c class q r path e).1)
other-binds c class (kind.TypeItem (ty.Func q)) r path plain none e = no_some path e
other-binds c class (kind.TypeItem (ty.Value q)) r path plain none e = no_some path e
other-binds c class (kind.TypeItem (ty.Interface q)) r path plain none e = no_some path e
other-binds c class (kind.TypeItem (ty.World q)) r path plain none e = no_some path e
other-binds c class (kind.TypeItem (ty.Module q)) r path plain none e = no_some path e
other-binds c class (kind.Func q) r path plain none e = no_some path e
other-binds c class (kind.Component q) r path plain none e = no_some path e
other-binds c class (kind.Module q) r path plain none e = no_some path e
other-binds c class (kind.Value q) r path plain none e = no_some path e

-- a class whose members are neither instances nor resources binds nothing
pub bare-class : (c : Collection) (es : List Entry) (class : Name) → ((e : Entry) → Contains (members by_names es class) e → (is_instance e.kind ≡ false) × (resource_itself c e.kind ≡ None))
    → (r : ResourceId) → class_binds by_names c es class r ≡ None
bare-class c es class bare r = go (class_binds by_names c es class r) refl where
  go : (o : Option (List Place)) → class_binds by_names c es class r ≡ o → o ≡ None
  go None e = refl
  go (Some path) e =
      let w = first-binding by_names c class (members by_names es class) r path e in
      let b = bare w.1 (contains-at (members by_names es class) w.0 w.1 w.2) in
      absurd (other-binds c class (w.1).kind r path b.0 b.1 w.3)

-- ---- a class of instances

module _ (c m : Collection) (roots : List (List InterfaceId)) (us : List Union) (ps : List Part) (bs : ClassBindings) (f : Fresh)
    (once : AreListedOnce c ps) (unions : AreUnions c roots us ps) (fresh : AreFresh c us bs f m) where
  -- what a member binds is an own resource of the class's union
  pub record IsOwnOf (k : ℕ) (path : List Place) : Type 0 where
    pub name : Name
    pub is : path ≡ named name ∷ []
    pub resource : ResourceId
    pub own : own_in f k name ≡ Some resource

  pub instances-own : (es : List Entry) (k : ℕ) (class : Name) (is : List InterfaceId) → slice_get roots k ≡ Some is → AreInstancesOf (members by_names es class) is
      → (r : ResourceId) (path : List Place) → class_binds by_names c es class r ≡ Some path → IsOwnOf k path
  instances-own es k class is at are r path binds =
      let w = first-binding by_names c class (members by_names es class) r path binds in
      let z = zip-left (λ (e : Entry) (i : InterfaceId). e.kind ≡ kind.Instance i) (members by_names es class) is w.0 w.1 are w.2 in
      let u = unions.rooted k is at in
      let q = zip-left (λ (i : InterfaceId) (q : ℕ). slice_get ps q ≡ Some (part i None k)) is (u.0).parts.items w.0 z.0 u.2 z.1 in
      by z.0 q.0 q.2 (instance-binds by_names c class r z.0 path (ap (λ (x : ItemKind). kind_binds by_names c class x r) (sym z.2) ∙ w.3))
    where
      by : (i : InterfaceId) (q : ℕ) → slice_get ps q ≡ Some (part i None k) → IsTracked by_names c class i r path → IsOwnOf k path
      by i q there t =
          let o = part-owns c ps once q (part i None k) t.interface there t.there m roots us bs f unions fresh r t.name t.own in
          record { name = t.name; is = t.is; resource = o.0; own = o.1 }
