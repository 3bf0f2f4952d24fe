-- Entries that agree: their kinds, and the names of the resources that they are.
use Rattle.std.proofs.Common.{◌≡◌, ℕ, Bool, true, false, cond, List, [], ◌∷◌, length, map, slice_get, Option, Some, None, refl, sym, ap, ◌∙◌, subst, inl, inr, arith}
use Rattle.std.proofs.lemmas.Bool.{cases_Bool, cases_lt, false≢true}
use Rattle.wac_types_shapes.specs.primitives.Name.{Name, same_name, option_case}
use Rattle.wac_types_shapes.specs.primitives.Tree.{TypeTree, Place, absent, named, resource, type_equal, instance, instance_item}
use Rattle.wac_types_collection.specs.collection.Collection.{Collection, holds_type, item_of}
use Rattle.wac_types_shapes.specs.shapes.Kinds.{kind_type}
use Rattle.wac_types_collection.specs.collection.Held.{items_under, item_tree, resolved, source_of, unfolded}
use Rattle.wac_types_collection.specs.collection.Bound.{is_alias}
use Rattle.wac_types_collection.specs.declared.collection.collection.Held.{Held}
use Rattle.wac_types_shapes.specs.declared.shapes.component.Interface.{Interface}
use Rattle.wac_types_shapes.specs.declared.shapes.component.ResourceId.{ResourceId}
use Rattle.wac_types_shapes.specs.declared.shapes.component.«Type».TheVariants as ty
use Rattle.wac_types_shapes.specs.declared.shapes.component.ItemKind.{ItemKind}
use Rattle.wac_types_shapes.specs.declared.shapes.component.ItemKind.TheVariants as kind
use Rattle.wac_types_shapes.proofs.lemmas.shapes.Names.{element_at, same_name-false, same_name-true}
use Rattle.wac_types_collection.specs.subtyping.Called.{Called, bound_at, by_binding, itself, of_class, resource_name}
use Rattle.wac_merge_classes.specs.entries.Agreement.{Agree, called_inside, compared}
use Rattle.wac_merge_classes.specs.entries.Binding.{binding_class, class_binds, kind_binds}
use Rattle.wac_merge_classes.specs.entries.Bindings.{AreHeld}
use Rattle.wac_merge_classes.specs.entries.Classes.{Entry, by_names, is_instance, members, same_class}
use Rattle.wac_merge_classes.specs.terms.NoDisagreement.{HasNoDisagreement}
use Rattle.wac_merge_classes.specs.private.terms.MergedKinds.{AreNamedAlike, AreNoInstances}
use Rattle.wac_merge_classes.specs.entries.Places.{resource_itself}
use Rattle.wac_merge_imports.proofs.lemmas.fitting.BecameEnds.{no-source}
use Rattle.wac_merge_classes.proofs.lemmas.entries.ClassFacts.{class-sym, class-trans}
use Rattle.wac_merge_classes.proofs.lemmas.terms.Alike.{agree_at}
use Rattle.wac_merge_classes.proofs.lemmas.terms.Found.{no_some, some_same}
use Rattle.wac_merge_imports.proofs.lemmas.fitting.FittingClasses.{first-binding, instance-binds, whole-binds}
use Rattle.wac_merge_imports.proofs.lemmas.fitting.FittingOwn.{no-value}
use Rattle.wac_merge_classes.proofs.lemmas.entries.Lists.{some-at}
use Rattle.wac_merge_imports.proofs.lemmas.fitting.MergedBindingsClasses.{filter-at}
use Rattle.wac_merge_classes.proofs.lemmas.entries.Opening.{below}

-- ---- what an instance is compared as is no other item

other-apart : (c : Collection) (es : List Entry) (class : Name) (k : ItemKind) (t : TypeTree Called) → is_instance k ≡ false → Agree (compared by_names c es class k) (instance_item t) → ⊥
other-apart c es class (kind.Instance i) t plain h = false≢true (sym plain)
other-apart c es class (kind.TypeItem a) t plain h = cc
other-apart c es class (kind.Func a) t plain h = cc
other-apart c es class (kind.Component a) t plain h = cc
other-apart c es class (kind.Module a) t plain h = cc
other-apart c es class (kind.Value a) t plain h = cc

apart-other : (c : Collection) (es : List Entry) (class : Name) (k : ItemKind) (t : TypeTree Called) → is_instance k ≡ false → Agree (instance_item t) (compared by_names c es class k) → ⊥
apart-other c es class (kind.Instance i) t plain h = false≢true (sym plain)
apart-other c es class (kind.TypeItem a) t plain h = cc
apart-other c es class (kind.Func a) t plain h = cc
apart-other c es class (kind.Component a) t plain h = cc
apart-other c es class (kind.Module a) t plain h = cc
apart-other c es class (kind.Value a) t plain h = cc

instance-compared : (c : Collection) (es : List Entry) (class : Name) (k : ItemKind) → holds_type c (kind_type k) ≡ true → is_instance k ≡ true → (t : TypeTree Called) × (compared by_names c es class k ≡ instance_item t)
instance-compared c es class (kind.Instance i) held t =
    let h = some-at c.interfaces i.0 (below i.0 (length c.interfaces) held) in
    (tree (h.0).item, ap (λ (o : Option (Held Interface)). option_case (item_of o) absent (λ it. instance_item (tree it))) h.1)
  where
    tree : Interface → TypeTree Called
    tree it = instance (items_under (map (λ e. (e.0, item_tree (unfolded (by_binding c) c (called_inside by_names c es class it)) false e.1)) it.exports))
instance-compared c es class (kind.TypeItem a) held t = absurd (false≢true t)
instance-compared c es class (kind.Func a) held t = absurd (false≢true t)
instance-compared c es class (kind.Component a) held t = absurd (false≢true t)
instance-compared c es class (kind.Module a) held t = absurd (false≢true t)
instance-compared c es class (kind.Value a) held t = absurd (false≢true t)

-- ---- what a resource is compared as has its name

abbrev name-of : TypeTree Called → Name
name-of (type_equal (resource (bound_at l n))) = n
name-of (type_equal (resource (of_class k path n))) = n
name-of (type_equal (resource (itself r n))) = n
name-of _ = []

abbrev called-first : Collection → ResourceId → Option (ℕ × List Place) → Called
called-first c r o = option_case o (itself r (resource_name c r)) (λ b. of_class b.0 b.1 (resource_name c r))

named-first : (c : Collection) (r : ResourceId) (o : Option (ℕ × List Place)) → name-of (type_equal (resource (called-first c r o))) ≡ resource_name c r
named-first c r None = refl
named-first c r (Some b) = refl

whole-compared : (c : Collection) (es : List Entry) (class : Name) (r : ResourceId) → is_alias c r ≡ false
    → compared by_names c es class (kind.TypeItem (ty.Resource r)) ≡ type_equal (resource (called-first c r (binding_class by_names c es r)))
whole-compared c es class r plain =
    let end : resolved c r ≡ r = no-source c (length c.resources) r (no-value (source_of (slice_get c.resources r.0)) plain) in
    ap (λ (q : ResourceId). type_equal (resource (called-first c q (binding_class by_names c es q)))) end

no-path : (n : Name) (path : List Place) → [] ≡ named n ∷ path → ⊥
no-path n path e = cc

module _ (c : Collection) (es : List Entry) (agreed : HasNoDisagreement by_names c es) where
  -- two entries of a class do not disagree
  pair : (P : Entry → Entry → Type 0) → ((a : Entry) → P a a) → ((a b : Entry) → P a b → P b a)
      → ((i j : ℕ) (a b : Entry) → slice_get es i ≡ Some a → slice_get es j ≡ Some b → same_class by_names es a.name b.name ≡ true
      → ((Agree (compared by_names c es a.name a.kind) (compared by_names c es a.name b.kind) → ⊥) → ⊥) → P a b)
      → (i j : ℕ) (a b : Entry) → slice_get es i ≡ Some a → slice_get es j ≡ Some b → same_class by_names es a.name b.name ≡ true → P a b
  pair P with-itself turned step i j a b first last one = elim (cases_lt i j) [
    | inl less ↦ step i j a b first last one (λ apart. agreed i j (record { earlier = a; later = b; at_first = first; at_second = last; before = less; one_class = one; apart = apart }))
    | inr ge ↦ elim (cases_lt j i) [
      | inl less ↦
          let back = class-sym by_names es a.name b.name one in
          turned b a (step j i b a last first back (λ apart. agreed j i (record { earlier = b; later = a; at_first = last; at_second = first; before = less; one_class = back; apart = apart })))
      | inr le ↦
          let same : i ≡ j = omega (arith, ge, le) in
          subst (λ (x : Entry). P a x) (some_same a b (sym first ∙ ap (slice_get es) same ∙ last)) (with-itself a)
    ]
  ]

  -- both are instances, or none is
  pub kinds-agree : AreHeld c es → (i j : ℕ) (a b : Entry) → slice_get es i ≡ Some a → slice_get es j ≡ Some b → same_class by_names es a.name b.name ≡ true → is_instance a.kind ≡ is_instance b.kind
  kinds-agree held = pair (λ a b. is_instance a.kind ≡ is_instance b.kind) (λ a. refl) (λ a b e. sym e) step where
    step : (i j : ℕ) (a b : Entry) → slice_get es i ≡ Some a → slice_get es j ≡ Some b → same_class by_names es a.name b.name ≡ true
        → ((Agree (compared by_names c es a.name a.kind) (compared by_names c es a.name b.kind) → ⊥) → ⊥) → is_instance a.kind ≡ is_instance b.kind
    step i j a b first last one never = elim (cases_Bool (is_instance a.kind)) [
      | inl t ↦ elim (cases_Bool (is_instance b.kind)) [
        | inl u ↦ t ∙ sym u
        | inr f ↦
            let x = instance-compared c es a.name a.kind (held i a first) t in
            absurd (never (λ h. apart-other c es a.name b.kind x.0 f (agree_at (instance_item x.0) (compared by_names c es a.name b.kind) (compared by_names c es a.name a.kind) (compared by_names c es a.name b.kind) (sym x.1) refl h)))
      ]
      | inr n ↦ elim (cases_Bool (is_instance b.kind)) [
        | inl u ↦
            let x = instance-compared c es a.name b.kind (held j b last) u in
            absurd (never (λ h. other-apart c es a.name a.kind x.0 n (agree_at (compared by_names c es a.name a.kind) (instance_item x.0) (compared by_names c es a.name a.kind) (compared by_names c es a.name b.kind) refl (sym x.1) h)))
        | inr f ↦ n ∙ sym f
      ]
    ]

  -- so all members of a class are instances, or none is
  pub members-agree : AreHeld c es → (class : Name) (i j : ℕ) (a b : Entry) → slice_get (members by_names es class) i ≡ Some a → slice_get (members by_names es class) j ≡ Some b → is_instance a.kind ≡ is_instance b.kind
  members-agree held class i j a b first last =
      let x = filter-at (λ (e : Entry). same_class by_names es class e.name) es i a first in
      let y = filter-at (λ (e : Entry). same_class by_names es class e.name) es j b last in
      kinds-agree held x.1 y.1 a b x.2 y.2 (class-trans by_names es a.name class b.name (class-sym by_names es class a.name x.0) y.0)

  -- the members of a class that is a resource are no instances
  pub whole-no-instances : AreHeld c es → (class : Name) (r : ResourceId) → class_binds by_names c es class r ≡ Some [] → AreNoInstances (members by_names es class)
  whole-no-instances held class r binds e (j, lt, at) =
      let w = first-binding by_names c class (members by_names es class) r [] binds in
      members-agree held class j w.0 e w.1 (element_at (members by_names es class) j e lt ∙ ap Some at) w.2 ∙ by (w.1).kind w.3
    where
      by : (k : ItemKind) → kind_binds by_names c class k r ≡ Some [] → is_instance k ≡ false
      by (kind.Instance i) h = let t = instance-binds by_names c class r i [] h in absurd (no-path t.name [] t.is)
      by (kind.TypeItem t) h = refl
      by (kind.Func t) h = refl
      by (kind.Component t) h = refl
      by (kind.Module t) h = refl
      by (kind.Value t) h = refl

  -- ---- the resources that a class is

  module _ (class : Name) where
    -- an entry that is the resource
    pub record IsWhole (e : Entry) (r : ResourceId) : Type 0 where
      pub is : e.kind ≡ kind.TypeItem (ty.Resource r)
      pub plain : is_alias c r ≡ false
      pub inside : same_class by_names es class e.name ≡ true
      pub binds : class_binds by_names c es class r ≡ Some []

    plain-resource : (q : ResourceId) → resource_itself c (kind.TypeItem (ty.Resource q)) ≡ Some q → is_alias c q ≡ false
    plain-resource q e = by (is_alias c q) e where
      by : (b : Bool) → cond b None (Some q) ≡ Some q → b ≡ false
      by true e = absurd (no_some q e)
      by false e = refl

    -- a class that is a resource has one
    pub whole-entry : (r : ResourceId) → class_binds by_names c es class r ≡ Some [] → (i : ℕ) × (e : Entry) × (slice_get es i ≡ Some e) × IsWhole e r
    whole-entry r binds =
        let w = first-binding by_names c class (members by_names es class) r [] binds in
        let x = filter-at (λ (e : Entry). same_class by_names es class e.name) es w.0 w.1 w.2 in
        (x.1, w.1, x.2, by w.1 x.0 (w.1).kind refl w.3)
      where
        by : (e : Entry) → same_class by_names es class e.name ≡ true → (k : ItemKind) → e.kind ≡ k → kind_binds by_names c class k r ≡ Some [] → IsWhole e r
        by e inside (kind.Instance i) is h = let t = instance-binds by_names c class r i [] h in absurd (no-path t.name [] t.is)
        by e inside (kind.TypeItem (ty.Resource q)) is h =
            let t = whole-binds c class q r [] h in
            record { is = is ∙ ap (λ (x : ResourceId). kind.TypeItem (ty.Resource x)) t.0; plain = subst (λ (x : ResourceId). is_alias c x ≡ false) t.0 (plain-resource q t.1); inside = inside; binds = binds }
        by e inside (kind.TypeItem (ty.Func q)) is h = absurd (no_some [] h)
        by e inside (kind.TypeItem (ty.Value q)) is h = absurd (no_some [] h)
        by e inside (kind.TypeItem (ty.Interface q)) is h = absurd (no_some [] h)
        by e inside (kind.TypeItem (ty.World q)) is h = absurd (no_some [] h)
        by e inside (kind.TypeItem (ty.Module q)) is h = absurd (no_some [] h)
        by e inside (kind.Func q) is h = absurd (no_some [] h)
        by e inside (kind.Component q) is h = absurd (no_some [] h)
        by e inside (kind.Module q) is h = absurd (no_some [] h)
        by e inside (kind.Value q) is h = absurd (no_some [] h)

    one-resource : (r q : ResourceId) → kind.TypeItem (ty.Resource r) ≡ kind.TypeItem (ty.Resource q) → r ≡ q
    one-resource r q e = cc

    wholes-named : (i j : ℕ) (a b : Entry) → slice_get es i ≡ Some a → slice_get es j ≡ Some b → same_class by_names es a.name b.name ≡ true
        → (r q : ResourceId) → IsWhole a r → IsWhole b q → resource_name c r ≡ resource_name c q
    wholes-named = pair (λ a b. (r q : ResourceId) → IsWhole a r → IsWhole b q → resource_name c r ≡ resource_name c q)
        (λ a r q x y. ap (resource_name c) (one-resource r q (sym x.is ∙ y.is))) (λ a b f r q x y. sym (f q r y x)) step
      where
        compared-as : (name : Name) (e : Entry) (r : ResourceId) → IsWhole e r → compared by_names c es name e.kind ≡ type_equal (resource (called-first c r (binding_class by_names c es r)))
        compared-as name e r x = ap (compared by_names c es name) x.is ∙ whole-compared c es name r x.plain

        step : (i j : ℕ) (a b : Entry) → slice_get es i ≡ Some a → slice_get es j ≡ Some b → same_class by_names es a.name b.name ≡ true
            → ((Agree (compared by_names c es a.name a.kind) (compared by_names c es a.name b.kind) → ⊥) → ⊥)
            → (r q : ResourceId) → IsWhole a r → IsWhole b q → resource_name c r ≡ resource_name c q
        step i j a b first last one never r q x y = elim (cases_Bool (same_name (resource_name c r) (resource_name c q))) [
          | inl t ↦ same_name-true (resource_name c r) (resource_name c q) t
          | inr f ↦ absurd (never (λ h.
              let t = type_equal (resource (called-first c r (binding_class by_names c es r))) in
              let u = type_equal (resource (called-first c q (binding_class by_names c es q))) in
              let same : t ≡ u = agree_at t u (compared by_names c es a.name a.kind) (compared by_names c es a.name b.kind) (sym (compared-as a.name a r x)) (sym (compared-as a.name b q y)) h in
              same_name-false (resource_name c r) (resource_name c q) f (sym (named-first c r (binding_class by_names c es r)) ∙ (ap name-of same ∙ named-first c q (binding_class by_names c es q)))))
        ]

  -- they have one name
  pub names-agree : AreNamedAlike c es
  names-agree k class r q at first last =
      let x = whole-entry class r first in
      let y = whole-entry class q last in
      let a = (x.3).inside in
      let b = (y.3).inside in
      wholes-named class x.0 y.0 x.1 y.1 x.2 y.2 (class-trans by_names es (x.1).name class (y.1).name (class-sym by_names es class (x.1).name a) b) r q x.3 y.3
