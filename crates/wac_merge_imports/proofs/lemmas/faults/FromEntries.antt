-- What is free in an import is bound, or it is what something free in an entry of its class became.
use Rattle.std.proofs.Common.{◌≡◌, ℕ, Bool, true, false, if◌then◌else◌, List, [], ◌∷◌, fold, map, length, slice_get, Contains, Option, Some, None, refl, sym, ap, ◌∙◌, subst, arith, ◌⊎◌, inl, inr}
use Rattle.std.proofs.lemmas.Bool.{false≢true}
use Rattle.std.proofs.lemmas.Option.{MatchOption-at_none, slice_get_within}
use Rattle.wac_types_shapes.specs.primitives.Name.{Name, option_case}
use Rattle.wac_types_shapes.specs.primitives.Tree.{Leaf, Place, TypeTree, absent, imported, instance, named, position, resource, type_equal}
use Rattle.wac_types_shapes.specs.shapes.Kinds.{kind_type}
use Rattle.wac_types_shapes.specs.declared.shapes.component.InterfaceId.{InterfaceId}
use Rattle.wac_types_shapes.specs.declared.shapes.component.ItemKind.{ItemKind}
use Rattle.wac_types_shapes.specs.declared.shapes.component.ItemKind.TheVariants as kind
use Rattle.wac_types_shapes.specs.declared.shapes.component.ResourceId.{ResourceId}
use Rattle.wac_types_shapes.specs.declared.shapes.component.«Type».{«Type» as AnyType}
use Rattle.wac_types_shapes.specs.declared.shapes.component.«Type».TheVariants as ty
use Rattle.wac_types_collection.specs.collection.Collection.{Collection, HasInterface, HasResource, IsWellFormed, holds_type, item_at}
use Rattle.wac_types_collection.specs.collection.Held.{resolved, source_of, unfolded}
use Rattle.wac_types_collection.specs.collection.Bound.{Bindings, is_alias}
use Rattle.wac_types_collection.specs.subtyping.Called.{Called, by_binding}
use Rattle.wac_types_collection.proofs.lemmas.reach.Reaching.{mentioned_held}
use Rattle.wac_types_collection.proofs.lemmas.subtyping.Trees.{deep_enough}
use Rattle.wac_types_collection.proofs.lemmas.wide.Members.{at_in, in_at, in_either, in_first, in_none, in_one, in_rest}
use Rattle.wac_encode_faults.specs.Free.{IsFree, in_part, in_export}
use Rattle.wac_encode_faults.specs.Free as free
use Rattle.wac_merge_classes.specs.declared.terms.fresh.Fresh.{Fresh}
use Rattle.wac_merge_classes.specs.declared.terms.parts.Part.{Part}
use Rattle.wac_merge_classes.specs.declared.terms.parts.Union.{Union}
use Rattle.wac_merge_classes.specs.entries.Agreement.{called_outside, compared}
use Rattle.wac_merge_classes.specs.entries.Binding.{kind_binds, root_bindings}
use Rattle.wac_merge_classes.specs.entries.Bindings.{ClassBindings, path_in}
use Rattle.wac_merge_classes.specs.entries.Classes.{Entry, by_names, class_names, is_instance, members, same_class}
use Rattle.wac_merge_classes.specs.entries.Places.{resource_itself}
use Rattle.wac_merge_classes.specs.terms.Became.{became, became_in_class, became_outside, became_to, new_at, or_itself, own_in, own_of_part, whole_in}
use Rattle.wac_merge_classes.specs.terms.Merge.{position_in}
use Rattle.wac_merge_classes.specs.terms.Renaming.{AreEnds, Fits, IsRenamed}
use Rattle.wac_merge_classes.specs.terms.Unions.{part}
use Rattle.wac_merge_classes.specs.terms.Writing.{IsAliasOf, IsWrittenAs}
use Rattle.wac_merge_classes.specs.private.terms.MergedKinds.{AreMergedKinds, AreNoInstances, IsMergedKind, as_instance, as_other, as_resource}
use Rattle.wac_merge_classes.proofs.lemmas.entries.Lists.{some-at}
use Rattle.wac_merge_classes.proofs.lemmas.entries.Opening.{below}
use Rattle.wac_merge_classes.proofs.lemmas.terms.Found.{no_some, one_some}
use Rattle.wac_merge_trees.proofs.lemmas.trees.UnionTreesClasses.{members_agree}
use Rattle.wac_merge_trees.proofs.lemmas.trees.UnionTreesHeld.{called_interface, interface_there}
use Rattle.wac_merge_trees.proofs.lemmas.trees.UnionTreesKinds.{MustAgree}
use Rattle.wac_merge_trees.proofs.lemmas.trees.UnionTreesOwn.{alias_end, alias_resolved}
use Rattle.wac_merge_imports.specs.unions.MergedClasses.{class_roots, with_root}
use Rattle.wac_merge_imports.proofs.lemmas.fitting.FittingClasses.{bare-class, first-binding, instance-binds, instances-own, whole-binds}
use Rattle.wac_merge_imports.proofs.lemmas.fitting.FittingOwn.{itself-no-alias, no-value, zip-right}
use Rattle.wac_merge_imports.proofs.lemmas.fitting.FittingParts.{own-listed}
use Rattle.wac_merge_imports.proofs.lemmas.fitting.FittingSteps.{first-class, in-part-around}
use Rattle.wac_merge_imports.proofs.lemmas.fitting.MergedBindings.{merged-bindings}
use Rattle.wac_merge_imports.proofs.lemmas.fitting.MergedBindingsClasses.{filter-at, filter-has}
use Rattle.wac_merge_imports.proofs.lemmas.unions.Assembled.{AreAssembled}
use Rattle.wac_merge_imports.proofs.lemmas.unions.AssembledKinds.{none-disagrees}
use Rattle.wac_merge_imports.proofs.lemmas.faults.FreeTrees.{IsOfValues, end_of, part_mentioned, renamed_free}
use Rattle.wac_merge_imports.proofs.lemmas.faults.Kept.{exports_held}
use Rattle.wac_merge_imports.proofs.lemmas.faults.Coming.{Comes, comes_of, name_is, none_of_world, not_own, part_interface}

-- ---- what is free is the end of a resource's aliases

module _ (c : Collection) (wf : IsWellFormed c) where
  abbrev IsEndOf : ResourceId → Type 0
  IsEndOf s = (r : ResourceId) × HasResource c r × (s ≡ resolved c r)

  pub held_end : (t : AnyType) (s : ResourceId) → IsFree c t s → holds_type c t ≡ true → IsEndOf s
  held_end _ _ (free.itself r) held = (r, below r.0 (length c.resources) held, refl)
  held_end t s (in_part _ u _ there more) held = held_end u s more (mentioned_held c wf t u held (part_mentioned c t u there))
  held_end _ s (in_export i it n k _ there listed own more) held = held_end (kind_type k) s more (exports_held c wf i it held there n k listed)

-- ---- the interfaces that a class unites are those of its entries

with_root_from : (before : List InterfaceId) (k : ItemKind) (i : InterfaceId) → Contains (with_root before k) i → Contains before i ⊎ (kind_type k ≡ ty.Interface i)
with_root_from before (kind.Instance j) i h = elim (in_either before (j ∷ []) i h) [ inl a ↦ inl a | inr b ↦ inr (ap ty.Interface (sym (in_one j i b))) ]
with_root_from [] (kind.TypeItem (ty.Interface j)) i h = inr (ap ty.Interface (sym (in_one j i h)))
with_root_from (x ∷ xs) (kind.TypeItem (ty.Interface j)) i h = inl h
with_root_from [] k i h = inl h
with_root_from (x ∷ xs) k i h = inl h

abbrev IsOfOne : List Entry → InterfaceId → Type 0
IsOfOne xs i = (e : Entry) × Contains xs e × (kind_type e.kind ≡ ty.Interface i)

roots_from : (xs : List Entry) (before : List InterfaceId) (i : InterfaceId) → Contains (fold with_root before (map (λ e. e.kind) xs)) i → Contains before i ⊎ IsOfOne xs i
roots_from [] before i h = inl h
roots_from (x ∷ xs) before i h = elim (roots_from xs (with_root before x.kind) i h) [
  | inl a ↦ elim (with_root_from before x.kind i a) [ inl b ↦ inl b | inr is ↦ inr (x, in_first x xs, is) ]
  | inr w ↦ inr (w.0, in_rest x w.0 xs w.1, w.2)
]

-- an interface is compared as no resource is
kinds-apart : (t : TypeTree Called) (g : Name → TypeTree Called) (o : Option Called) → t ≡ instance g → type_equal t ≡ type_equal (option_case o absent resource) → ⊥
kinds-apart t g None is e = let same : t ≡ absent = cc in cc
kinds-apart t g (Some l) is e = let same : t ≡ resource l = cc in cc

module _ (c m : Collection) (es : List Entry) (roots : List (List InterfaceId)) (us : List Union) (ps : List Part) (bs : ClassBindings) (f : Fresh) (ids : List (Option Name)) (ws : List InterfaceId) (order : List ℕ) (imports : List Entry)
    (all : AreAssembled c m es roots us ps bs f ids ws order imports) (are : AreMergedKinds c es roots f m ids ws order imports) (ends : (o : Option ℕ) → AreEnds c m (became c ps bs f o)) where
  abbrev root : Bindings
  root = root_bindings by_names c es (position_in order)

  abbrev around : Bindings
  around = root_bindings by_names m imports (λ i. i)

  fits : Fits c root around (became c ps bs f None)
  fits = merged-bindings c m es roots us ps bs f ids ws all.merged order imports are

  -- The imports bind the resource.
  abbrev pub IsBound : ResourceId → Type 0
  IsBound q = (l : Leaf) × (around q ≡ Some l)

  -- A resource that is free in an entry of the class is bound as this one is.
  abbrev pub IsOfEntry : Name → ResourceId → Type 0
  IsOfEntry class q = (e : Entry) × Contains (members by_names es class) e × (s : ResourceId) × IsFree c (kind_type e.kind) s × (around q ≡ root s)

  outside_same : (s q : ResourceId) → IsEndOf c all.merged.source s → became_outside bs f s ≡ q → around q ≡ root s
  outside_same s q end becomes = ap around (sym becomes) ∙ subst (λ z. around (became_outside bs f z) ≡ root z) (sym end.2) (fits end.0 end.1)

  module _ (k : ℕ) (class : Name) (numbered : slice_get (class_names by_names es) k ≡ Some class) where
    member_held : (e : Entry) → Contains (members by_names es class) e → holds_type c (kind_type e.kind) ≡ true
    member_held e h =
        let j = in_at (members by_names es class) e h in
        let x = filter-at (λ (y : Entry). same_class by_names es class y.name) es j.0 e j.2 in
        all.held x.1 e x.2

    of_member : (e : Entry) → Contains (members by_names es class) e → (s q : ResourceId) → IsFree c (kind_type e.kind) s → became_outside bs f s ≡ q → IsOfEntry class q
    of_member e h s q is becomes = (e, h, s, is, outside_same s q (held_end c all.merged.source (kind_type e.kind) s is (member_held e h)) becomes)

    -- ---- a new resource

    no_alias : (r : ResourceId) (b : Bool) → is_alias c r ≡ b → (if b then None else Some r) ≡ Some r → is_alias c r ≡ false
    no_alias r true is h = absurd (no_some r h)
    no_alias r false is h = is

    binder : (x : ItemKind) (name : Name) (r : ResourceId) → holds_type c (kind_type x) ≡ true → kind_binds by_names c name x r ≡ Some [] → HasResource c r × (resolved c r ≡ r)
    binder (kind.Instance i) name r held h = let t = instance-binds by_names c name r i [] h in absurd (never t.name t.is) where
      never : (n : Name) → [] ≡ named n ∷ [] → ⊥
      never n e = cc
    binder (kind.TypeItem (ty.Resource q)) name r held h =
        let x = whole-binds c name q r [] h in
        let plain = no_alias q (is_alias c q) refl x.1 in
        subst (λ z. HasResource c z × (resolved c z ≡ z)) x.0 (below q.0 (length c.resources) held, alias_end c q plain)
    binder (kind.TypeItem (ty.Func t)) name r held h = absurd (no_some [] h)
    binder (kind.TypeItem (ty.Value t)) name r held h = absurd (no_some [] h)
    binder (kind.TypeItem (ty.Interface t)) name r held h = absurd (no_some [] h)
    binder (kind.TypeItem (ty.World t)) name r held h = absurd (no_some [] h)
    binder (kind.TypeItem (ty.Module t)) name r held h = absurd (no_some [] h)
    binder (kind.Func t) name r held h = absurd (no_some [] h)
    binder (kind.Component t) name r held h = absurd (no_some [] h)
    binder (kind.Module t) name r held h = absurd (no_some [] h)
    binder (kind.Value t) name r held h = absurd (no_some [] h)

    whole_bound : (q : ResourceId) → whole_in f k ≡ Some q → IsBound q
    whole_bound q is =
        let new = all.merged.fresh.whole k q is in
        let b = first-class c es bs all.merged.bindings new.0 k [] new.1 in
        let w = first-binding by_names c b.class (members by_names es b.class) new.0 [] b.binds in
        let x = filter-at (λ (y : Entry). same_class by_names es b.class y.name) es w.0 w.1 w.2 in
        let r = binder (w.1).kind b.class new.0 (all.held x.1 w.1 x.2) w.3 in
        let becomes : became_outside bs f new.0 ≡ q = ap (λ (o : Option (ℕ × List Place)). option_case o new.0 (λ b. or_itself new.0 (new_at f b.0 b.1))) new.1 ∙ ap (or_itself new.0) is in
        let bound : root new.0 ≡ Some (record { out = 0; side = imported; path = position (position_in order k) ∷ [] }) =
        ap (λ (o : Option (ℕ × List Place)). option_case o None (λ b. Some (record { out = 0; side = imported; path = position (position_in order b.0) ∷ b.1 }))) (sym (all.merged.bindings.firsts new.0) ∙ new.1) in
        (_, outside_same new.0 q (new.0, r.0, sym r.1) becomes ∙ bound)

    -- ---- the interface of the class's union

    -- what the class binds is the union's own
    abbrev AreOwn : Type 0
    AreOwn = (s : ResourceId) (path : List Place) → path_in bs k s ≡ Some path → (n : Name) × (path ≡ named n ∷ []) × (x : ResourceId) × (own_in f k n ≡ Some x)

    -- an outermost part is the interface of an entry
    pub root_member : (p : ℕ) (y : Part) → slice_get ps p ≡ Some y → y.union ≡ k → IsOfOne (members by_names es class) y.interface × (y.outer ≡ None)
    root_member p y at of =
        let lt = slice_get_within (class_names by_names es) k class numbered in
        let counted = all.rooted.counted in
        let r = some-at roots k (omega (arith, lt, counted)) in
        let u = all.merged.unions.rooted k r.0 r.1 in
        let a = all.merged.unions.within p y at in
        let one : a.0 ≡ u.0 = one_some (slice_get us k) a.0 u.0 (ap (slice_get us) (sym of) ∙ a.1) u.1 in
        let place = in_at (u.0).parts.items p (subst (λ (t : Union). Contains t.parts.items p) one a.2) in
        let i = zip-right (λ (i : InterfaceId) (q : ℕ). slice_get ps q ≡ Some (part i None k)) r.0 (u.0).parts.items place.0 p u.2 place.2 in
        let this : y ≡ part i.0 None k = one_some (slice_get ps p) y (part i.0 None k) at i.2 in
        let there : Contains (class_roots es class) i.0 = subst (λ l. Contains l i.0) (all.rooted.each k class r.0 numbered r.1) (at_in r.0 place.0 i.0 i.1) in
        let e = member i.0 there in
        ((e.0, e.1, e.2 ∙ ap (λ (t : Part). ty.Interface t.interface) (sym this)), ap (λ (t : Part). t.outer) this)
      where
        member : (i : InterfaceId) → Contains (class_roots es class) i → IsOfOne (members by_names es class) i
        member i h = elim (roots_from (members by_names es class) [] i h) [ inl none ↦ absurd (in_none i none) | inr w ↦ w ]

    pub root_union : (u : Union) × (slice_get us k ≡ Some u)
    root_union =
        let lt = slice_get_within (class_names by_names es) k class numbered in
        let counted = all.rooted.counted in
        let r = some-at roots k (omega (arith, lt, counted)) in
        let u = all.merged.unions.rooted k r.0 r.1 in
        (u.0, u.1)

    of_union : (w : InterfaceId) → slice_get ws k ≡ Some w → AreOwn → (q : ResourceId) → IsFree m (ty.Interface w) q → IsOfEntry class q
    of_union w given own q is = let u = root_union in from u.0 u.1 (comes_of c m es roots us ps bs f ids ws all.merged ends (ty.Interface w) q is w refl k u.0 u.1 given) where
      go : (u : Union) → slice_get us k ≡ Some u → (e : Entry) → Contains (members by_names es class) e → (s : ResourceId) → IsFree c (kind_type e.kind) s → became_in_class bs f k s ≡ q → (o : Option (List Place)) → path_in bs k s ≡ o → IsOfEntry class q
      go u at e h s is_free becomes None none = of_member e h s q is_free (sym (ap (λ (o : Option (List Place)). option_case o (became_outside bs f s) (λ path. or_itself s (new_at f k path))) none) ∙ becomes)
      go u at e h s is_free becomes (Some path) bound =
          let x = own s path bound in
          let at_path : became_in_class bs f k s ≡ x.2 =
          ap (λ (o : Option (List Place)). option_case o (became_outside bs f s) (λ path. or_itself s (new_at f k path))) bound ∙ ap (λ l. or_itself s (new_at f k l)) x.1 ∙ ap (or_itself s) x.3 in
          let own_is : own_in f k x.0 ≡ Some q = x.3 ∙ ap Some (sym at_path ∙ becomes) in
          let made = all.merged.written.written k u at in
          let same : made.0 ≡ w = one_some (slice_get ws k) made.0 w made.2 given in
          let here : item_at m.interfaces w.0 ≡ Some made.1 = ap (λ (z : InterfaceId). item_at m.interfaces z.0) (sym same) ∙ made.3 in
          let found = own-listed c m us ps bs f ids ws all.merged.target all.merged.fresh all.merged.written k made.1 (record { from = u; at = at; id = w; given = given; there = here }) q x.0 own_is in
          absurd (no_some x.0 (sym (not_own m (ty.Interface w) q is w made.1 refl here) ∙ found))

      from : (u : Union) → slice_get us k ≡ Some u → Comes c m es roots us ps bs f ids ws all.merged ends k q → IsOfEntry class q
      from u at comes =
          let p = comes.place in
          let y = comes.part_there in
          let s = comes.resource in
          let e = root_member p y comes.at comes.of_union in
          let it = part_interface c m es roots us ps bs f ids ws all.merged ends p y comes.at in
          let none : own_of_part c y s ≡ None = name_is c m es roots us ps bs f ids ws all.merged ends y it.0 s it.1 ∙ not_own c (ty.Interface y.interface) s comes.is_free y.interface it.0 refl it.1 in
          let becomes : became_in_class bs f y.union s ≡ q =
          sym (in-part-around c ps bs f p y comes.at p s none ∙ ap (λ (o : Option ℕ). option_case o (became_in_class bs f y.union s) (λ o. became_to p c ps bs f o s)) e.1) ∙ comes.becomes in
          go u at (e.0).0 (e.0).1 s (subst (λ t. IsFree c t s) (sym (e.0).2) comes.is_free) (subst (λ l. became_in_class bs f l s ≡ q) comes.of_union becomes) (path_in bs k s) refl

    -- ---- what is no instance

    module _ (none : AreNoInstances (members by_names es class)) (e : Entry) (member : Contains (members by_names es class) e) where
      -- beside an interface no entry is a resource
      module _ (i : InterfaceId) (is : e.kind ≡ kind.TypeItem (ty.Interface i)) where
        held : HasInterface c i
        held = below i.0 (length c.interfaces) (subst (λ y. holds_type c (kind_type y) ≡ true) is (member_held e member))

        no-resource : (x : Entry) → Contains (members by_names es class) x → resource_itself c x.kind ≡ None
        no-resource x h = by x.kind refl where
          apart : (r : ResourceId) → x.kind ≡ kind.TypeItem (ty.Resource r) → ⊥
          apart r same =
              let it = interface_there c i held in
              let tree = called_interface c (deep_enough (by_binding c) c all.merged.source) (called_outside by_names c es) i it.0 it.1 in
              let first = in_at (members by_names es class) e member in
              let last = in_at (members by_names es class) x h in
              let agree : MustAgree (compared by_names c es class (kind.TypeItem (ty.Interface i))) (compared by_names c es class (kind.TypeItem (ty.Resource r))) =
              subst (λ y. MustAgree (compared by_names c es class (kind.TypeItem (ty.Interface i))) (compared by_names c es class y)) same
              (subst (λ y. MustAgree (compared by_names c es class y) (compared by_names c es class x.kind)) is (members_agree c es (none-disagrees c es all.agreed) class first.0 last.0 e x first.2 last.2)) in
              agree (λ h. kinds-apart (unfolded (by_binding c) c (called_outside by_names c es) (ty.Interface i)) _ (called_outside by_names c es (resolved c r)) tree h)

          by : (y : ItemKind) → x.kind ≡ y → resource_itself c x.kind ≡ None
          by (kind.TypeItem (ty.Resource r)) same = absurd (apart r same)
          by (kind.TypeItem (ty.Func g)) same = ap (resource_itself c) same
          by (kind.TypeItem (ty.Value g)) same = ap (resource_itself c) same
          by (kind.TypeItem (ty.Interface g)) same = ap (resource_itself c) same
          by (kind.TypeItem (ty.World g)) same = ap (resource_itself c) same
          by (kind.TypeItem (ty.Module g)) same = ap (resource_itself c) same
          by (kind.Instance g) same = ap (resource_itself c) same
          by (kind.Func g) same = ap (resource_itself c) same
          by (kind.Component g) same = ap (resource_itself c) same
          by (kind.Module g) same = ap (resource_itself c) same
          by (kind.Value g) same = ap (resource_itself c) same

        bare : AreOwn
        bare s path h = absurd (no_some path (sym (all.merged.bindings.paths k class s numbered ∙ bare-class c es class (λ x within. (none x within, no-resource x within)) s) ∙ h))

      abbrev outside : ResourceId → ResourceId
      outside = became_outside bs f

      of_alias : (q r a : ResourceId) → e.kind ≡ kind.TypeItem (ty.Resource r) → IsAliasOf m e.name (outside (resolved c r)) a → IsFree m (ty.Resource a) q → IsOfEntry class q
      of_alias q r a is w more =
          let held = below r.0 (length c.resources) (subst (λ y. holds_type c (kind_type y) ≡ true) is (member_held e member)) in
          let end = ends None r held in
          let plain = no-value (source_of (slice_get m.resources (outside (resolved c r)).0)) (itself-no-alias m all.merged.target (outside (resolved c r)) end.0 end.1) in
          let through : resolved m a ≡ outside (resolved c r) = alias_resolved m a (outside (resolved c r)) _ w.there w.is refl plain in
          of_member e member (resolved c r) q (subst (λ y. IsFree c (kind_type y) (resolved c r)) (sym is) (free.itself r)) (sym (end_of m (ty.Resource a) q more a refl ∙ through))

      of_values : (q : ResourceId) (x : ItemKind) (t : AnyType) → e.kind ≡ x → IsOfValues (kind_type x) → IsOfValues t → IsRenamed c m outside (kind_type x) t → IsFree m t q → IsOfEntry class q
      of_values q x t is of_x of_t w more =
          let r = renamed_free c m all.merged.target outside (kind_type x) t w of_x of_t q more in
          of_member e member r.0 q (subst (λ y. IsFree c (kind_type y) r.0) (sym is) r.1) r.2

      of_written : (q : ResourceId) (a l : ItemKind) → e.kind ≡ a → is_instance l ≡ false → IsWrittenAs c m outside (slice_get ws k) e.name a l → IsFree m (kind_type l) q → IsOfEntry class q
      of_written q (kind.TypeItem (ty.Resource r)) (kind.TypeItem (ty.Resource a)) is plain w more = of_alias q r a is w more
      of_written q (kind.TypeItem (ty.Interface i)) (kind.TypeItem (ty.Interface j)) is plain w more = of_union j w (bare i is) q more
      of_written q (kind.TypeItem (ty.Func g)) (kind.TypeItem (ty.Func h)) is plain w more = of_values q (kind.TypeItem (ty.Func g)) (ty.Func h) is tt tt w more
      of_written q (kind.TypeItem (ty.Value g)) (kind.TypeItem (ty.Value h)) is plain w more = of_values q (kind.TypeItem (ty.Value g)) (ty.Value h) is tt tt w more
      of_written q (kind.TypeItem (ty.World g)) (kind.TypeItem (ty.World h)) is plain w more = absurd (none_of_world m (ty.World h) q more (λ r e. cc) (λ i e. cc) refl)
      of_written q (kind.TypeItem (ty.Module g)) (kind.TypeItem (ty.Module h)) is plain w more = absurd (none_of_world m (ty.Module h) q more (λ r e. cc) (λ i e. cc) refl)
      of_written q (kind.Func g) (kind.Func h) is plain w more = of_values q (kind.Func g) (ty.Func h) is tt tt w more
      of_written q (kind.Instance i) (kind.Instance j) is plain w more = absurd (false≢true (sym plain))
      of_written q (kind.Component g) (kind.Component h) is plain w more = absurd (none_of_world m (ty.World h) q more (λ r e. cc) (λ i e. cc) refl)
      of_written q (kind.Module g) (kind.Module h) is plain w more = absurd (none_of_world m (ty.Module h) q more (λ r e. cc) (λ i e. cc) refl)
      of_written q (kind.Value g) (kind.Value h) is plain w more = of_values q (kind.Value g) (ty.Value h) is tt tt w more
      of_written q a l is plain w more = absurd w

  -- What is free in an import.
  pub free_from : (p k : ℕ) (class : Name) (x : Entry) → slice_get order p ≡ Some k → slice_get (class_names by_names es) k ≡ Some class → slice_get imports p ≡ Some x → (q : ResourceId) → IsFree m (kind_type x.kind) q → IsBound q ⊎ IsOfEntry class q
  free_from p k class x ordered numbered there q is = by x.kind refl (are.kinds p k class x ordered numbered there) where
    by : (y : ItemKind) → x.kind ≡ y → IsMergedKind es roots f m ws k class y → IsBound q ⊎ IsOfEntry class q
    by y same (as_instance w js rooted instances given) =
        inr (of_union k class numbered w given
        (λ s path h.
        let o = instances-own c m roots us ps bs f all.merged.listed all.merged.unions all.merged.fresh es k class js rooted instances s path (sym (all.merged.bindings.paths k class s numbered) ∙ h) in
        (o.name, o.is, o.resource, o.own))
        q (subst (λ z. IsFree m (kind_type z) q) same is))
    by y same (as_resource r none whole) =
        let end : q ≡ resolved m r = end_of m (ty.Resource r) q (subst (λ z. IsFree m (kind_type z) q) same is) r refl in
        let new = (all.merged.fresh.whole k r whole).2 in
        inl (subst IsBound (sym (end ∙ new.itself)) (whole_bound k class numbered r whole))
    by y same (as_other l none whole plain itself) =
        let w = all.imported.each p k class x ordered numbered there in
        let j = filter-has (λ (y : Entry). same_class by_names es class y.name) es w.0 w.1 w.2 w.3 in
        let made : IsWrittenAs c m (became c ps bs f None) (slice_get ws k) (w.1).name (w.1).kind x.kind = MatchOption-at_none _ _ whole w.6 in
        inr (of_written k class numbered none w.1 (at_in (members by_names es class) j.0 w.1 j.1) q (w.1).kind x.kind refl (ap is_instance same ∙ plain) made is)
