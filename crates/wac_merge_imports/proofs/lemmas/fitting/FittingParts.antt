-- The own resources of parts, and those of the interfaces that unions became.
use Rattle.std.proofs.Common.{◌≡◌, ℕ, zero, suc, Bool, true, false, List, [], ◌∷◌, slice_get, Option, Some, None, is_some, refl, sym, ap, ◌∙◌, subst}
use Rattle.std.specs.List.{AllZip, Contains, list_any}
use Rattle.std.specs.Option.{MatchOption}
use Rattle.std.proofs.lemmas.Bool.{or_left, or_right, false≢true}
use Rattle.wac_types_shapes.specs.primitives.Name.{Name, find_name, option_case}
use Rattle.wac_types_collection.specs.collection.Collection.{Collection, IsWellFormed, interface_exports, item_at, item_of}
use Rattle.wac_types_collection.specs.collection.Held.{resolved, source_of}
use Rattle.wac_types_collection.specs.collection.Bound.{is_alias, own_name}
use Rattle.wac_types_collection.specs.declared.collection.collection.Held.{Held}
use Rattle.wac_types_shapes.specs.declared.shapes.component.Interface.{Interface}
use Rattle.wac_types_shapes.specs.declared.shapes.component.InterfaceId.{InterfaceId}
use Rattle.wac_types_shapes.specs.declared.shapes.component.Resource.{Resource}
use Rattle.wac_types_shapes.specs.declared.shapes.component.ResourceAlias.{ResourceAlias}
use Rattle.wac_types_shapes.specs.declared.shapes.component.ResourceId.{ResourceId}
use Rattle.wac_types_shapes.specs.declared.shapes.component.UsedType.{UsedType}
use Rattle.wac_types_shapes.specs.declared.shapes.component.«Type».TheVariants as ty
use Rattle.wac_types_shapes.specs.declared.shapes.component.ItemKind.{ItemKind}
use Rattle.wac_types_shapes.specs.declared.shapes.component.ItemKind.TheVariants as kind
use Rattle.wac_types_shapes.proofs.lemmas.shapes.Names.{element_at, find_name-at, find_position}
use Rattle.wac_merge_classes.specs.declared.terms.fresh.Fresh.{Fresh}
use Rattle.wac_merge_classes.specs.declared.terms.parts.Export.{Export}
use Rattle.wac_merge_classes.specs.declared.terms.parts.Part.{Part}
use Rattle.wac_merge_classes.specs.declared.terms.parts.Union.{Union}
use Rattle.wac_merge_classes.specs.terms.Became.{AreFresh, became, own_in}
use Rattle.wac_merge_classes.specs.entries.Bindings.{ClassBindings}
use Rattle.wac_merge_classes.specs.private.terms.MergedKinds.{AreListedOnce}
use Rattle.wac_merge_classes.specs.entries.Places.{own_resource}
use Rattle.wac_merge_classes.specs.terms.Unions.{AreUnions, IsExport, is_own_of, listed_under, part_lists}
use Rattle.wac_merge_classes.specs.terms.Writing.{AreWritten, IsAliasOf, IsWrittenAs, IsWrittenExport, written_at}
use Rattle.wac_merge_classes.proofs.lemmas.terms.Found.{no_some, one_some, some_same}
use Rattle.wac_merge_imports.proofs.lemmas.fitting.FittingOwn.{IsOwn, itself-no-alias, own-found, own-named, own-resource, zip-left, zip-right}

contained : {X : Type 0} (xs : List X) (x : X) → Contains xs x → (i : ℕ) × (slice_get xs i ≡ Some x)
contained xs x (i, lt, e) = (i, element_at xs i x lt ∙ ap Some e)

some-value : {A : Type 0} (o : Option A) → is_some o ≡ true → (x : A) × (o ≡ Some x)
some-value None e = absurd (false≢true e)
some-value (Some x) e = (x, refl)

-- ---- what a part lists as its own is an own resource of its union

module _ (c : Collection) (ps : List Part) where
  -- what passes a test is among what is listed
  listed-there : (test : ℕ × ItemKind → Bool) (n : Name) (k : ItemKind) (q : ℕ) (qs : List ℕ) (i : ℕ) → slice_get qs i ≡ Some q → find_name (part_lists c ps q) n ≡ Some k → test (q, k) ≡ true
      → list_any test (listed_under c ps qs n) ≡ true
  listed-there test n k q [] i at is t = absurd (no_some q at)
  listed-there test n k q (p ∷ qs) zero at is t =
      let first : find_name (part_lists c ps p) n ≡ Some k = ap (λ x. find_name (part_lists c ps x) n) (some_same p q at) ∙ is in
      ap (λ (o : Option ItemKind). list_any test (option_case o (listed_under c ps qs n) (λ l. (p, l) ∷ listed_under c ps qs n))) first
      ∙ or_left (test (p, k)) _ (ap (λ x. test (x, k)) (some_same p q at) ∙ t)
  listed-there test n k q (p ∷ qs) (suc i) at is t = by (find_name (part_lists c ps p) n) (listed-there test n k q qs i at is t) where
    by : (o : Option ItemKind) → list_any test (listed_under c ps qs n) ≡ true → list_any test (option_case o (listed_under c ps qs n) (λ l. (p, l) ∷ listed_under c ps qs n)) ≡ true
    by None h = h
    by (Some l) h = or_right (test (p, l)) _ h

  module _ (once : AreListedOnce c ps) (p : ℕ) (y : Part) (it : Interface) (at : slice_get ps p ≡ Some y) (here : item_at c.interfaces (y.interface).0 ≡ Some it) where
    lists-exports : part_lists c ps p ≡ it.exports
    lists-exports = ap (λ (o : Option Part). option_case o [] (λ x. interface_exports c x.interface)) at ∙ ap (λ (o : Option Interface). option_case o [] (λ x. x.exports)) here

    own-passes : (r : ResourceId) (n : Name) (k : ItemKind) → IsOwn c it.uses r (n, k) → is_own_of c ps n (p, k) ≡ true
    own-passes r n k o =
        ap (λ (w : Option Part). option_case w false (λ x. option_case (item_at c.interfaces (x.interface).0) false (λ z. is_some (own_resource c z.uses (n, k))))) at
        ∙ ap (λ (w : Option Interface). option_case w false (λ z. is_some (own_resource c z.uses (n, k)))) here
        ∙ ap is_some (own-resource c it.uses r (n, k) o)

    module _ (m : Collection) (roots : List (List InterfaceId)) (us : List Union) (bs : ClassBindings) (f : Fresh) (unions : AreUnions c roots us ps) (fresh : AreFresh c us bs f m) where
      pub part-owns : (r : ResourceId) (n : Name) → own_name c it.uses it.exports r ≡ Some n → (q : ResourceId) × (own_in f y.union n ≡ Some q)
      part-owns r n own =
          let w = unions.within p y at in
          let u = w.0 in
          let l = own-found c it.uses it.exports r n own in
          let place = contained u.parts.items p w.2 in
          let found : find_name (part_lists c ps p) n ≡ Some l.1 = ap (λ (es : List (Name × ItemKind)). find_name es n) lists-exports ∙ find_name-at it.exports l.0 n l.1 (once p y it at here) l.2 in
          let any = listed-there (is_own_of c ps n) n l.1 p u.parts.items place.0 place.1 found (own-passes r n l.1 l.3) in
          by u w.1 any (find_name u.exports n) refl (unions.exported y.union u n w.1)
        where
          by : (u : Union) → slice_get us y.union ≡ Some u → list_any (is_own_of c ps n) (listed_under c ps u.parts.items n) ≡ true
              → (o : Option Export) → find_name u.exports n ≡ o → MatchOption o (listed_under c ps u.parts.items n ≡ []) (λ e. IsExport c us ps y.union n (listed_under c ps u.parts.items n) e)
              → (q : ResourceId) × (own_in f y.union n ≡ Some q)
          by u there any None is none = absurd (false≢true (sym (ap (list_any (is_own_of c ps n)) none) ∙ any))
          by u there any (Some e) is x = some-value (own_in f y.union n) ((fresh.listed y.union u n there).1 (e, is, x.own ∙ any))

-- ---- the own resources of the interface that a union became

module _ (m : Collection) where
  with-alias : (a : ResourceAlias) (n : Name) (o : Option (Held Resource)) → item_of o ≡ Some (record { name = n; alias = Some a }) → is_some (source_of o) ≡ true
  with-alias a n None e = absurd (no_some _ e)
  with-alias a n (Some h) e = ap (λ (r : Resource). is_some (option_case r.alias None (λ x. Some x.source))) (some_same h.item (record { name = n; alias = Some a }) e)

  pub alias-is-alias : (n : Name) (q a : ResourceId) → IsAliasOf m n q a → is_alias m a ≡ true
  alias-is-alias n q a x = with-alias (record { owner = None; source = q }) n (slice_get m.resources a.0) x.is

  -- a resource that was written from what a part lists is an alias
  pub written-alias : (c : Collection) (g : ResourceId → ResourceId) (inner : Option InterfaceId) (n : Name) (k : ItemKind) (a : ResourceId) → IsWrittenAs c m g inner n k (kind.TypeItem (ty.Resource a)) → is_alias m a ≡ true
  written-alias c g inner n (kind.TypeItem (ty.Resource q)) a x = alias-is-alias n (g (resolved c q)) a x
  written-alias c g inner n (kind.TypeItem (ty.Func q)) a x = absurd x
  written-alias c g inner n (kind.TypeItem (ty.Value q)) a x = absurd x
  written-alias c g inner n (kind.TypeItem (ty.Interface q)) a x = absurd x
  written-alias c g inner n (kind.TypeItem (ty.World q)) a x = absurd x
  written-alias c g inner n (kind.TypeItem (ty.Module q)) a x = absurd x
  written-alias c g inner n (kind.Func q) a x = absurd x
  written-alias c g inner n (kind.Instance q) a x = absurd x
  written-alias c g inner n (kind.Component q) a x = absurd x
  written-alias c g inner n (kind.Module q) a x = absurd x
  written-alias c g inner n (kind.Value q) a x = absurd x

module _ (c m : Collection) (us : List Union) (ps : List Part) (bs : ClassBindings) (f : Fresh) (ids : List (Option Name)) (ws : List InterfaceId) (wf : IsWellFormed m) (fresh : AreFresh c us bs f m) (written : AreWritten c m us ps bs f ids ws) where
  -- the interface that a union became
  pub record IsWritten (u : ℕ) (it : Interface) : Type 0 where
    pub from : Union
    pub at : slice_get us u ≡ Some from
    pub id : InterfaceId
    pub given : slice_get ws u ≡ Some id
    pub there : item_at m.interfaces id.0 ≡ Some it

  module _ (u : ℕ) (it : Interface) (is : IsWritten u it) where
    exports-written : (it.uses ≡ []) × AllZip (IsWrittenExport c m ps bs f ws u) (is.from).exports it.exports
    exports-written =
        let w = written.written u is.from is.at in
        let id : w.0 ≡ is.id = one_some (slice_get ws u) w.0 is.id w.2 is.given in
        let same : w.1 ≡ it = one_some (item_at m.interfaces (is.id).0) w.1 it (ap (λ (i : InterfaceId). item_at m.interfaces i.0) (sym id) ∙ w.3) is.there in
        (subst (λ (x : Interface). x.uses ≡ []) same w.4, subst (λ (x : Interface). AllZip (IsWrittenExport c m ps bs f ws u) (is.from).exports x.exports) same w.6)

    export-own : (n o : Name) (e : Export) (k : ItemKind) → e.is_own ≡ true → IsWrittenExport c m ps bs f ws u (n, e) (o, k) → (n ≡ o) × ((q : ResourceId) × (own_in f u n ≡ Some q) × (k ≡ kind.TypeItem (ty.Resource q)))
    export-own n o e k own h = subst (λ (b : Bool). IsWrittenExport c m ps bs f ws u (n, record e { is_own = b }) (o, k)) own h

    export-other : (n o : Name) (e : Export) (k : ItemKind) → e.is_own ≡ false → IsWrittenExport c m ps bs f ws u (n, e) (o, k) → (n ≡ o) × IsWrittenAs c m (became c ps bs f (Some e.part)) (written_at ws e.inner) n e.kind k
    export-other n o e k own h = subst (λ (b : Bool). IsWrittenExport c m ps bs f ws u (n, record e { is_own = b }) (o, k)) own h

    -- is the union's own
    pub listed-own : (q : ResourceId) (n : Name) → own_name m it.uses it.exports q ≡ Some n → own_in f u n ≡ Some q
    listed-own q n own =
        let l = own-found m it.uses it.exports q n own in
        let z = zip-right (IsWrittenExport c m ps bs f ws u) (is.from).exports it.exports l.0 (n, l.1) exports-written.1 l.2 in
        by (z.0).0 (z.0).1 l.1 l.3 z.2 ((z.0).1).is_own refl
      where
        by : (o : Name) (e : Export) (k : ItemKind) → IsOwn m it.uses q (n, k) → IsWrittenExport c m ps bs f ws u (o, e) (n, k) → (b : Bool) → e.is_own ≡ b → own_in f u n ≡ Some q
        by o e k x h true t =
            let w = export-own o n e k t h in
            let same : (w.1).0 ≡ q = one-resource (w.1).0 q (sym (w.1).2 ∙ x.is) in
            ap (own_in f u) (sym w.0) ∙ (w.1).1 ∙ ap Some same
          where
            one-resource : (a b : ResourceId) → kind.TypeItem (ty.Resource a) ≡ kind.TypeItem (ty.Resource b) → a ≡ b
            one-resource a b e = cc
        by o e k x h false t =
            let w = export-other o n e k t h in
            let alias = written-alias m c (became c ps bs f (Some e.part)) (written_at ws e.inner) o e.kind q (subst (λ (y : ItemKind). IsWrittenAs c m (became c ps bs f (Some e.part)) (written_at ws e.inner) o e.kind y) x.is w.1) in
            absurd (false≢true (sym x.plain ∙ alias))

    -- what stands at this position is the union's own
    stands-own : (q : ResourceId) (n o : Name) (e : Export) (k : ItemKind) (i : ℕ) → own_in f u n ≡ Some q → e.is_own ≡ true → slice_get it.exports i ≡ Some (o, k) → IsWrittenExport c m ps bs f ws u (n, e) (o, k)
        → (l : Name) × (own_name m it.uses it.exports q ≡ Some l)
    stands-own q n o e k i own t at h =
        let w = export-own n o e k t h in
        let same : (w.1).0 ≡ q = one_some (own_in f u n) (w.1).0 q (w.1).1 own in
        let new = fresh.own u n q own in
        own-named m it.uses it.exports q i (o, k) at (record {
          is = (w.1).2 ∙ ap (λ (y : ResourceId). kind.TypeItem (ty.Resource y)) same;
          plain = itself-no-alias m wf q new.there new.itself;
          unused = ap (λ (l : List (Name × UsedType)). find_name l o) exports-written.0;
        })

    -- and no other name is found
    only-own : (q : ResourceId) (n l : Name) → own_in f u n ≡ Some q → own_name m it.uses it.exports q ≡ Some l → own_name m it.uses it.exports q ≡ Some n
    only-own q n l own found = found ∙ ap Some (fresh.once u u l n q (listed-own q l found) own).1

    -- the union's own resource is listed as its own, under its name
    pub own-listed : (q : ResourceId) (n : Name) → own_in f u n ≡ Some q → own_name m it.uses it.exports q ≡ Some n
    own-listed q n own =
        let e = (fresh.listed u is.from n is.at).0 (ap is_some own) in
        let pos = find_position (is.from).exports n e.0 e.1 in
        let z = zip-left (IsWrittenExport c m ps bs f ws u) (is.from).exports it.exports pos.0 (n, e.0) exports-written.1 pos.2 in
        let w = stands-own q n (z.0).0 e.0 (z.0).1 pos.0 own e.2 z.1 z.2 in
        only-own q n w.0 own w.1
