-- What the imports of a merge bind at the root is what the classes of its entries bind there.
use Rattle.std.proofs.Common.{◌≡◌, ℕ, ◌+◌, true, false, not, cond, ◌&&◌, ◌==◌, List, [], ◌∷◌, slice_get, Option, Some, None, refl, sym, ap, ◌∙◌, inl, inr, ◌⊎◌, arith, zero-add}
use Rattle.std.specs.List.{list_any}
use Rattle.std.proofs.lemmas.Bool.{and_from, and_parts, eq-eqb, false≢true}
use Rattle.std.proofs.lemmas.Option.{slice_get_within}
use Rattle.wac_names.specs.Reading.{read_track}
use Rattle.wac_types_shapes.specs.primitives.Name.{Name, same_name, option_case}
use Rattle.wac_types_shapes.specs.primitives.Tree.{Place, Leaf, imported, position, named}
use Rattle.wac_types_collection.specs.collection.Collection.{Collection, HasResource, item_at}
use Rattle.wac_types_collection.specs.collection.Held.{resolved}
use Rattle.wac_types_collection.specs.collection.Bound.{is_alias}
use Rattle.wac_types_shapes.specs.declared.shapes.component.Interface.{Interface}
use Rattle.wac_types_shapes.specs.declared.shapes.component.InterfaceId.{InterfaceId}
use Rattle.wac_types_shapes.specs.declared.shapes.component.ResourceId.{ResourceId}
use Rattle.wac_types_shapes.specs.declared.shapes.component.«Type».TheVariants as ty
use Rattle.wac_types_shapes.specs.declared.shapes.component.ItemKind.{ItemKind}
use Rattle.wac_types_shapes.specs.declared.shapes.component.ItemKind.TheVariants as kind
use Rattle.wac_types_shapes.proofs.lemmas.shapes.Names.{same_name-refl, same_name-true}
use Rattle.wac_merge_classes.specs.declared.terms.fresh.Fresh.{Fresh}
use Rattle.wac_merge_classes.specs.declared.terms.parts.Part.{Part}
use Rattle.wac_merge_classes.specs.declared.terms.parts.Union.{Union}
use Rattle.wac_merge_classes.specs.terms.Became.{became, new_at, or_itself, own_in, whole_in}
use Rattle.wac_merge_classes.specs.entries.Binding.{binding_class, class_binds, first_binds, kind_binds, root_bindings}
use Rattle.wac_merge_classes.specs.entries.Bindings.{ClassBindings, first_in}
use Rattle.wac_merge_classes.specs.entries.Classes.{Entry, by_names, canonical, class_names, is_instance, members, names_instance, same_class, same_track}
use Rattle.wac_merge_classes.specs.terms.Merge.{is_on_track, position_in}
use Rattle.wac_merge_classes.specs.private.terms.MergedKinds.{AreInstancesOf, AreMergedKinds, AreNoInstances, IsMergedKind, as_instance, as_other, as_resource}
use Rattle.wac_merge_classes.specs.terms.Renaming.{Fits}
use Rattle.wac_merge_classes.proofs.lemmas.entries.Canonical.{class_name-asked}
use Rattle.wac_merge_classes.proofs.lemmas.entries.ClassFacts.{class-from, class-of_same, class-parts, class-refl, class-sym, class-trans, one-position, same_track-from}
use Rattle.wac_merge_classes.proofs.lemmas.terms.Found.{no_some, one_some, some_same}
use Rattle.wac_merge_imports.proofs.lemmas.fitting.Fitting.{AreMerged}
use Rattle.wac_merge_imports.proofs.lemmas.fitting.FittingClasses.{IsTracked, bare-path, binds-tracked, contains-at, first-binding, instance-binds, instances-own, other-binds, whole-binds}
use Rattle.wac_merge_imports.proofs.lemmas.fitting.FittingOwn.{itself-no-alias, zip-left}
use Rattle.wac_merge_imports.proofs.lemmas.fitting.FittingParts.{IsWritten, listed-own, own-listed}
use Rattle.wac_merge_imports.proofs.lemmas.fitting.FittingSteps.{bound, first-class}
use Rattle.wac_merge_classes.proofs.lemmas.entries.Lists.{any-at, any-found, some-at}
use Rattle.wac_merge_imports.proofs.lemmas.fitting.MergedBindingsClasses.{AreApart, alone-binds, at-class, class-at, filter-at, filter-has, newest-has, no-binding, only-binding, position-is}
use Rattle.wac_merge_classes.proofs.lemmas.entries.Walking.{resolved-held}

-- ---- the canonical name of a class

module _ (es : List Entry) (class : Name) where
  -- is of the class
  canonical-class : same_class by_names es class (canonical by_names es class) ≡ true
  canonical-class = newest-has (λ (n : Name). same_class by_names es class n ≡ true) class (members by_names es class) (class-refl by_names es class)
      (λ j e at. (filter-at (λ (x : Entry). same_class by_names es class x.name) es j e at).0)

  is-instance : (k : ItemKind) (i : InterfaceId) → k ≡ kind.Instance i → is_instance k ≡ true
  is-instance k i e = ap is_instance e

  instance-named : (i : ℕ) (e : Entry) → slice_get es i ≡ Some e → is_instance e.kind ≡ true → names_instance es e.name ≡ true
  instance-named i e at t = any-at (λ (x : Entry). same_name x.name e.name && is_instance x.kind) es i e at (and_from (same_name e.name e.name) (is_instance e.kind) (same_name-refl e.name) t)

  -- and names an instance, where the members are instances
  canonical-instance : (k : ℕ) (is : List InterfaceId) → slice_get (class_names by_names es) k ≡ Some class → AreInstancesOf (members by_names es class) is → names_instance es (canonical by_names es class) ≡ true
  canonical-instance k is at are = newest-has (λ (n : Name). names_instance es n ≡ true) class (members by_names es class) first each where
    member-instance : (j : ℕ) (e : Entry) → slice_get (members by_names es class) j ≡ Some e → is_instance e.kind ≡ true
    member-instance j e there = let z = zip-left (λ (e : Entry) (i : InterfaceId). e.kind ≡ kind.Instance i) (members by_names es class) is j e are there in is-instance e.kind z.0 z.2

    each : (j : ℕ) (e : Entry) → slice_get (members by_names es class) j ≡ Some e → names_instance es e.name ≡ true
    each j e there =
        let w = filter-at (λ (x : Entry). same_class by_names es class x.name) es j e there in
        instance-named w.1 e w.2 (member-instance j e there)

    first : names_instance es class ≡ true
    first =
        let asked = class_name-asked es es class (any-at (λ (n : Name). same_name n class) (class_names by_names es) k class at (same_name-refl class)) in
        let w = any-found (λ (e : Entry). same_name e.name class) es asked in
        let name : (w.1).name ≡ class = same_name-true (w.1).name class w.3 in
        let j = filter-has (λ (x : Entry). same_class by_names es class x.name) es w.0 w.1 w.2 (class-of_same by_names es class (w.1).name (sym name)) in
        ap (names_instance es) (sym name) ∙ each j.0 w.1 j.1

module _ (c m : Collection) (es : List Entry) (roots : List (List InterfaceId)) (us : List Union) (ps : List Part) (bs : ClassBindings) (f : Fresh) (ids : List (Option Name)) (ws : List InterfaceId)
    (merged : AreMerged c m es roots us ps bs f ids ws) (order : List ℕ) (imports : List Entry) (are : AreMergedKinds c es roots f m ids ws order imports) where
  -- ---- the imports are of different classes

  -- the class of an import
  pub record IsImport (p : ℕ) (e : Entry) : Type 0 where
    pub number : ℕ
    pub class : Name
    pub ordered : slice_get order p ≡ Some number
    pub at : slice_get (class_names by_names es) number ≡ Some class
    pub name : e.name ≡ canonical by_names es class
    pub is : IsMergedKind es roots f m ws number class e.kind

  pub import-at : (p : ℕ) (e : Entry) → slice_get imports p ≡ Some e → IsImport p e
  import-at p e at =
      let within = slice_get_within imports p e at in
      let count = are.count in
      let k = some-at order p (omega (arith, within, count)) in
      let class = some-at (class_names by_names es) k.0 (are.classes p k.0 k.1) in
      record { number = k.0; class = class.0; ordered = k.1; at = class.1; name = are.names p k.0 class.0 e k.1 class.1 at; is = are.kinds p k.0 class.0 e k.1 class.1 at }

  pub one-import : (p q : ℕ) (a b : Entry) (i : IsImport p a) (j : IsImport q b) → same_class by_names es a.name b.name ≡ true → p ≡ q
  one-import p q a b i j one =
      let first : same_class by_names es i.class a.name ≡ true = ap (same_class by_names es i.class) i.name ∙ canonical-class es i.class in
      let last : same_class by_names es b.name j.class ≡ true = class-sym by_names es j.class b.name (ap (same_class by_names es j.class) j.name ∙ canonical-class es j.class) in
      let classes = class-trans by_names es i.class a.name j.class first (class-trans by_names es a.name b.name j.class one last) in
      let same = one-position by_names es es i.number j.number i.class j.class i.at j.at classes in
      are.once p q i.number i.ordered (j.ordered ∙ ap Some (sym same))

  -- one that is an instance names an instance that was asked for
  instance-asked : (p : ℕ) (e : Entry) (i : IsImport p e) → is_instance e.kind ≡ true → names_instance es e.name ≡ true
  instance-asked p e i t = ap (names_instance es) i.name ∙ by e.kind i.is t where
    by : (x : ItemKind) → IsMergedKind es roots f m ws i.number i.class x → is_instance x ≡ true → names_instance es (canonical by_names es i.class) ≡ true
    by x (as_instance w is rooted members given) t = canonical-instance es i.class i.number is i.at members
    by x (as_resource q none is) t = absurd (false≢true t)
    by x (as_other y none fresh plain itself) t = absurd (false≢true (sym plain ∙ t))

  instance-import : (p : ℕ) (e : Entry) → slice_get imports p ≡ Some e → names_instance imports e.name ≡ true → is_instance e.kind ≡ true
  instance-import p e at t =
      let w = any-found (λ (x : Entry). same_name x.name e.name && is_instance x.kind) imports t in
      let b = and_parts (same_name (w.1).name e.name) (is_instance (w.1).kind) w.3 in
      let there : w.0 ≡ p = one-import w.0 p w.1 e (import-at w.0 w.1 w.2) (import-at p e at) (class-of_same by_names es (w.1).name e.name (same_name-true (w.1).name e.name b.0)) in
      let same : w.1 ≡ e = one_some (slice_get imports p) w.1 e (ap (slice_get imports) (sym there) ∙ w.2) at in
      ap (λ (x : Entry). is_instance x.kind) (sym same) ∙ b.1

  imports-apart : AreApart by_names imports imports
  imports-apart p q a b at there one = elim (class-parts by_names imports a.name b.name one) [
    | inl same ↦ one-import p q a b i j (class-of_same by_names es a.name b.name same)
    | inr o ↦ one-import p q a b i j (class-from by_names es a.name b.name (record {
      track = o.track;
      first = instance-asked p a i (instance-import p a at o.first);
      second = instance-asked q b j (instance-import q b there o.second);
    }))
  ]
    where
      i : IsImport p a
      i = import-at p a at

      j : IsImport q b
      j = import-at q b there

  -- ---- what an import binds is a new resource of its class

  abbrev IsNewOf : ℕ → ResourceId → Type 0
  IsNewOf k q = ((n : Name) × (own_in f k n ≡ Some q)) ⊎ (whole_in f k ≡ Some q)

  one-class : (k l : ℕ) (q : ResourceId) → IsNewOf k q → IsNewOf l q → k ≡ l
  one-class k l q (inl a) (inl b) = ((merged.fresh).once k l a.0 b.0 q a.1 b.1).0
  one-class k l q (inl a) (inr b) = absurd ((merged.fresh).apart l k a.0 q b a.1)
  one-class k l q (inr a) (inl b) = absurd ((merged.fresh).apart k l b.0 q a b.1)
  one-class k l q (inr a) (inr b) = (merged.fresh).once_whole k l q a b

  new-not-old : (k : ℕ) (q : ResourceId) → IsNewOf k q → HasResource c q → ⊥
  new-not-old k q (inl a) held = let added = ((merged.fresh).own k a.0 q a.1).added in omega (arith, held, added)
  new-not-old k q (inr a) held = let added = ((merged.fresh).whole k q a).2.added in omega (arith, held, added)

  new-of : (k : ℕ) (path : List Place) (q : ResourceId) → new_at f k path ≡ Some q → IsNewOf k q
  new-of k [] q e = inr e
  new-of k (position i ∷ path) q e = absurd (no_some q e)
  new-of k (named n ∷ []) q e = inl (n, e)
  new-of k (named n ∷ x ∷ path) q e = absurd (no_some q e)

  written-as : (k : ℕ) (w : InterfaceId) (is : List InterfaceId) (it : Interface) → slice_get roots k ≡ Some is → slice_get ws k ≡ Some w → item_at m.interfaces w.0 ≡ Some it
      → IsWritten c m us ps bs f ids ws merged.target merged.fresh merged.written k it
  written-as k w is it rooted given there = let u = (merged.unions).rooted k is rooted in record { from = u.0; at = u.1; id = w; given = given; there = there }

  import-binds : (p : ℕ) (e : Entry) (i : IsImport p e) (t : ResourceId) (path : List Place) → kind_binds by_names m e.name e.kind t ≡ Some path → IsNewOf i.number t
  import-binds p e i t path binds = by e.kind i.is binds where
    by : (x : ItemKind) → IsMergedKind es roots f m ws i.number i.class x → kind_binds by_names m e.name x t ≡ Some path → IsNewOf i.number t
    by x (as_instance w is rooted members given) h =
        let b = instance-binds by_names m e.name t w path h in
        inl (b.name, listed-own c m us ps bs f ids ws merged.target merged.fresh merged.written i.number b.interface (written-as i.number w is b.interface rooted given b.there) t b.name b.own)
    by x (as_resource q none is) h = inr (is ∙ ap Some (whole-binds m e.name q t path h).0)
    by x (as_other y none fresh plain itself) h = absurd (other-binds m e.name y t path plain itself h)

  -- ---- what a class binds first is bound by its import

  -- an import that binds what a resource became
  record IsBoundBy (k : ℕ) (path : List Place) : Type 0 where
    pub resource : ResourceId
    pub new : new_at f k path ≡ Some resource
    pub position : ℕ
    pub ordered : slice_get order position ≡ Some k
    pub entry : Entry
    pub at : slice_get imports position ≡ Some entry
    pub binds : kind_binds by_names m entry.name entry.kind resource ≡ Some path

  pub no-instance : (class : Name) (xs : List Entry) (s : ResourceId) (path : List Place) → AreNoInstances xs → first_binds by_names c class xs s ≡ Some path → path ≡ []
  no-instance class xs s path none binds =
      let w = first-binding by_names c class xs s path binds in
      bare-path c class (w.1).kind s path (none w.1 (contains-at xs w.0 w.1 w.2)) w.3

  -- a member that binds is on the track
  pub on-track : (class : Name) (is : List InterfaceId) (s : ResourceId) (path : List Place) → AreInstancesOf (members by_names es class) is → class_binds by_names c es class s ≡ Some path
      → list_any (λ e. is_on_track by_names c class e.kind) (members by_names es class) ≡ true
  on-track class is s path instances binds =
      let w = first-binding by_names c class (members by_names es class) s path binds in
      let z = zip-left (λ (e : Entry) (i : InterfaceId). e.kind ≡ kind.Instance i) (members by_names es class) is w.0 w.1 instances w.2 in
      let t = instance-binds by_names c class s z.0 path (ap (λ (x : ItemKind). kind_binds by_names c class x s) (sym z.2) ∙ w.3) in
      any-at (λ (e : Entry). is_on_track by_names c class e.kind) (members by_names es class) w.0 w.1 w.2 (ap (is_on_track by_names c class) z.2 ∙ tracked z.0 t)
    where
      tracked : (i : InterfaceId) → IsTracked by_names c class i s path → is_on_track by_names c class (kind.Instance i) ≡ true
      tracked i t =
          ap (λ (o : Option Interface). option_case o false (λ it. option_case it.id false (λ id. same_track (read_track id) (read_track class)))) t.there
          ∙ ap (λ (o : Option Name). option_case o false (λ id. same_track (read_track id) (read_track class))) t.has ∙ t.track

  -- the interface of the class's union binds its own resources
  union-binds : (k : ℕ) (class name n : Name) (w : InterfaceId) (is : List InterfaceId) (q : ResourceId) → slice_get roots k ≡ Some is → slice_get ws k ≡ Some w → own_in f k n ≡ Some q
      → slice_get ids k ≡ Some (Some (canonical by_names es class)) → name ≡ canonical by_names es class → kind_binds by_names m name (kind.Instance w) q ≡ Some (named n ∷ [])
  union-binds k class name n w is q rooted given own id is_canonical =
      let u = (merged.unions).rooted k is rooted in
      let x = (merged.written).written k u.0 u.1 in
      let same : x.0 ≡ w = one_some (slice_get ws k) x.0 w x.2 given in
      let there : item_at m.interfaces w.0 ≡ Some x.1 = ap (λ (i : InterfaceId). item_at m.interfaces i.0) (sym same) ∙ x.3 in
      binds-tracked by_names m name q w (named n ∷ []) (record {
        interface = x.1;
        there = there;
        id = canonical by_names es class;
        has = some_same (x.1).id (Some (canonical by_names es class)) (sym x.5 ∙ id);
        track = same_track-from (read_track (canonical by_names es class)) (read_track name) (ap read_track (sym is_canonical));
        name = n;
        own = own-listed c m us ps bs f ids ws merged.target merged.fresh merged.written k x.1 (written-as k w is x.1 rooted given there) q n own;
        is = refl;
      })

  resource-binds : (k : ℕ) (name : Name) (q : ResourceId) → whole_in f k ≡ Some q → kind_binds by_names m name (kind.TypeItem (ty.Resource q)) q ≡ Some []
  resource-binds k name q is =
      let new = ((merged.fresh).whole k q is).2 in
      ap (λ b. cond b (Some []) None) (and_from (q.0 == q.0) (not (is_alias m q)) (eq-eqb q.0 q.0 refl) (ap not (itself-no-alias m merged.target q new.there new.itself)))

  module _ (s : ResourceId) (k : ℕ) (path : List Place) (e : first_in bs s ≡ Some (bound k path)) where
    found : IsBoundBy k path
    found =
        let w = first-class c es bs merged.bindings s k path e in
        let within = slice_get_within (class_names by_names es) k w.class w.at in
        let p = are.each k within in
        let less = slice_get_within order p.0 k p.1 in
        let count = are.count in
        let x = some-at imports p.0 (omega (arith, less, count)) in
        by p.0 p.1 x.0 x.1 w.class w.at w.binds (are.names p.0 k w.class x.0 p.1 w.at x.1) (x.0).kind refl (are.kinds p.0 k w.class x.0 p.1 w.at x.1)
      where
        by : (p : ℕ) → slice_get order p ≡ Some k → (x : Entry) → slice_get imports p ≡ Some x → (class : Name) → slice_get (class_names by_names es) k ≡ Some class → class_binds by_names c es class s ≡ Some path
            → x.name ≡ canonical by_names es class → (y : ItemKind) → x.kind ≡ y → IsMergedKind es roots f m ws k class y → IsBoundBy k path
        by p ordered x at class there binds name y same (as_instance w is rooted instances given) =
            let o = instances-own c m roots us ps bs f merged.listed merged.unions merged.fresh es k class is rooted instances s path binds in
            let id = are.tracked k class there (on-track class is s path instances binds) in
            record {
              resource = o.resource;
              new = ap (new_at f k) o.is ∙ o.own;
              position = p;
              ordered = ordered;
              entry = x;
              at = at;
              binds = ap (λ (z : ItemKind). kind_binds by_names m x.name z o.resource) same ∙ union-binds k class x.name o.name w is o.resource rooted given o.own id name ∙ ap Some (sym o.is);
            }
        by p ordered x at class there binds name y same (as_resource q none is) =
            let bare = no-instance class (members by_names es class) s path none binds in
            record {
              resource = q;
              new = ap (new_at f k) bare ∙ is;
              position = p;
              ordered = ordered;
              entry = x;
              at = at;
              binds = ap (λ (z : ItemKind). kind_binds by_names m x.name z q) same ∙ resource-binds k x.name q is ∙ ap Some (sym bare);
            }
        by p ordered x at class there binds name y same (as_other z none fresh plain itself) =
            let bare = no-instance class (members by_names es class) s path none binds in
            let new = (merged.fresh).bound k s (e ∙ ap (λ l. Some (bound k l)) bare) in
            absurd (no_some new.0 (sym fresh ∙ new.1))

  abbrev leaf_of : (ℕ → ℕ) → Option (ℕ × List Place) → Option Leaf
  leaf_of at o = option_case o None (λ b. Some (record { out = 0; side = imported; path = position (at b.0) ∷ b.1 }))

  -- the class of imports that binds a resource
  class-binds-import : (t : ResourceId) (l : ℕ) (class : Name) (path : List Place) → slice_get (class_names by_names imports) l ≡ Some class → class_binds by_names m imports class t ≡ Some path
      → (e : Entry) × (i : IsImport l e) × IsNewOf i.number t
  class-binds-import t l class path at binds =
      let w = class-at by_names imports imports-apart l class at in
      let i = import-at l w.0 w.1 in
      (w.0, i, import-binds l w.0 i t path (sym (alone-binds by_names imports imports-apart m l w.0 w.1 t) ∙ ap (λ n. class_binds by_names m imports n t) w.2 ∙ binds))

  no-class : (s : ResourceId) → HasResource c s → binding_class by_names m imports s ≡ None
  no-class s held = no-binding by_names m imports s 0 (class_names by_names imports) (λ l class path at binds.
      let w = class-binds-import s l class path at binds in
      new-not-old (w.1).number s w.2 held)

  the-class : (k : ℕ) (path : List Place) (x : IsBoundBy k path) → binding_class by_names m imports x.resource ≡ Some (bound (0 + x.position) path)
  the-class k path x = only-binding by_names m imports x.resource 0 (class_names by_names imports) x.position (x.entry).name path (at-class by_names imports imports-apart x.position x.entry x.at)
      (alone-binds by_names imports imports-apart m x.position x.entry x.at x.resource ∙ x.binds)
      (λ l class other at binds.
      let w = class-binds-import x.resource l class other at binds in
      let same = one-class (w.1).number k x.resource w.2 (new-of k path x.resource x.new) in
      are.once l x.position k ((w.1).ordered ∙ ap Some same) x.ordered)

  -- what the imports bind at the root
  pub merged-bindings : Fits c (root_bindings by_names c es (position_in order)) (root_bindings by_names m imports (λ i. i)) (became c ps bs f None)
  merged-bindings r held = go (resolved c r) (resolved-held c merged.source r held) (first_in bs (resolved c r)) refl where
    go : (s : ResourceId) → HasResource c s → (o : Option (ℕ × List Place)) → first_in bs s ≡ o
        → leaf_of (λ i. i) (binding_class by_names m imports (option_case o s (λ b. or_itself s (new_at f b.0 b.1)))) ≡ leaf_of (position_in order) (binding_class by_names c es s)
    go s there None e = ap (leaf_of (λ i. i)) (no-class s there) ∙ sym (ap (leaf_of (position_in order)) (sym ((merged.bindings).firsts s) ∙ e))
    go s there (Some b) e =
        let x = found s b.0 b.1 e in
        let place : position_in order b.0 ≡ x.position = position-is order x.position b.0 x.ordered (λ i j first last. are.once i j b.0 first last) in
        ap (λ (o : Option ResourceId). leaf_of (λ i. i) (binding_class by_names m imports (or_itself s o))) x.new
        ∙ ap (leaf_of (λ i. i)) (the-class b.0 b.1 x)
        ∙ ap (λ p. leaf_of (λ i. i) (Some (bound p b.1))) (zero-add x.position ∙ sym place)
        ∙ sym (ap (leaf_of (position_in order)) (sym ((merged.bindings).firsts s) ∙ e))
