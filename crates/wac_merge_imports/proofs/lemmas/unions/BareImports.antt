-- Imports before uses are added to them, while the collection grows.
use Rattle.std.proofs.Common.{◌≡◌, ◌<◌, ℕ, zero, suc, Bool, true, false, List, [], ◌∷◌, length, take, refl, Option, Some, None, slice_get, sym, ap, ◌∙◌, subst, arith}
use Rattle.std.specs.Prelude.{◌↔◌, Contains}
use Rattle.std.specs.List.{AllZip}
use Rattle.std.specs.Option.{MatchOption}
use Rattle.std.proofs.lemmas.Bool.{false≢true}
use Rattle.std.proofs.lemmas.Option.{MatchOption-at_some, slice_get_within}
use Rattle.wac_types_shapes.specs.primitives.Name.{Name, find_name, same_name}
use Rattle.wac_types_shapes.specs.declared.shapes.component.Interface.{Interface}
use Rattle.wac_types_shapes.specs.declared.shapes.component.InterfaceId.{InterfaceId}
use Rattle.wac_types_shapes.specs.declared.shapes.component.ResourceId.{ResourceId}
use Rattle.wac_types_shapes.specs.declared.shapes.component.ItemKind.{ItemKind}
use Rattle.wac_types_shapes.specs.declared.shapes.component.ItemKind.TheVariants as kind
use Rattle.wac_types_shapes.specs.declared.shapes.component.«Type».TheVariants as ty
use Rattle.wac_types_shapes.proofs.lemmas.shapes.Names.{same_name-from}
use Rattle.wac_types_collection.specs.collection.Collection.{Collection, HasInterface, IsWellFormed, item_at, item_of}
use Rattle.wac_types_collection.specs.declared.collection.collection.Held.{Held}
use Rattle.wac_types_collection.specs.collection.Uses.{IsSound}
use Rattle.wac_merge_classes.specs.entries.Bindings.{AreBindings, AreHeld, ClassBindings}
use Rattle.wac_merge_classes.specs.entries.Classes.{Entry, by_names, canonical, class_names, is_asked, is_instance}
use Rattle.wac_merge_classes.proofs.lemmas.entries.Lists.{any-at, some-at}
use Rattle.wac_merge_classes.specs.terms.Became.{AreFresh, became, whole_in}
use Rattle.wac_merge_classes.specs.terms.ClassOrder.{IsWrittenOrder}
use Rattle.wac_merge_classes.specs.private.terms.MergedKinds.{AreListedOnce}
use Rattle.wac_types_collection.specs.private.subtyping.Extended.{IsExtended}
use Rattle.wac_merge_classes.specs.terms.Unions.{IsExport, IsInner, listed_under, united}
use Rattle.wac_merge_classes.specs.terms.Writing.{IsWrittenAs, IsWrittenExport, written_at}
use Rattle.wac_merge_classes.specs.declared.terms.parts.Export.{Export}
use Rattle.wac_merge_classes.specs.declared.terms.fresh.Fresh.{Fresh}
use Rattle.wac_merge_classes.specs.declared.terms.parts.Part.{Part}
use Rattle.wac_merge_classes.specs.declared.terms.parts.Union.{Union}
use Rattle.wac_merge_classes.proofs.lemmas.terms.Found.{no_some, one_some}
use Rattle.wac_merge_trees.proofs.lemmas.trees.UnionTreesOwn.{zip_none, zip_some}
use Rattle.wac_merge_trees.proofs.lemmas.trees.UnionTreesParts.{contains_at}
use Rattle.wac_merge_trees.proofs.lemmas.trees.UnionTreesWritten.{written_name, written_other, written_own}
use Rattle.wac_merge_resources.specs.declared.values.named.NamedTypes.{NamedTypes}
use Rattle.wac_merge_tables.proofs.lemmas.made.Extending.{extended_twice}
use Rattle.wac_merge_resources.proofs.lemmas.renaming.StillRenamed.{still_fresh, still_made}
use Rattle.wac_merge_resources.proofs.lemmas.renaming.OneIds.{still_kind_of}
use Rattle.wac_merge_imports.specs.unions.MergedClasses.{AreAgreed, AreClassUnions, AreImports, AreWrittenImports, IsClassKind}
use Rattle.wac_merge_imports.specs.unions.MergedScope.{BindsAsClasses, BindsUnder}
use Rattle.wac_merge_imports.specs.unions.OneId.{AreMadeOnce}
use Rattle.wac_merge_imports.proofs.lemmas.unions.Assembled.{AreAssembled}
use Rattle.wac_merge_imports.proofs.lemmas.unions.AssembledMerge.{still-written-all}
use Rattle.wac_merge_imports.proofs.lemmas.unions.ImportKinds.{still-kind}
use Rattle.wac_merge_imports.proofs.lemmas.unions.Sharing.{still-shared}
use Rattle.wac_merge_imports.proofs.lemmas.unions.OneIds.{still-union-made}
use Rattle.wac_merge_unions.specs.uses.Using.{AreBareImports, AreUsing, IsAmong, IsBareIn}
use Rattle.wac_merge_unions.proofs.lemmas.uses.AlikeMerges.{using-bound}

module _ (c m more : Collection) (x : IsExtended m more) (wf : IsWellFormed m) (also : IsWellFormed more) (es : List Entry) (us : List Union) (ps : List Part) (bs : ClassBindings) (f : Fresh) (order : List ℕ) (imports : List Entry) where
  still-imports : (ws : List InterfaceId) → AreImports c m es ps bs f ws order imports → AreImports c more es ps bs f ws order imports
  still-imports ws are = record {
    counted = are.counted;
    each = λ p k class y in_order known at.
        let w = are.each p k class y in_order known at in
        (w.0, w.1, w.2, w.3, w.4, w.5, still-kind c es ps bs f ws m more x k w.1 y.kind w.6);
    firsts = λ p k class y e rest in_order known at plain members. still-kind c es ps bs f ws m more x k e y.kind (are.firsts p k class y e rest in_order known at plain members);
  }

  pub still-assembled : (roots : List (List InterfaceId)) (ids : List (Option Name)) (ws : List InterfaceId) → AreAssembled c m es roots us ps bs f ids ws order imports → AreAssembled c more es roots us ps bs f ids ws order imports
  still-assembled roots ids ws all = record {
    merged = record {
      source = all.merged.source;
      target = also;
      listed = all.merged.listed;
      bindings = all.merged.bindings;
      counted = all.merged.counted;
      unions = all.merged.unions;
      fresh = still_fresh m more x wf c us bs f all.merged.fresh;
      written = still-written-all c m more x us ps bs f ids ws all.merged.written;
    };
    extended = extended_twice c m more all.extended x;
    sound = all.sound;
    held = all.held;
    agreed = all.agreed;
    rooted = all.rooted;
    identified = all.identified;
    imported = still-imports ws all.imported;
    ordered = all.ordered;
    each = all.each;
    once = all.once;
  }

  pub still-once : (t : NamedTypes) (positions : List ℕ) → AreMadeOnce c m es us ps bs f t positions order imports → AreMadeOnce c more es us ps bs f t positions order imports
  still-once t positions o = record {
    made = o.made;
    are = still_made m more x c t o.made o.are;
    written = record {
      ids = o.written.ids;
      ws = o.written.ws;
      identified = o.written.identified;
      written = still-written-all c m more x us ps bs f o.written.ids o.written.ws o.written.written;
      imported = still-imports o.written.ws o.written.imported;
    };
    shared = still-shared c m more x us ps o.written.ids o.written.ws o.shared;
    unions = λ u y w at there. still-union-made c m more x (λ p. became c ps bs f (Some p)) t o.made o.made (λ g e is. is) y w (o.unions u y w at there);
    imported = λ p k q e y at_p at_k at_q at_y. still_kind_of c (became c ps bs f None) t o.made o.made (λ g d is. is) m more x e.kind y.kind (o.imported p k q e y at_p at_k at_q at_y);
  }

-- what stands among the first of a list
taken : {A : Type 0} (xs : List A) (n v : ℕ) (x : A) → slice_get (take n xs) v ≡ Some x → (v < n) × (slice_get xs v ≡ Some x)
taken [] zero v x at = absurd (no_some x at)
taken [] (suc n) v x at = absurd (no_some x at)
taken (y ∷ xs) zero v x at = absurd (no_some x at)
taken (y ∷ xs) (suc n) zero x at = (omega arith, at)
taken (y ∷ xs) (suc n) (suc v) x at = let r = taken xs n v x at in let low = r.0 in (omega (arith, low), r.1)

within : {A : Type 0} (xs : List A) (n v : ℕ) (x : A) → v < n → slice_get xs v ≡ Some x → slice_get (take n xs) v ≡ Some x
within [] n v x low at = absurd (no_some x at)
within (y ∷ xs) zero v x low at = absurd (omega (arith, low))
within (y ∷ xs) (suc n) zero x low at = at
within (y ∷ xs) (suc n) (suc v) x low at = within xs n v x (omega (arith, low)) at

-- what stands under a name in the second stands under it in the first
found-back : {A B : Type 0} (R : Name × A → Name × B → Type 0) (named : (x : Name × A) (y : Name × B) → R x y → x.0 ≡ y.0) (xs : List (Name × A)) (ys : List (Name × B)) → AllZip R xs ys → (n : Name) (b : B) → find_name ys n ≡ Some b
    → (a : A) × (find_name xs n ≡ Some a) × R (n, a) (n, b)
found-back {A} {B} R named xs ys z n b at = by (find_name xs n) refl where
  by : (o : Option A) → find_name xs n ≡ o → (a : A) × (find_name xs n ≡ Some a) × R (n, a) (n, b)
  by None is = absurd (no_some b (sym (zip_none R named xs ys z n is) ∙ at))
  by (Some a) is =
      let w = zip_some R named xs ys z n a is in
      (a, is, subst (λ y. R (n, a) (n, y)) (one_some (find_name ys n) w.0 b w.1 at) w.2)

item-within : (m : Collection) (w : InterfaceId) (it : Interface) → item_at m.interfaces w.0 ≡ Some it → HasInterface m w
item-within m w it there = by (slice_get m.interfaces w.0) refl there where
  by : (o : Option (Held Interface)) → slice_get m.interfaces w.0 ≡ o → item_of o ≡ Some it → HasInterface m w
  by None place e = absurd (no_some it e)
  by (Some y) place e = slice_get_within m.interfaces w.0 y place

module _ (c m : Collection) (es : List Entry) (roots : List (List InterfaceId)) (us : List Union) (ps : List Part) (bs : ClassBindings) (f : Fresh) (ids : List (Option Name)) (ws : List InterfaceId) (order : List ℕ) (imports : List Entry)
    (all : AreAssembled c m es roots us ps bs f ids ws order imports) where
  -- the class of an import
  record IsOfClass (p : ℕ) (e : Entry) : Type 0 where
    number : ℕ
    class : Name
    known : slice_get (class_names by_names es) number ≡ Some class
    position : ℕ
    entry : Entry
    there : slice_get es position ≡ Some entry
    named : e.name ≡ entry.name
    became : IsClassKind c m ps bs f ws number entry e.kind

  of-class : (p : ℕ) (e : Entry) → slice_get imports p ≡ Some e → IsOfClass p e
  of-class p e at =
      let low = slice_get_within imports p e at in
      let counted = all.imported.counted in
      let k = some-at order p (omega (arith, low, counted)) in
      let class = some-at (class_names by_names es) k.0 ((all.each k.0).0 (contains_at order p k.0 k.1)) in
      let w = all.imported.each p k.0 class.0 e k.1 class.1 at in
      record { number = k.0; class = class.0; known = class.1; position = w.0; entry = w.1; there = w.2; named = w.5; became = w.6 }

  -- it has the name of an entry
  pub imports-asked : (p : ℕ) (e : Entry) → slice_get imports p ≡ Some e → is_asked es e.name ≡ true
  imports-asked p e at =
      let w = of-class p e at in
      any-at (λ (y : Entry). same_name y.name e.name) es w.position w.entry w.there (same_name-from w.entry.name e.name (sym w.named))

  given-by : (g : ResourceId → ResourceId) (o : Option InterfaceId) (n : Name) (k : ItemKind) (j : InterfaceId) → IsWrittenAs c m g o n k (kind.Instance j) → o ≡ Some j
  given-by g o n (kind.Instance i) j h = h
  given-by g o n (kind.TypeItem (ty.Resource r)) j h = absurd h
  given-by g o n (kind.TypeItem (ty.Func x)) j h = absurd h
  given-by g o n (kind.TypeItem (ty.Value v)) j h = absurd h
  given-by g o n (kind.TypeItem (ty.Interface i)) j h = absurd h
  given-by g o n (kind.TypeItem (ty.World w)) j h = absurd h
  given-by g o n (kind.TypeItem (ty.Module y)) j h = absurd h
  given-by g o n (kind.Func x) j h = absurd h
  given-by g o n (kind.Component w) j h = absurd h
  given-by g o n (kind.Module y) j h = absurd h
  given-by g o n (kind.Value v) j h = absurd h

  -- the interfaces of the unions
  abbrev bare : List InterfaceId
  bare = take (length us) ws

  -- an interface, and the union that it was
  record IsWritten (w : InterfaceId) : Type 0 where
    number : ℕ
    union : Union
    there : slice_get us number ≡ Some union
    it : Interface
    held : item_at m.interfaces w.0 ≡ Some it
    unused : it.uses ≡ []
    exports : AllZip (IsWrittenExport c m ps bs f ws number) union.exports it.exports

  is-written : (w : InterfaceId) → IsAmong bare w → IsWritten w
  is-written w among =
      let both = taken ws (length us) among.0 w among.1 in
      let u = some-at us among.0 both.0 in
      let x = all.merged.written.written among.0 u.0 u.1 in
      let same : x.0 ≡ w = one_some (slice_get ws among.0) x.0 w x.2 both.1 in
      record { number = among.0; union = u.0; there = u.1; it = x.1; held = ap (λ (y : InterfaceId). item_at m.interfaces y.0) (sym same) ∙ x.3; unused = x.4; exports = x.6 }

  union-among : (v : ℕ) (i : InterfaceId) → v < length us → slice_get ws v ≡ Some i → IsAmong bare i
  union-among v i low at = (v, within ws (length us) v i low at)

  inner-among : (u : ℕ) (i : InterfaceId) (is : List (ℕ × InterfaceId)) (o : Option ℕ) → IsInner us ps u is o → written_at ws o ≡ Some i → IsAmong bare i
  inner-among u i [] o none given = absurd (no_some i (sym (ap (written_at ws) none) ∙ given))
  inner-among u i (x ∷ is) o h given = union-among h.0 i (slice_get_within us h.0 h.1 h.4) (sym (ap (written_at ws) h.2) ∙ given)

  -- as an instance it is that of the union inside
  instance-given : (u : ℕ) (n : Name) (e : Export) (i : InterfaceId) → IsWrittenExport c m ps bs f ws u (n, e) (n, kind.Instance i) → written_at ws e.inner ≡ Some i
  instance-given u n e i w = by e.is_own refl where
    by : (b : Bool) → e.is_own ≡ b → written_at ws e.inner ≡ Some i
    by true own = let o = written_own c m us ps bs f ws u n n e (kind.Instance i) w own in absurd (false≢true (sym (ap is_instance o.2)))
    by false own = given-by (became c ps bs f (Some e.part)) (written_at ws e.inner) n e.kind i (written_other c m us ps bs f ws u n n e (kind.Instance i) w own)

  inner-written : (w i : InterfaceId) (it : Interface) (n : Name) → IsAmong bare w → item_at m.interfaces w.0 ≡ Some it → find_name it.exports n ≡ Some (kind.Instance i) → IsAmong bare i
  inner-written w i it n among at found =
      let x = is-written w among in
      let same : x.it ≡ it = one_some (item_at m.interfaces w.0) x.it it x.held at in
      let z = found-back (IsWrittenExport c m ps bs f ws x.number) (written_name c m us ps bs f ws x.number) x.union.exports x.it.exports x.exports n (kind.Instance i) (ap (λ (y : Interface). find_name y.exports n) same ∙ found) in
      let e = MatchOption-at_some _ (λ e. IsExport c us ps x.number n (listed_under c ps x.union.parts.items n) e) z.0 z.1 (all.merged.unions.exported x.number x.union n x.there) in
      inner-among x.number i (united (listed_under c ps x.union.parts.items n)) (z.0).inner e.inner (instance-given x.number n z.0 i z.2)

  imports-among : (p : ℕ) (e : Entry) → slice_get imports p ≡ Some e → IsBareIn bare e.kind
  imports-among p e at = by e.kind (of-class p e at).became where
    w : IsOfClass p e
    w = of-class p e at

    low : w.number < length us
    low =
        let few = slice_get_within (class_names by_names es) w.number w.class w.known in
        let counted = all.merged.counted in
        let root = some-at roots w.number (omega (arith, few, counted)) in
        let u = all.merged.unions.rooted w.number root.0 root.1 in
        slice_get_within us w.number u.0 u.1

    by : (l : ItemKind) → IsClassKind c m ps bs f ws w.number w.entry l → IsBareIn bare l
    by (kind.Instance j) h = union-among w.number j low (from (whole_in f w.number) h) where
      from : (o : Option ResourceId) → MatchOption o (IsWrittenAs c m (became c ps bs f None) (slice_get ws w.number) w.entry.name w.entry.kind (kind.Instance j)) (λ q. kind.Instance j ≡ kind.TypeItem (ty.Resource q)) → slice_get ws w.number ≡ Some j
      from None h = given-by (became c ps bs f None) (slice_get ws w.number) w.entry.name w.entry.kind j h
      from (Some q) h = cc h
    by (kind.TypeItem t) h = tt
    by (kind.Func y) h = tt
    by (kind.Component y) h = tt
    by (kind.Module y) h = tt
    by (kind.Value v) h = tt

  -- interfaces that were written use no others, nor do those inside
  pub imports-bare : AreBareImports m imports
  imports-bare = (
    bare,
    record {
      held = λ w among. let x = is-written w among in item-within m w x.it x.held;
      unused = λ w it among at. let x = is-written w among in subst (λ (y : Interface). y.uses ≡ []) (one_some (item_at m.interfaces w.0) x.it it x.held at) x.unused;
      inner = inner-written;
    },
    imports-among,
  )

-- with uses imports bind what they bound
pub using-binds : (c : Collection) (es : List Entry) (m : Collection) (bare imports : List Entry) → AreUsing by_names c es m bare imports → BindsAsClasses by_names c es (record { types = m; imports = bare }) → BindsAsClasses by_names c es (record { types = m; imports = imports })
using-binds c es m bare imports are g = record {
  binds = λ k class n known.
      subst (λ (o : Option ResourceId). ((q : ResourceId) × ((o ≡ Some q) × BindsUnder by_names m es (canonical by_names es class) n)) ↔ BindsUnder by_names c es class n)
      (sym (using-bound c es m bare imports are (canonical by_names es class) n)) (g.binds k class n known);
  same = g.same;
}

-- all that is known once imports are made, before uses are added
pub first-assembled : (c started m : Collection) (es : List Entry) (us : List Union) (ps : List Part) (bs : ClassBindings) (f : Fresh) (order : List ℕ) (imports : List Entry) (u : AreClassUnions c es us ps) (w : AreWrittenImports c m es us ps bs f order imports)
    → IsWellFormed c → IsWellFormed started → IsWellFormed m → IsSound c → IsExtended c started → IsExtended started m → AreListedOnce c ps → AreBindings c es bs → AreFresh c us bs f started → AreHeld c es → AreAgreed c es
    → IsWrittenOrder by_names c es order → ((k : ℕ) → (Contains order k ↔ k < length (class_names by_names es))) → ((i j k : ℕ) → slice_get order i ≡ Some k → slice_get order j ≡ Some k → i ≡ j)
    → AreAssembled c m es u.roots us ps bs f w.ids w.ws order imports
first-assembled c started m es us ps bs f order imports u w source begun target sound begins after listed bindings fresh held agreed ordered each once = record {
  merged = record {
    source = source;
    target = target;
    listed = listed;
    bindings = bindings;
    counted = u.rooted.counted;
    unions = u.unions;
    fresh = still_fresh started m after begun c us bs f fresh;
    written = w.written;
  };
  extended = extended_twice c started m begins after;
  sound = sound;
  held = held;
  agreed = agreed;
  rooted = u.rooted;
  identified = w.identified;
  imported = w.imported;
  ordered = ordered;
  each = each;
  once = once;
}
