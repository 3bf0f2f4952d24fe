-- Classes that are one plain interface alone are imported as one interface.
use Rattle.std.proofs.Common.{◌≡◌, ℕ, suc, Bool, true, false, cond, ◌||◌, is_some, List, [], ◌∷◌, ◌++◌, length, map, slice_get, Option, Some, None, inl, inr, refl, sym, ap, ◌∙◌, subst, arith}
use Rattle.std.specs.List.{AllZip, list_any}
use Rattle.std.specs.Option.{MatchOption}
use Rattle.std.proofs.lemmas.Bool.{cases_Bool, false≢true}
use Rattle.std.proofs.lemmas.Option.{slice_get_within}
use Rattle.wac_types_shapes.specs.primitives.Name.{Name, find_name, option_case, same_name}
use Rattle.wac_types_shapes.specs.shapes.Named.{NoNameTwice, labelled, names_of}
use Rattle.wac_types_shapes.specs.declared.shapes.component.FuncTypeId.{FuncTypeId}
use Rattle.wac_types_shapes.specs.declared.shapes.component.Interface.{Interface}
use Rattle.wac_types_shapes.specs.declared.shapes.component.InterfaceId.{InterfaceId}
use Rattle.wac_types_shapes.specs.declared.shapes.component.ItemKind.{ItemKind}
use Rattle.wac_types_shapes.specs.declared.shapes.component.ItemKind.TheVariants as kind
use Rattle.wac_types_shapes.specs.declared.shapes.component.ResourceId.{ResourceId}
use Rattle.wac_types_shapes.specs.declared.shapes.component.UsedType.{UsedType}
use Rattle.wac_types_shapes.specs.declared.shapes.component.ValueType.{ValueType}
use Rattle.wac_types_shapes.specs.declared.shapes.component.«Type».TheVariants as ty
use Rattle.wac_types_shapes.proofs.lemmas.shapes.Names.{NoNameTwice-push, find_name-at}
use Rattle.wac_types_collection.specs.collection.Collection.{Collection, interface_exports, item_at}
use Rattle.wac_merge_classes.specs.entries.Bindings.{ClassBindings}
use Rattle.wac_merge_classes.specs.entries.Classes.{Entry, by_names, class_names, is_instance, members, same_class}
use Rattle.wac_merge_classes.specs.entries.Places.{own_resource}
use Rattle.wac_merge_classes.proofs.lemmas.entries.Lists.{some-at}
use Rattle.wac_merge_classes.specs.terms.Became.{became}
use Rattle.wac_merge_classes.specs.terms.Merge.{class_id, first_entry_id, instance_id, is_on_track, names_behind, with_names}
use Rattle.wac_merge_classes.specs.private.terms.MergedKinds.{AreInstancesOf, AreNoInstances, IsMergedKind, as_instance, as_other, as_resource}
use Rattle.wac_merge_classes.specs.terms.Unions.{AreUnions, IsExport, is_own_of, listed_under, part, part_lists}
use Rattle.wac_merge_classes.specs.terms.Writing.{IsWrittenExport}
use Rattle.wac_merge_classes.specs.declared.terms.fresh.Fresh.{Fresh}
use Rattle.wac_merge_classes.specs.declared.terms.parts.Export.{Export}
use Rattle.wac_merge_classes.specs.declared.terms.parts.Part.{Part}
use Rattle.wac_merge_classes.specs.declared.terms.parts.Union.{Union}
use Rattle.wac_merge_classes.proofs.lemmas.terms.Alike.{members_alike}
use Rattle.wac_merge_classes.proofs.lemmas.terms.Found.{get_map, mapped_length, one_some, some_same}
use Rattle.wac_merge_unions.proofs.lemmas.uniting.SameNames.{once_alike}
use Rattle.wac_merge_unions.proofs.lemmas.uniting.UnionLists.{contains_at}
use Rattle.wac_merge_unions.specs.uses.KeptUses.{instances, uses_of, with_instance}
use Rattle.wac_merge_unions.specs.uses.Using.{AreUsing, StaysBare}
use Rattle.wac_merge_resources.specs.declared.values.named.NamedTypes.{NamedTypes}
use Rattle.wac_merge_tables.specs.made.Made.{AreThere}
use Rattle.wac_merge_resources.specs.renaming.MadeOf.{IsFuncMadeOf, IsKindMadeOf, IsMadeOf}
use Rattle.wac_merge_tables.specs.declared.made.made.Made.{Made}
use Rattle.wac_merge_imports.specs.unions.MergedClasses.{first_id}
use Rattle.wac_merge_imports.specs.unions.OneId.{AreMadeOnce}
use Rattle.wac_merge_imports.specs.unions.OneInterface.{AreOfOneInterface, IsAlone, IsPlain, IsPlainItem}
use Rattle.wac_merge_imports.specs.unions.SharedUnions.{IsAloneAt}
use Rattle.wac_merge_imports.specs.unions.WritingSteps.{AreItemsMadeOf}
use Rattle.wac_merge_imports.proofs.lemmas.unions.Assembled.{AreAssembled}
use Rattle.wac_merge_imports.proofs.lemmas.unions.AssembledKinds.{merged-kinds}
use Rattle.wac_merge_imports.proofs.lemmas.unions.MadeAlike.{func-once, value-once}

-- ---- names that are listed one after another stand once

none-labelled : (ns : List Name) (n : Name) → list_any (same_name n) ns ≡ false → find_name (labelled ns) n ≡ None
none-labelled [] n none = refl
none-labelled (m ∷ ns) n none = by (same_name n m) none (none-labelled ns n) where
  by : (b : Bool) → (b || list_any (same_name n) ns) ≡ false → (list_any (same_name n) ns ≡ false → find_name (labelled ns) n ≡ None) → cond b (Some tt) (find_name (labelled ns) n) ≡ None
  by true h more = absurd (false≢true (sym h))
  by false h more = more h

labelled-push : (ns : List Name) (n : Name) → labelled (ns ++ n ∷ []) ≡ labelled ns ++ (n, tt) ∷ []
labelled-push [] n = refl
labelled-push (m ∷ ns) n = ap (λ l. (m, tt) ∷ l) (labelled-push ns n)

behind-once : (ns : List Name) (es : List (Name × ItemKind)) → NoNameTwice (labelled ns) → NoNameTwice (labelled (with_names ns es))
behind-once ns [] h = h
behind-once ns (e ∷ es) h = behind-once (cond (list_any (same_name e.0) ns) ns (ns ++ e.0 ∷ [])) es (by (list_any (same_name e.0) ns) refl) where
  by : (b : Bool) → list_any (same_name e.0) ns ≡ b → NoNameTwice (labelled (cond b ns (ns ++ e.0 ∷ [])))
  by true is = h
  by false is = subst NoNameTwice (sym (labelled-push ns e.0)) (NoNameTwice-push (labelled ns) e.0 tt h (none-labelled ns e.0 is))

labelled-names : (ns : List Name) → names_of (labelled ns) ≡ ns
labelled-names [] = refl
labelled-names (n ∷ ns) = ap (λ l. n ∷ l) (labelled-names ns)

-- ---- what a union lists that is one plain interface alone

abbrev none-of : Option ResourceId
none-of = None

none-either : (b : Bool) → is_some (cond b none-of none-of) ≡ false
none-either true = refl
none-either false = refl

own-none : (c : Collection) (uses : List (Name × UsedType)) (n : Name) (k : ItemKind) → IsPlainItem c k → is_some (own_resource c uses (n, k)) ≡ false
own-none c uses n (kind.Func f) plain = none-either (is_some (find_name uses n))
own-none c uses n (kind.TypeItem (ty.Value v)) plain = none-either (is_some (find_name uses n))
own-none c uses n k plain = absurd plain

not-own : (c : Collection) (ps : List Part) (n : Name) (p : ℕ) (k : ItemKind) → IsPlainItem c k → (is_own_of c ps n (p, k) || false) ≡ false
not-own c ps n p k plain = ap (λ b. b || false) (by (slice_get ps p)) where
  inner : (o : Option Interface) → option_case o false (λ it. is_some (own_resource c it.uses (n, k))) ≡ false
  inner None = refl
  inner (Some it) = own-none c it.uses n k plain

  by : (o : Option Part) → option_case o false (λ x. option_case (item_at c.interfaces x.interface.0) false (λ it. is_some (own_resource c it.uses (n, k)))) ≡ false
  by None = refl
  by (Some x) = inner (item_at c.interfaces x.interface.0)

module _ (c : Collection) (roots : List (List InterfaceId)) (us : List Union) (ps : List Part) (are : AreUnions c roots us ps) (i : InterfaceId) (plain : IsPlain c i) (ids : List (Option Name)) (u : ℕ) (a : IsAloneAt c us ps ids u i) where
  abbrev x : Union
  x = a.union

  abbrev listed : List (Name × ItemKind)
  listed = plain.interface.exports

  lists : part_lists c ps a.alone.number ≡ listed
  lists =
      ap (λ (o : Option Part). option_case o [] (λ y. interface_exports c y.interface)) a.alone.at
      ∙ (ap (interface_exports c) a.alone.of ∙ ap (λ (o : Option Interface). option_case o [] (λ it. it.exports)) plain.there)

  names-are : map (λ e. e.0) x.exports ≡ with_names [] listed
  names-are = are.ordered u x a.at ∙ (ap (λ qs. names_behind [] (map (part_lists c ps) qs)) a.alone.only ∙ ap (λ es. names_behind [] (es ∷ [])) lists)

  once : NoNameTwice x.exports
  once = once_alike (labelled (with_names [] listed)) x.exports (labelled-names (with_names [] listed) ∙ sym names-are) (behind-once [] listed tt)

  export-plain : (j : ℕ) (n : Name) (e : Export) → slice_get x.exports j ≡ Some (n, e) → (find_name listed n ≡ Some e.kind) × (e.is_own ≡ false)
  export-plain j n e there =
      let is : IsExport c us ps u n (listed_under c ps x.parts.items n) e =
      subst (λ (o : Option Export). MatchOption o (listed_under c ps x.parts.items n ≡ []) (λ y. IsExport c us ps u n (listed_under c ps x.parts.items n) y)) (find_name-at x.exports j n e once there) (are.exported u x n a.at) in
      let ls : listed_under c ps x.parts.items n ≡ listed_under c ps (a.alone.number ∷ []) n = ap (λ qs. listed_under c ps qs n) a.alone.only in
      by (find_name (part_lists c ps a.alone.number) n) refl is.more (sym ls ∙ is.first) (is.own ∙ ap (list_any (is_own_of c ps n)) ls) where
        by : (o : Option ItemKind) → find_name (part_lists c ps a.alone.number) n ≡ o → (more : List (ℕ × ItemKind)) → option_case o [] (λ k. (a.alone.number, k) ∷ []) ≡ (e.part, e.kind) ∷ more
            → e.is_own ≡ list_any (is_own_of c ps n) (option_case o [] (λ k. (a.alone.number, k) ∷ [])) → (find_name listed n ≡ Some e.kind) × (e.is_own ≡ false)
        by None found more first own = cc first
        by (Some k) found more first own =
            let pair : ◌≡◌ {A = ℕ × ItemKind} (a.alone.number, k) (e.part, e.kind) = cc first in
            let here : find_name listed n ≡ Some k = ap (λ es. find_name es n) (sym lists) ∙ found in
            (here ∙ ap (λ (z : ℕ × ItemKind). Some z.1) pair, own ∙ not-own c ps n a.alone.number k (plain.items n k here))

  item-plain : (j : ℕ) (n : Name) (e : Export) → slice_get x.exports j ≡ Some (n, e) → IsPlainItem c e.kind
  item-plain j n e there = plain.items n e.kind (export-plain j n e there).0

-- two that are so list the same
abbrev IsOnePlain : Collection → Name × Export → Name × Export → Type 0
IsOnePlain c e f = (e.0 ≡ f.0) × (e.1.kind ≡ f.1.kind) × IsPlainItem c e.1.kind × (e.1.is_own ≡ false) × (f.1.is_own ≡ false)

zip-each : {A B : Type 0} (R : A → B → Type 0) (xs : List A) (ys : List B) → length ys ≡ length xs → ((p : ℕ) (x : A) (y : B) → slice_get xs p ≡ Some x → slice_get ys p ≡ Some y → R x y) → AllZip R xs ys
zip-each R [] [] count each = tt
zip-each R [] (y ∷ ys) count each = absurd (omega (arith, count))
zip-each R (x ∷ xs) [] count each = absurd (omega (arith, count))
zip-each R (x ∷ xs) (y ∷ ys) count each = (each 0 x y refl refl, zip-each R xs ys (omega (arith, count)) (λ p a b here there. each (suc p) a b here there))

all-plain : (c : Collection) (roots : List (List InterfaceId)) (us : List Union) (ps : List Part) → AreUnions c roots us ps → (i : InterfaceId) → IsPlain c i → (ids : List (Option Name)) (u v : ℕ) (a : IsAloneAt c us ps ids u i) (b : IsAloneAt c us ps ids v i)
    → AllZip (IsOnePlain c) a.union.exports b.union.exports
all-plain c roots us ps are i plain ids u v a b =
    let first = λ (e : Name × Export). e.0 in
    let names : map first a.union.exports ≡ map first b.union.exports = names-are c roots us ps are i plain ids u a ∙ sym (names-are c roots us ps are i plain ids v b) in
    let count = ap length names in
    let one = mapped_length first a.union.exports in
    let two = mapped_length first b.union.exports in
    zip-each (IsOnePlain c) a.union.exports b.union.exports (omega (arith, count, one, two)) (λ j e f here there.
    let x = export-plain c roots us ps are i plain ids u a j e.0 e.1 here in
    let y = export-plain c roots us ps are i plain ids v b j f.0 f.1 there in
    let name : e.0 ≡ f.0 = some_same e.0 f.0 (sym (get_map first a.union.exports j e here) ∙ (ap (λ l. slice_get l j) names ∙ get_map first b.union.exports j f there)) in
    (name, some_same e.1.kind f.1.kind (sym x.0 ∙ (ap (find_name plain.interface.exports) name ∙ y.0)), item-plain c roots us ps are i plain ids u a j e.0 e.1 here, x.1, y.1))

-- ---- what it became

-- functions, or type items of value types, both
data AreOneSort (k l : ItemKind) : Type 0 where
  funcs : (f g : FuncTypeId) → k ≡ kind.Func f → l ≡ kind.Func g → AreOneSort k l
  values : (v w : ValueType) → k ≡ kind.TypeItem (ty.Value v) → l ≡ kind.TypeItem (ty.Value w) → AreOneSort k l

plain-sort : (c : Collection) (k l : ItemKind) → AreOneSort k l → is_instance l ≡ false
plain-sort c k l (funcs f g a b) = ap is_instance b
plain-sort c k l (values v w a b) = ap is_instance b

module _ (c m : Collection) (ps : List Part) (cs : ClassBindings) (f : Fresh) (ws : List InterfaceId) where
  one-sort : (u : ℕ) (n : Name) (e : Export) (o : Name) (k : ItemKind) → IsPlainItem c e.kind → e.is_own ≡ false → IsWrittenExport c m ps cs f ws u (n, e) (o, k) → (n ≡ o) × AreOneSort e.kind k
  one-sort u n e o k plain own written = by e.kind e.part e.is_own e.inner k plain own written where
    by : (a : ItemKind) (p : ℕ) (b : Bool) (i : Option ℕ) (l : ItemKind) → IsPlainItem c a → b ≡ false → IsWrittenExport c m ps cs f ws u (n, record { kind = a; part = p; is_own = b; inner = i }) (o, l) → (n ≡ o) × AreOneSort a l
    by a p true i l is free h = absurd (false≢true (sym free))
    by (kind.Func x) p false i (kind.Func y) is free h = (h.0, funcs x y refl refl)
    by (kind.Func x) p false i l is free h = absurd h.1
    by (kind.TypeItem (ty.Value v)) p false i (kind.TypeItem (ty.Value w)) is free h = (h.0, values v w refl refl)
    by (kind.TypeItem (ty.Value v)) p false i l is free h = absurd h.1
    by a p false i l is free h = absurd is

  no-instance : (u : ℕ) (es fs : List (Name × Export)) (ks : List (Name × ItemKind)) → AllZip (IsOnePlain c) es fs → AllZip (IsWrittenExport c m ps cs f ws u) es ks → list_any (λ e. is_instance e.1) ks ≡ false
  no-instance u [] fs [] p h = refl
  no-instance u [] fs (a ∷ ks) p h = absurd h
  no-instance u (e ∷ es) [] ks p h = absurd p
  no-instance u (e ∷ es) (g ∷ fs) [] p h = absurd h
  no-instance u (e ∷ es) (g ∷ fs) (a ∷ ks) p h =
      let here = plain-sort c e.1.kind a.1 (one-sort u e.0 e.1 a.0 a.1 p.0.2 p.0.3 h.0).1 in
      ap (λ b. b || list_any (λ (z : Name × ItemKind). is_instance z.1) ks) here ∙ no-instance u es fs ks p.1 h.1

  module _ (t : NamedTypes) (made : Made) (are : AreThere m made) where
    kind-once : (e h : ResourceId → ResourceId) (k l a b : ItemKind) → k ≡ l → IsPlainItem c k → AreOneSort k a → AreOneSort l b → IsKindMadeOf c m e t made k a → IsKindMadeOf c m h t made l b → a ≡ b
    kind-once e h k l a b same plain (funcs x y kx ay) (funcs g z lg bz) one two =
        let first : IsFuncMadeOf c m e t made x y = subst (λ (q : ItemKind). IsKindMadeOf c m e t made q (kind.Func y)) kx (subst (IsKindMadeOf c m e t made k) ay one) in
        let second : IsFuncMadeOf c m h t made x z = subst (λ (q : ItemKind). IsKindMadeOf c m h t made q (kind.Func z)) (sym same ∙ kx) (subst (IsKindMadeOf c m h t made l) bz two) in
        ay ∙ (ap kind.Func (func-once c t made m are e h x y z (subst (IsPlainItem c) kx plain) first second) ∙ sym bz)
    kind-once e h k l a b same plain (values x y kx ay) (values g z lg bz) one two =
        let first : IsMadeOf c e t made x y = subst (λ (q : ItemKind). IsKindMadeOf c m e t made q (kind.TypeItem (ty.Value y))) kx (subst (IsKindMadeOf c m e t made k) ay one) in
        let second : IsMadeOf c h t made x z = subst (λ (q : ItemKind). IsKindMadeOf c m h t made q (kind.TypeItem (ty.Value z))) (sym same ∙ kx) (subst (IsKindMadeOf c m h t made l) bz two) in
        ay ∙ (ap (λ (v : ValueType). kind.TypeItem (ty.Value v)) (value-once c t made e h x y z (subst (IsPlainItem c) kx plain) first second) ∙ sym bz)
    kind-once e h k l a b same plain (funcs x y kx ay) (values g z lg bz) one two = cc (sym kx ∙ (same ∙ lg))
    kind-once e h k l a b same plain (values x y kx ay) (funcs g z lg bz) one two = cc (sym kx ∙ (same ∙ lg))

    items-once : (r : ℕ → ResourceId → ResourceId) (u v : ℕ) (es fs : List (Name × Export)) (ks ls : List (Name × ItemKind)) → AllZip (IsOnePlain c) es fs → AllZip (IsWrittenExport c m ps cs f ws u) es ks → AllZip (IsWrittenExport c m ps cs f ws v) fs ls
        → AreItemsMadeOf c m r t made es ks → AreItemsMadeOf c m r t made fs ls → ks ≡ ls
    items-once r u v [] [] [] [] p h g one two = refl
    items-once r u v [] [] (a ∷ ks) ls p h g one two = absurd h
    items-once r u v [] [] [] (b ∷ ls) p h g one two = absurd g
    items-once r u v [] (g ∷ fs) ks ls p h k one two = absurd p
    items-once r u v (e ∷ es) [] ks ls p h k one two = absurd p
    items-once r u v (e ∷ es) (g ∷ fs) [] ls p h k one two = absurd h
    items-once r u v (e ∷ es) (g ∷ fs) (a ∷ ks) [] p h k one two = absurd k
    items-once r u v (e ∷ es) (g ∷ fs) (a ∷ ks) (b ∷ ls) p h k one two =
        let x = one-sort u e.0 e.1 a.0 a.1 p.0.2 p.0.3 h.0 in
        let y = one-sort v g.0 g.1 b.0 b.1 (subst (IsPlainItem c) p.0.1 p.0.2) p.0.4 k.0 in
        let name : a.0 ≡ b.0 = sym x.0 ∙ (p.0.0 ∙ y.0) in
        let item : a.1 ≡ b.1 = kind-once (r e.1.part) (r g.1.part) e.1.kind g.1.kind a.1 b.1 p.0.1 p.0.2 x.1 y.1 one.0 two.0 in
        let rest = items-once r u v es fs ks ls p.1 h.1 k.1 one.1 two.1 in
        (λ i. (name i, item i) ∷ rest i)

-- ---- the union of a class that is one interface alone

instance-is : (j i : InterfaceId) → kind.Instance j ≡ kind.Instance i → j ≡ i
instance-is j i e = cc e

one-instance : (ms : List Entry) (is : List InterfaceId) (member : Entry) (i : InterfaceId) → ms ≡ member ∷ [] → member.kind ≡ kind.Instance i → AreInstancesOf ms is → is ≡ i ∷ []
one-instance ms is member i only kind-is z = by is (subst (λ (l : List Entry). AreInstancesOf l is) only z) where
  by : (js : List InterfaceId) → AreInstancesOf (member ∷ []) js → js ≡ i ∷ []
  by [] h = absurd h
  by (j ∷ []) h = ap (λ x. x ∷ []) (instance-is j i (sym h.0 ∙ kind-is))
  by (j ∷ l ∷ js) h = absurd h.1

one-part : (ps : List Part) (k : ℕ) (is : List InterfaceId) (i : InterfaceId) (qs : List ℕ) → is ≡ i ∷ [] → AllZip (λ i q. slice_get ps q ≡ Some (part i None k)) is qs → (q : ℕ) × (qs ≡ q ∷ []) × (slice_get ps q ≡ Some (part i None k))
one-part ps k is i qs one z = by qs (subst (λ (l : List InterfaceId). AllZip (λ i q. slice_get ps q ≡ Some (part i None k)) l qs) one z) where
  by : (rs : List ℕ) → AllZip (λ i q. slice_get ps q ≡ Some (part i None k)) (i ∷ []) rs → (q : ℕ) × (rs ≡ q ∷ []) × (slice_get ps q ≡ Some (part i None k))
  by [] h = absurd h
  by (q ∷ []) h = (q, refl, h.0)
  by (q ∷ r ∷ rs) h = absurd h.1

module _ (c m : Collection) (es : List Entry) (roots : List (List InterfaceId)) (us : List Union) (ps : List Part) (bs : ClassBindings) (f : Fresh) (t : NamedTypes) (positions order : List ℕ) (bare : List Entry)
    (made : AreMadeOnce c m es us ps bs f t positions order bare) (all : AreAssembled c m es roots us ps bs f made.written.ids made.written.ws order bare) where
  abbrev ids : List (Option Name)
  ids = made.written.ids

  abbrev ws : List InterfaceId
  ws = made.written.ws

  -- such a class is imported as the interface that its union became
  record IsAloneClass (k : ℕ) (i : InterfaceId) (x : ItemKind) : Type 0 where
    became_as : InterfaceId
    is : x ≡ kind.Instance became_as
    at : slice_get ws k ≡ Some became_as
    alone : IsAloneAt c us ps ids k i

  class-alone : (p k : ℕ) (class : Name) (e : Entry) (i : InterfaceId) → slice_get order p ≡ Some k → slice_get (class_names by_names es) k ≡ Some class → slice_get bare p ≡ Some e → IsAlone c es class i → IsAloneClass k i e.kind
  class-alone p k class e i ordered known there a = by e.kind ((merged-kinds c m es roots us ps bs f ids ws order bare all).kinds p k class e ordered known there) where
    none : AreNoInstances (members by_names es class) → ⊥
    none plain = false≢true (sym (plain a.member (contains_at (members by_names es class) 0 a.member (ap (λ l. slice_get l 0) a.only))) ∙ ap is_instance a.instance)

    by : (x : ItemKind) → IsMergedKind es roots f m ws k class x → IsAloneClass k i x
    by x (as_instance w is rooted of given) =
        let u = all.merged.unions.rooted k is rooted in
        let q = one-part ps k is i u.0.parts.items (one-instance (members by_names es class) is a.member i a.only a.instance of) u.2 in
        let near = slice_get_within us k u.0 u.1 in
        let count = all.identified.counted in
        let id = some-at ids k (omega (arith, near, count)) in
        let which = all.identified.classes k class u.0 id.0 known u.1 id.1 in
        let first : first_id c ps u.0.parts.items ≡ first_entry_id c (members by_names es class) =
        ap (first_id c ps) q.1
        ∙ (ap (λ (o : Option Part). option_case o None (λ y. instance_id c (kind.Instance y.interface))) q.2
        ∙ (sym (ap (instance_id c) a.instance) ∙ sym (ap (first_entry_id c) a.only))) in
        let of_class : id.0 ≡ class_id by_names c es class =
        elim (cases_Bool (list_any (λ e. is_on_track by_names c class e.kind) (members by_names es class))) [
          | inl on ↦ rw on (which.0 on)
          | inr off ↦ rw off (which.1 off ∙ first)
        ] in
        record {
          became_as = w;
          is = refl;
          at = given;
          alone = record { union = u.0; id = id.0; at = u.1; named = id.1; alone = record { number = q.0; part = part i None k; only = q.1; at = q.2; of = refl; own = sym a.own ∙ sym of_class } };
        }
    by x (as_resource q plain is) = absurd (none plain)
    by x (as_other y plain is other itself) = absurd (none plain)

  -- two interfaces that such unions became are equal
  same-interfaces : (i : InterfaceId) → IsPlain c i → (u v : ℕ) (a : IsAloneAt c us ps ids u i) (b : IsAloneAt c us ps ids v i) (w z : InterfaceId) (x y : Interface) → slice_get ws u ≡ Some w → slice_get ws v ≡ Some z
      → item_at m.interfaces w.0 ≡ Some x → item_at m.interfaces z.0 ≡ Some y → x ≡ y
  same-interfaces i plain u v a b w z x y at_u at_v there_w there_z =
      let one = made.written.written.written u a.union a.at in
      let two = made.written.written.written v b.union b.at in
      let is_w : one.0 ≡ w = one_some (slice_get ws u) one.0 w one.2 at_u in
      let is_z : two.0 ≡ z = one_some (slice_get ws v) two.0 z two.2 at_v in
      let is_x : one.1 ≡ x = one_some (item_at m.interfaces w.0) one.1 x (ap (λ (k : InterfaceId). item_at m.interfaces k.0) (sym is_w) ∙ one.3) there_w in
      let is_y : two.1 ≡ y = one_some (item_at m.interfaces z.0) two.1 y (ap (λ (k : InterfaceId). item_at m.interfaces k.0) (sym is_z) ∙ two.3) there_z in
      let made_x = made.unions u a.union w a.at at_u in
      let made_y = made.unions v b.union z b.at at_v in
      let in_part = λ (n : ℕ). became c ps bs f (Some n) in
      let items_x : AreItemsMadeOf c m in_part t made.made a.union.exports one.1.exports =
      subst (λ (k : Interface). AreItemsMadeOf c m in_part t made.made a.union.exports k.exports) (one_some (item_at m.interfaces w.0) made_x.interface x made_x.there there_w ∙ sym is_x) made_x.items in
      let items_y : AreItemsMadeOf c m in_part t made.made b.union.exports two.1.exports =
      subst (λ (k : Interface). AreItemsMadeOf c m in_part t made.made b.union.exports k.exports) (one_some (item_at m.interfaces z.0) made_y.interface y made_y.there there_z ∙ sym is_y) made_y.items in
      let id : one.1.id ≡ two.1.id =
      one_some (slice_get ids u) one.1.id a.id one.5 a.named ∙ (sym a.alone.own ∙ (b.alone.own ∙ sym (one_some (slice_get ids v) two.1.id b.id two.5 b.named))) in
      let uses : one.1.uses ≡ two.1.uses = one.4 ∙ sym two.4 in
      let exports : one.1.exports ≡ two.1.exports =
      items-once c m ps bs f ws t made.made made.are.there in_part u v a.union.exports b.union.exports one.1.exports two.1.exports (all-plain c roots us ps all.merged.unions i plain ids u v a b) one.6 two.6 items_x items_y in
      let same : one.1 ≡ two.1 = (λ j. record { id = id j; uses = uses j; exports = exports j }) in
      sym is_x ∙ (same ∙ is_y)

  -- so they are one
  one-bare : (i : InterfaceId) → IsPlain c i → (u v : ℕ) → IsAloneAt c us ps ids u i → IsAloneAt c us ps ids v i → (w z : InterfaceId) → slice_get ws u ≡ Some w → slice_get ws v ≡ Some z → w ≡ z
  one-bare i plain u v a b w z at_u at_v =
      let (first, shared) = made.shared in
      let (x, is_x, one) = shared.each u i w a at_u in
      let (y, is_y, two) = shared.each v i z b at_v in
      let same : x ≡ y = one_some (first i) x y is_x is_y in
      let (o, alone, at_o) = shared.known i x is_x in
      one.one (same-interfaces i plain o u alone a x w one.first one.second at_o at_u one.first_at one.second_at)
      ∙ (same ∙ sym (two.one (same-interfaces i plain o v alone b y z two.first two.second (at_o ∙ ap Some same) at_v two.first_at two.second_at)))

  -- such an interface lists no instance
  lists-none : (i : InterfaceId) → IsPlain c i → (u : ℕ) → IsAloneAt c us ps ids u i → (w : InterfaceId) → slice_get ws u ≡ Some w → (it : Interface) → item_at m.interfaces w.0 ≡ Some it → list_any (λ e. is_instance e.1) it.exports ≡ false
  lists-none i plain u a w at_u it there =
      let one = made.written.written.written u a.union a.at in
      let is_w : one.0 ≡ w = one_some (slice_get ws u) one.0 w one.2 at_u in
      let is_it : one.1 ≡ it = one_some (item_at m.interfaces w.0) one.1 it (ap (λ (k : InterfaceId). item_at m.interfaces k.0) (sym is_w) ∙ one.3) there in
      subst (λ (k : Interface). list_any (λ e. is_instance e.1) k.exports ≡ false) is_it
      (no-instance c m ps bs f ws u a.union.exports a.union.exports one.1.exports (all-plain c roots us ps all.merged.unions i plain ids u u a a) one.6)

  module _ (imports : List Entry) (using : AreUsing by_names c es m bare imports) where
    -- what such a class uses is nothing, so it stays what it was
    stays-bare : (p k : ℕ) (class : Name) (x : Entry) (i : InterfaceId) → slice_get order p ≡ Some k → slice_get (class_names by_names es) k ≡ Some class → slice_get imports p ≡ Some x → IsPlain c i → IsAlone c es class i → IsAloneClass k i x.kind
    stays-bare p k class x i ordered known there plain a =
        let low = slice_get_within imports p x there in
        let count = using.counted in
        let e = some-at bare p (omega (arith, low, count)) in
        let q = class-alone p k class e.0 i ordered known e.1 a in
        let w = all.imported.each p k class e.0 ordered known e.1 in
        let one : same_class by_names es class e.0.name ≡ true = ap (same_class by_names es class) w.5 ∙ w.3 in
        let only : members by_names es e.0.name ≡ a.member ∷ [] = sym (members_alike c es class e.0.name one) ∙ a.only in
        let of : instances (members by_names es e.0.name) ≡ i ∷ [] = ap instances only ∙ ap (λ (z : ItemKind). with_instance z []) a.instance in
        let none : uses_of c (instances (members by_names es e.0.name)) ≡ [] =
        ap (uses_of c) of ∙ (ap (λ (o : Option Interface). option_case o [] (λ it. it.uses) ++ []) plain.there ∙ ap (λ (l : List (Name × UsedType)). l ++ []) plain.unused) in
        let stay : StaysBare c m (instances (members by_names es e.0.name)) (kind.Instance q.became_as) x.kind =
        subst (λ (z : ItemKind). StaysBare c m (instances (members by_names es e.0.name)) z x.kind) q.is (using.stay p e.0 x e.1 there) in
        record { became_as = q.became_as; is = stay none (lists-none i plain k q.alone q.became_as q.at); at = q.at; alone = q.alone }

    pub one-interface : AreOfOneInterface c es order (record { types = m; imports = imports })
    one-interface p q k l a b x y i at_p known_a there_x at_q known_b there_y plain alone_a alone_b =
        let one = stays-bare p k a x i at_p known_a there_x plain alone_a in
        let two = stays-bare q l b y i at_q known_b there_y plain alone_b in
        one.is ∙ (ap kind.Instance (one-bare i plain k l one.alone two.alone one.became_as two.became_as one.at two.at) ∙ sym two.is)
