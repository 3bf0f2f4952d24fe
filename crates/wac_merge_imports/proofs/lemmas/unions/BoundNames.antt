-- The names under which classes bind resources.
use Rattle.std.proofs.Common.{◌≡◌, ℕ, suc, ◌+◌, ◌<◌, ◌≤◌, ◌==◌, ◌&&◌, ◌||◌, Bool, true, false, cond, not, is_none, is_some, List, [], ◌∷◌, ◌++◌, length, take, get_or, Option, Some, None, slice_get, refl, sym, ap, ◌∙◌, subst, inl, inr, below_more, arith}
use Rattle.std.specs.Prelude.{◌↔◌, Contains, string_bytes}
use Rattle.std.proofs.Math.ListN.{set}
use Rattle.std.specs.Str.{bytes_eq}
use Rattle.std.specs.declared.string.String.{String}
use Rattle.std.proofs.lemmas.Bool.{and_parts, cases_Bool, eqb-true, false≢true}
use Rattle.std.proofs.lemmas.Option.{slice_get_within}
use Rattle.wac_types_shapes.specs.primitives.Name.{Name, find_name, option_case, same_name}
use Rattle.wac_types_shapes.proofs.lemmas.shapes.Names.{same_name-bytes_eq, same_name-from, same_name-refl, same_name-true, take_at}
use Rattle.wac_types_shapes.proofs.lemmas.shapes.Under.{not_some}
use Rattle.wac_types_shapes.specs.primitives.Tree.{Place, position, named}
use Rattle.wac_types_collection.specs.collection.Collection.{Collection, interface_exports, item_at}
use Rattle.wac_types_collection.proofs.lemmas.wide.Members.{in_either, in_none, in_one}
use Rattle.wac_types_collection.specs.collection.Bound.{is_alias, lists_own, own_name, same_path}
use Rattle.wac_types_shapes.specs.declared.shapes.component.Interface.{Interface}
use Rattle.wac_types_shapes.specs.declared.shapes.component.InterfaceId.{InterfaceId}
use Rattle.wac_types_shapes.specs.declared.shapes.component.ResourceId.{ResourceId}
use Rattle.wac_types_shapes.specs.declared.shapes.component.UsedType.{UsedType}
use Rattle.wac_types_shapes.specs.declared.shapes.component.«Type».TheVariants as ty
use Rattle.wac_types_shapes.specs.declared.shapes.component.ItemKind.{ItemKind}
use Rattle.wac_types_shapes.specs.declared.shapes.component.ItemKind.TheVariants as kind
use Rattle.wac_merge_classes.specs.entries.Binding.{class_binds, first_binds, kind_binds}
use Rattle.wac_merge_classes.specs.entries.Bindings.{AreBindings, ClassBindings, path_in}
use Rattle.wac_types_collection.specs.subtyping.CalledViews.{path_view}
use Rattle.wac_merge_classes.specs.entries.Classes.{AreClasses, Entry, by_names, class_names, is_asked, is_instance, members, same_class}
use Rattle.wac_merge_classes.proofs.lemmas.entries.ClassFacts.{class-parts, class-sym, class-trans, one-position}
use Rattle.wac_merge_classes.proofs.lemmas.entries.Lists.{any-at, any-found, set-cases, some-at}
use Rattle.wac_merge_classes.proofs.lemmas.entries.Numbers.{more-pushed}
use Rattle.wac_merge_classes.proofs.lemmas.terms.Alike.{binds_alike}
use Rattle.wac_merge_classes.proofs.lemmas.terms.Found.{no_some, one_some, some_same}
use Rattle.wac_merge_imports.proofs.lemmas.fitting.FittingClasses.{bare-path, contains-at, first-binding, instance-binds}
use Rattle.wac_merge_imports.proofs.lemmas.fitting.MergedBindingsClasses.{filter-at, filter-none}
use Rattle.wac_merge_imports.specs.private.unions.BoundNames.{AddsNames, AreBoundNames, IsAmong, ItemBinds, NameSet, instance_exports, is_bound_name}
use Rattle.wac_merge_imports.specs.unions.MergedScope.{BindsUnder}

-- a path of one name is another exactly where the names are the same
same-ends : (b : Bool) → cond b true false ≡ b
same-ends true = refl
same-ends false = refl

pub alone-one : {A : Type 0} (path : List (String A)) (s : String A) (n : Name) (b : Bool) → 1 ≤ length path → length path < 2 → s ≡ get_or path 0 s → b ≡ bytes_eq (string_bytes s) n → b ≡ same_path (path_view path) (named n ∷ [])
alone-one [] s n b low high is e = absurd (omega (arith, low))
alone-one (x ∷ []) s n b low high is e = e ∙ same_name-bytes_eq (string_bytes s) n ∙ ap (λ y. same_name (string_bytes y) n) is ∙ sym (same-ends (same_name (string_bytes x) n))
alone-one (x ∷ y ∷ path) s n b low high is e = absurd (omega (arith, high))

never : (b : Bool) → false ≡ cond b false false
never true = refl
never false = refl

pub alone-other : {A : Type 0} (path : List (String A)) (n : Name) → (length path ≡ 1 → ⊥) → false ≡ same_path (path_view path) (named n ∷ [])
alone-other [] n other = refl
alone-other (x ∷ []) n other = absurd (other refl)
alone-other (x ∷ y ∷ path) n other = never (same_name (string_bytes x) n)

-- paths that are the same are equal
pub path-is : (path : List Place) (n : Name) → same_path path (named n ∷ []) ≡ true → path ≡ named n ∷ []
path-is [] n is = cc
path-is (position i ∷ path) n is = cc
path-is (named m ∷ []) n is = by (same_name m n) refl is where
  by : (b : Bool) → same_name m n ≡ b → cond b true false ≡ true → named m ∷ [] ≡ named n ∷ []
  by true same h = ap (λ x. named x ∷ []) (same_name-true m n same)
  by false other h = cc
path-is (named m ∷ p ∷ path) n is = by (same_name m n) is where
  by : (b : Bool) → cond b false false ≡ true → named m ∷ p ∷ path ≡ named n ∷ []
  by true h = cc
  by false h = cc

pub is-path : (path : List Place) (n : Name) → path ≡ named n ∷ [] → same_path path (named n ∷ []) ≡ true
is-path path n is = ap (λ p. same_path p (named n ∷ [])) is ∙ ap (λ b. cond b true false) (same_name-refl n)

-- ---- one item

one-resource : (r q : ResourceId) → kind.TypeItem (ty.Resource r) ≡ kind.TypeItem (ty.Resource q) → r ≡ q
one-resource r q e = cc

pub no-item : (b : ClassBindings) (k : ℕ) (n : Name) (x : ItemKind) → ((r : ResourceId) → x ≡ kind.TypeItem (ty.Resource r) → ⊥) → (false ≡ true) ↔ ItemBinds b k n x
no-item b k n x never = (λ h. absurd (false≢true h), λ w. absurd (never w.0 w.1))

pub item-found : (b : ClassBindings) (k : ℕ) (n : Name) (r : ResourceId) (p : List Place) (t : Bool) → t ≡ same_path p (named n ∷ []) → path_in b k r ≡ Some p → (t ≡ true) ↔ ItemBinds b k n (kind.TypeItem (ty.Resource r))
item-found b k n r p t is at = (
  λ h. (r, refl, at ∙ ap Some (path-is p n (sym is ∙ h))),
  λ w. is ∙ is-path p n (some_same p (named n ∷ []) (sym at ∙ ap (path_in b k) (one-resource r w.0 w.1) ∙ w.2)),
)

pub item-none : (b : ClassBindings) (k : ℕ) (n : Name) (r : ResourceId) → path_in b k r ≡ None → (false ≡ true) ↔ ItemBinds b k n (kind.TypeItem (ty.Resource r))
item-none b k n r none = (λ h. absurd (false≢true h), λ w. absurd (no_some (named n ∷ []) (sym none ∙ ap (path_in b k) (one-resource r w.0 w.1) ∙ w.2)))

-- ---- names of items

or-true : (a : Bool) → (a || true) ≡ true
or-true true = refl
or-true false = refl

module _ (b : ClassBindings) (k : ℕ) where
  -- the one item
  only-item : (e d : Name × ItemKind) → Contains (e ∷ []) d → d ≡ e
  only-item e d listed = in_one e d listed

  pub names-none : (n : Name) (x : ItemKind) (ns : NameSet) (t : Bool) → (t ≡ true) ↔ ItemBinds b k n x → t ≡ false → AddsNames b k ((n, x) ∷ []) ns ns
  names-none n x ns t both is = record {
    kept = λ m h. h;
    bound = λ m h. inl h;
    there = λ m y listed binds. absurd (false≢true (sym is ∙ both.1 (subst (λ (e : Name × ItemKind). ItemBinds b k e.0 e.1) (only-item (n, x) (m, y) listed) binds)));
  }

  pub names-there : (n : Name) (x : ItemKind) (ns : NameSet) → IsAmong ns n → AddsNames b k ((n, x) ∷ []) ns ns
  names-there n x ns has = record {
    kept = λ m h. h;
    bound = λ m h. inl h;
    there = λ m y listed binds. subst (λ (e : Name × ItemKind). IsAmong ns e.0) (sym (only-item (n, x) (m, y) listed)) has;
  }

  pub names-pushed : (n : Name) (x : ItemKind) (ns : NameSet) → ItemBinds b k n x → AddsNames b k ((n, x) ∷ []) ns (ns ++ (n, tt) ∷ [])
  names-pushed n x ns binds = record {
    kept = λ m h. more-pushed ns n m ∙ ap (λ a. a || same_name m n) h;
    bound = λ m h. elim (cases_Bool (is_some (find_name ns m))) [
      | inl t ↦ inl t
      | inr f ↦
          let same : same_name m n ≡ true = sym (ap (λ a. a || same_name m n) f) ∙ (sym (more-pushed ns n m) ∙ h) in
          inr (binds.0, binds.2 ∙ ap (λ (z : Name). Some (named z ∷ [])) (sym (same_name-true m n same)))
    ];
    there = λ m y listed item.
        let here : IsAmong (ns ++ (n, tt) ∷ []) n = more-pushed ns n n ∙ (ap (λ a. is_some (find_name ns n) || a) (same_name-refl n) ∙ or-true (is_some (find_name ns n))) in
        subst (λ (e : Name × ItemKind). IsAmong (ns ++ (n, tt) ∷ []) e.0) (sym (only-item (n, x) (m, y) listed)) here;
  }

  pub names-first : (ns : NameSet) → AddsNames b k [] ns ns
  names-first ns = record { kept = λ n h. h; bound = λ n h. inl h; there = λ n x listed binds. absurd (in_none (n, x) listed) }

  names-both : (xs ys : List (Name × ItemKind)) (old mid new : NameSet) → AddsNames b k xs old mid → AddsNames b k ys mid new → AddsNames b k (xs ++ ys) old new
  names-both xs ys old mid new p q = record {
    kept = λ n h. q.kept n (p.kept n h);
    bound = λ n h. elim (q.bound n h) [ inl before ↦ p.bound n before | inr w ↦ inr w ];
    there = λ n x listed binds. elim (in_either xs ys (n, x) listed) [ inl first ↦ q.kept n (p.there n x first binds) | inr last ↦ q.there n x last binds ];
  }

  -- one more item
  pub names-more : (items : List (Name × ItemKind)) (i : ℕ) (e : Name × ItemKind) (old mid new : NameSet) → slice_get items i ≡ Some e → AddsNames b k (take i items) old mid → AddsNames b k (e ∷ []) mid new
      → AddsNames b k (take (suc i) items) old new
  names-more items i e old mid new at p q = subst (λ l. AddsNames b k l old new) (sym (take_at items i e at)) (names-both (take i items) (e ∷ []) old mid new p q)

  -- the items of an instance
  pub names-instance : (c : Collection) (i : InterfaceId) (it : Interface) (x : ItemKind) (old new : NameSet) → x ≡ kind.Instance i → item_at c.interfaces i.0 ≡ Some it → AddsNames b k it.exports old new
      → AddsNames b k (instance_exports c x) old new
  names-instance c i it x old new is there adds =
      subst (λ l. AddsNames b k l old new) (sym (ap (instance_exports c) is ∙ ap (λ (o : Option Interface). option_case o [] (λ y. y.exports)) there)) adds

  pub names-other : (c : Collection) (x : ItemKind) (ns : NameSet) → ((i : InterfaceId) → x ≡ kind.Instance i → ⊥) → AddsNames b k (instance_exports c x) ns ns
  names-other c (kind.Instance i) ns never = absurd (never i refl)
  names-other c x ns never = names-first ns

-- ---- own resources among what is listed

listed-is : (c : Collection) (uses : List (Name × UsedType)) (r : ResourceId) (n : Name) (k : ItemKind) → lists_own c uses r (n, k) ≡ true → k ≡ kind.TypeItem (ty.Resource r)
listed-is c uses r n (kind.TypeItem (ty.Resource q)) h =
    let p = and_parts (q.0 == r.0) (not (is_alias c q) && is_none (find_name uses n)) h in
    let same = eqb-true q.0 r.0 p.0 in
    (λ i. kind.TypeItem (ty.Resource (record { 0 = same i })))
listed-is c uses r n k h = absurd (false≢true h)

own-at : (c : Collection) (uses : List (Name × UsedType)) (es : List (Name × ItemKind)) (r : ResourceId) (n : Name) → own_name c uses es r ≡ Some n → (j : ℕ) × (slice_get es j ≡ Some (n, kind.TypeItem (ty.Resource r)))
own-at c uses [] r n h = absurd (no_some n h)
own-at c uses (e ∷ es) r n h = by (lists_own c uses r e) refl h (λ w. own-at c uses es r n w) where
  by : (b : Bool) → lists_own c uses r e ≡ b → cond b (Some e.0) (own_name c uses es r) ≡ Some n → (own_name c uses es r ≡ Some n → (j : ℕ) × (slice_get es j ≡ Some (n, kind.TypeItem (ty.Resource r))))
      → (j : ℕ) × (slice_get (e ∷ es) j ≡ Some (n, kind.TypeItem (ty.Resource r)))
  by true own w more =
      let name = some_same e.0 n w in
      let item = listed-is c uses r e.0 e.1 own in
      (0, λ i. Some (name i, item i))
  by false other w more = let z = more w in (suc z.0, z.1)

one-place : (n m : Name) → named n ∷ [] ≡ named m ∷ [] → m ≡ n
one-place n m e = cc

no-place : (n : Name) → named n ∷ [] ≡ [] → ⊥
no-place n e = cc

-- where there is no value
pub nothing-some : {A : Type 0} (o : Option A) → ((x : A) → o ≡ Some x → ⊥) → o ≡ None
nothing-some None never = refl
nothing-some (Some x) never = absurd (never x refl)

-- ---- the names of the classes

-- The set of each class has names under which it binds a resource, and all such names of its entries that were seen.
pub record AreNamesTo (c : Collection) (b : ClassBindings) (es : List Entry) (numbers : List ℕ) (i : ℕ) (all : List NameSet) : Type 0 where
  pub bound : (k : ℕ) (ns : NameSet) (n : Name) → slice_get all k ≡ Some ns → IsAmong ns n → (r : ResourceId) × (path_in b k r ≡ Some (named n ∷ []))
  pub there : (j : ℕ) → j < i → (k : ℕ) (e : Entry) (ns : NameSet) (n : Name) (x : ItemKind) → slice_get es j ≡ Some e → slice_get numbers j ≡ Some k → slice_get all k ≡ Some ns
      → Contains (instance_exports c e.kind) (n, x) → ItemBinds b k n x → IsAmong ns n

module _ (c : Collection) (b : ClassBindings) (es : List Entry) (numbers : List ℕ) where
  pub names-begin : (all : List NameSet) → ((k : ℕ) (ns : NameSet) → slice_get all k ≡ Some ns → ns ≡ []) → AreNamesTo c b es numbers 0 all
  names-begin all empty = record {
    bound = λ k ns n at h. absurd (false≢true (sym (ap (λ (l : NameSet). is_some (find_name l n)) (empty k ns at)) ∙ h));
    there = λ j low. absurd (omega (arith, low));
  }

  module _ (i k : ℕ) (e : Entry) (all : List NameSet) (old new : NameSet) (at : slice_get es i ≡ Some e) (number : slice_get numbers i ≡ Some k) (known : slice_get all k ≡ Some old)
      (adds : AddsNames b k (instance_exports c e.kind) old new) (have : AreNamesTo c b es numbers i all) where
    abbrev Has : ℕ → Type 0
    Has j = (l : ℕ) (d : Entry) (ns : NameSet) (n : Name) (x : ItemKind) → slice_get es j ≡ Some d → slice_get numbers j ≡ Some l → slice_get (set all k new) l ≡ Some ns
        → Contains (instance_exports c d.kind) (n, x) → ItemBinds b l n x → IsAmong ns n

    earlier : (j : ℕ) → j < i → Has j
    earlier j low l d ns n x there own set_at listed binds = elim (set-cases all k new l ns set_at) [
      | inl w ↦
          let own_here : slice_get numbers j ≡ Some k = own ∙ ap Some w.0 in
          let before : IsAmong old n = have.there j low k d old n x there own_here known listed (subst (λ z. ItemBinds b z n x) w.0 binds) in
          subst (λ (s : NameSet). IsAmong s n) (sym w.1) (adds.kept n before)
      | inr w ↦ have.there j low l d ns n x there own w.1 listed binds
    ]

    last : Has i
    last l d ns n x there own set_at listed binds =
        let same_entry : d ≡ e = one_some (slice_get es i) d e there at in
        let same_number : l ≡ k = one_some (slice_get numbers i) l k own number in
        let added : IsAmong new n = adds.there n x (subst (λ (y : Entry). Contains (instance_exports c y.kind) (n, x)) same_entry listed) (subst (λ z. ItemBinds b z n x) same_number binds) in
        elim (set-cases all k new l ns set_at) [
          | inl w ↦ subst (λ (s : NameSet). IsAmong s n) (sym w.1) added
          | inr w ↦ absurd (w.0 same_number)
        ]

    here : (n : Name) → IsAmong new n → (r : ResourceId) × (path_in b k r ≡ Some (named n ∷ []))
    here n h = elim (adds.bound n h) [ inl before ↦ have.bound k old n known before | inr now ↦ now ]

    pub names-next : AreNamesTo c b es numbers (i + 1) (set all k new)
    names-next = record {
      bound = λ l ns n set_at h. elim (set-cases all k new l ns set_at) [
        | inl w ↦ subst (λ z. (r : ResourceId) × (path_in b z r ≡ Some (named n ∷ []))) (sym w.0) (here n (subst (λ (s : NameSet). IsAmong s n) w.1 h))
        | inr w ↦ have.bound l ns n w.1 h
      ];
      there = below_more Has i earlier last;
    }

module _ (c : Collection) (es : List Entry) (numbers positions : List ℕ) (names : List (Name × ℕ)) (classes : AreClasses by_names es numbers positions names) (b : ClassBindings) (bindings : AreBindings c es b) where
  module _ (k : ℕ) (class : Name) (class_at : slice_get (class_names by_names es) k ≡ Some class) (n : Name) where
    at-number : (r : ResourceId) → path_in b k r ≡ class_binds by_names c es class r
    at-number r = bindings.paths k class r class_at

    -- an entry of the class that binds a resource under a name exports it
    exports-bound : (x : ItemKind) (r : ResourceId) → kind_binds by_names c class x r ≡ Some (named n ∷ []) → Contains (instance_exports c x) (n, kind.TypeItem (ty.Resource r))
    exports-bound (kind.Instance i) r h =
        let t = instance-binds by_names c class r i (named n ∷ []) h in
        let own : own_name c (t.interface).uses (t.interface).exports r ≡ Some n = t.own ∙ ap Some (one-place n t.name t.is) in
        let w = own-at c (t.interface).uses (t.interface).exports r n own in
        let exports : interface_exports c i ≡ (t.interface).exports = ap (λ (o : Option Interface). option_case o [] (λ it. it.exports)) t.there in
        contains-at (interface_exports c i) w.0 (n, kind.TypeItem (ty.Resource r)) (ap (λ (xs : List (Name × ItemKind)). slice_get xs w.0) exports ∙ w.1)
    exports-bound x r h = absurd (no-place n (bare-path c class x r (named n ∷ []) refl h))

    numbered : (i : ℕ) (e : Entry) → slice_get es i ≡ Some e → same_class by_names es class e.name ≡ true → slice_get numbers i ≡ Some k
    numbered i e at one =
        let counted = classes.counted in
        let less = slice_get_within es i e at in
        let l = some-at numbers i (omega (arith, counted, less)) in
        let w = classes.numbered i l.0 e at l.1 in
        l.1 ∙ ap Some (one-position by_names es es l.0 k w.0 class w.1 class_at (class-trans by_names es w.0 e.name class w.2 (class-sym by_names es class e.name one)))

    module _ (all : List NameSet) (ns : NameSet) (at : slice_get all k ≡ Some ns) (have : AreNamesTo c b es numbers (length es) all) where
      binds-named : IsAmong ns n → BindsUnder by_names c es class n
      binds-named h = let w = have.bound k ns n at h in (w.0, sym (at-number w.0) ∙ w.1)

      named-bound : BindsUnder by_names c es class n → IsAmong ns n
      named-bound (r, is) =
          let w = first-binding by_names c class (members by_names es class) r (named n ∷ []) is in
          let z = filter-at (λ (e : Entry). same_class by_names es class e.name) es w.0 w.1 w.2 in
          have.there z.1 (slice_get_within es z.1 w.1 z.2) k w.1 ns n (kind.TypeItem (ty.Resource r)) z.2 (numbered z.1 w.1 z.2 z.0) at (exports-bound (w.1).kind r w.3) (r, refl, at-number r ∙ is)

  pub names-all : (all : List NameSet) → length all ≡ length (class_names by_names es) → AreNamesTo c b es numbers (length es) all → AreBoundNames c es all
  names-all all counted have k class n class_at =
      let low = slice_get_within (class_names by_names es) k class class_at in
      let s = some-at all k (omega (arith, low, counted)) in
      let is : is_bound_name all k n ≡ is_some (find_name s.0 n) = ap (λ o. option_case o false (λ ns. is_some (find_name ns n))) s.1 in
      (λ h. binds-named k class class_at n all s.0 s.1 have (sym is ∙ h), λ w. is ∙ named-bound k class class_at n all s.0 s.1 have w)

-- ---- the class of a name

-- the sets are those of a collection in which classes bind the same
pub names-kept : (c m : Collection) (es : List Entry) (all : List NameSet) → ((class : Name) (r : ResourceId) → class_binds by_names m es class r ≡ class_binds by_names c es class r)
    → AreBoundNames c es all → AreBoundNames m es all
names-kept c m es all same are k class n at =
    let both = are k class n at in
    (λ h. let w = both.0 h in (w.0, same class w.0 ∙ w.1), λ (r, is). both.1 (r, sym (same class r) ∙ is))

module _ (c : Collection) (es : List Entry) (numbers positions : List ℕ) (names : List (Name × ℕ)) (classes : AreClasses by_names es numbers positions names) (id n : Name) where
  -- no entry has the name
  not-asked : find_name names id ≡ None → is_asked es id ≡ true → ⊥
  not-asked none t = not_some (find_name names id) none ((classes.found id).1 t)

  no-members : find_name names id ≡ None → members by_names es id ≡ []
  no-members none = filter-none (λ (e : Entry). same_class by_names es id e.name) es (λ i e at one. elim (class-parts by_names es id e.name one) [
    | inl same ↦ not-asked none (any-at (λ (e : Entry). same_name e.name id) es i e at (same_name-from e.name id (sym same)))
    | inr track ↦
        let w = any-found (λ (e : Entry). same_name e.name id && is_instance e.kind) es track.first in
        not-asked none (any-at (λ (e : Entry). same_name e.name id) es w.0 w.1 w.2 (and_parts (same_name w.1.name id) (is_instance w.1.kind) w.3).0)
  ])

  -- a name of no entry binds nothing
  pub unknown-binds : find_name names id ≡ None → (false ≡ true) ↔ BindsUnder by_names c es id n
  unknown-binds none = (λ h. absurd (false≢true h), λ w. absurd (no_some (named n ∷ []) (sym (ap (λ xs. first_binds by_names c id xs w.0) (no-members none)) ∙ w.1)))

  -- any other name binds what its class does
  pub number-binds : (k : ℕ) (all : List NameSet) (t : Bool) → find_name names id ≡ Some k → AreBoundNames c es all → t ≡ is_bound_name all k n → (t ≡ true) ↔ BindsUnder by_names c es id n
  number-binds k all t found are is =
      let w = classes.classed id k found in
      let both = are k w.0 n w.1 in
      (λ h. let x = both.0 (sym is ∙ h) in (x.0, sym (binds_alike c es w.0 id w.2 x.0) ∙ x.1), λ (r, binds). is ∙ both.1 (r, binds_alike c es w.0 id w.2 r ∙ binds))
