-- The items that a level exports: each item of its interface, once.
use Rattle.std.specs.Prelude.{◌||◌, cond, filter, is_none}
use Rattle.std.specs.List.{AllByRecursion}
use Rattle.std.proofs.Common.{ℕ, zero, suc, ◌+◌, ◌<◌, ◌≡◌, ◌⊎◌, inl, inr, Bool, true, false, not, ◌&&◌, ◌==◌, if◌then◌else◌, List, [], ◌∷◌, ◌++◌, length, take, slice_get, Contains, Option, Some, None, refl, ap, sym, ◌∙◌, subst, arith}
use Rattle.std.proofs.lemmas.Bool.{false_from_ne_true}
use Rattle.std.proofs.lemmas.List.{take_all}
use Rattle.std.proofs.lemmas.Option.{get_or_from_slice_get, slice_get_read, slice_get_within}
use Rattle.wac_types_shapes.specs.primitives.Name.{Name, same_name, find_name, option_case}
use Rattle.wac_types_shapes.specs.primitives.Tree.{exported, named}
use Rattle.wac_types_shapes.specs.shapes.Named.{NoNameTwice}
use Rattle.wac_types_shapes.proofs.lemmas.shapes.Names.{same_name-true, find_name-at, found_at, find_position, named_at-at, none_behind}
use Rattle.wac_types_shapes.specs.declared.shapes.component.Interface.{Interface}
use Rattle.wac_types_shapes.specs.declared.shapes.component.ResourceId.{ResourceId}
use Rattle.wac_types_shapes.specs.declared.shapes.component.UsedType.{UsedType}
use Rattle.wac_types_shapes.specs.declared.shapes.component.ItemKind.{ItemKind}
use Rattle.wac_types_shapes.specs.declared.shapes.component.ItemKind.TheVariants as kind
use Rattle.wac_types_shapes.specs.declared.shapes.component.«Type».TheVariants as ty
use Rattle.wac_types_collection.specs.collection.Collection.{Collection}
use Rattle.wac_types_collection.specs.collection.Held.{resolved}
use Rattle.wac_types_collection.specs.collection.Bound.{Bindings, is_alias, lists_own, own_name, lists_type, inside_interface, binds_here}
use Rattle.wac_encode_stacks.specs.Listed.{FreshInInterface}
use Rattle.wac_encode_scopes.specs.private.Interfaces.{own_in, own_item, own_items}
use Rattle.wac_encode_order.specs.private.Interfaces.{lists_own_resource, comes_later, is_later_at}
use Rattle.wac_encode_interfaces.specs.declared.level.Level.{Level}
use Rattle.wac_encode_interfaces.specs.private.Nests.{IsLevel, IsNextItem, IsEnded, items_at, listed_items}
use Rattle.wac_encode_interfaces.proofs.Nests.{one-interface}

abbrev pub Items : Type 0
Items = List (Name × ItemKind)

-- ---- lists of items

abbrev pub In : Items → Name × ItemKind → Type 0
In [] e = ⊥
In (d ∷ es) e = (e ≡ d) ⊎ In es e

in-front : (xs ys : Items) (e : Name × ItemKind) → In xs e → In (xs ++ ys) e
in-front [] ys e h = absurd h
in-front (x ∷ xs) ys e (inl same) = inl same
in-front (x ∷ xs) ys e (inr h) = inr (in-front xs ys e h)

in-behind : (xs ys : Items) (e : Name × ItemKind) → In ys e → In (xs ++ ys) e
in-behind [] ys e h = h
in-behind (x ∷ xs) ys e h = inr (in-behind xs ys e h)

pub some-is : {A : Type 0} (x y : A) → Some x ≡ Some y → x ≡ y
some-is x y h = cc

at-in : (xs : Items) (i : ℕ) (e : Name × ItemKind) → slice_get xs i ≡ Some e → In xs e
at-in [] i e at = let no : None ≡ Some e = at in cc
at-in (x ∷ xs) zero e at = inl (sym (some-is x e at))
at-in (x ∷ xs) (suc i) e at = inr (at-in xs i e at)

in-at : (xs : Items) (e : Name × ItemKind) → In xs e → (i : ℕ) × (slice_get xs i ≡ Some e)
in-at [] e h = absurd h
in-at (x ∷ xs) e (inl same) = (0, ap Some (sym same))
in-at (x ∷ xs) e (inr h) = let w = in-at xs e h in (suc w.0, w.1)

all-append : (P : Name × ItemKind → Type 0) (xs ys : Items) → AllByRecursion P xs → AllByRecursion P ys → AllByRecursion P (xs ++ ys)
all-append P [] ys g h = h
all-append P (x ∷ xs) ys g h = (g.0, all-append P xs ys g.1 h)

all-in : (P : Name × ItemKind → Type 0) (xs : Items) (e : Name × ItemKind) → AllByRecursion P xs → In xs e → P e
all-in P [] e g h = absurd h
all-in P (x ∷ xs) e g (inl same) = subst P (sym same) g.0
all-in P (x ∷ xs) e g (inr h) = all-in P xs e g.1 h

-- ---- own resources

own-all : (P : Name × ItemKind → Type 0) (c : Collection) (uses : List (Name × UsedType)) (es : Items) → ((q : ℕ) (e : Name × ItemKind) (r : ResourceId) → slice_get es q ≡ Some e → own_in c uses e ≡ Some r → P e) → AllByRecursion P (own_items c uses es)
own-all P c uses [] h = tt
own-all P c uses (e ∷ es) h = all-append P (own_item c uses e) (own_items c uses es) (first (own_in c uses e) refl) (own-all P c uses es (λ q. h (suc q)))
  where
    first : (o : Option ResourceId) → own_in c uses e ≡ o → AllByRecursion P (option_case o [] (λ (r : ResourceId). e ∷ []))
    first None is = tt
    first (Some r) is = (h zero e r refl is, tt)

own-there : (c : Collection) (uses : List (Name × UsedType)) (es : Items) (e : Name × ItemKind) (r : ResourceId) → In es e → own_in c uses e ≡ Some r → In (own_items c uses es) e
own-there c uses [] e r h is = absurd h
own-there c uses (d ∷ es) e r (inl same) is =
    in-front (own_item c uses d) (own_items c uses es) e
    (subst (λ (o : Option ResourceId). In (option_case o [] (λ (q : ResourceId). d ∷ [])) e) (sym (ap (own_in c uses) (sym same) ∙ is)) (inl same))
own-there c uses (d ∷ es) e r (inr h) is = in-behind (own_item c uses d) (own_items c uses es) e (own-there c uses es e r h is)

own-test : (b : Bool) (r q : ResourceId) → (if b then Some r else None) ≡ Some q → b ≡ true
own-test true r q h = refl
own-test false r q h = let no : None ≡ Some q = h in cc

own-listed : (c : Collection) (uses : List (Name × UsedType)) (e : Name × ItemKind) (r : ResourceId) → own_in c uses e ≡ Some r → lists_own_resource c uses e ≡ true
own-listed c uses (n, kind.TypeItem (ty.Resource q)) r h = own-test (not (is_alias c q) && is_none (find_name uses n)) q r h
own-listed c uses (n, kind.TypeItem (ty.Func f)) r h = let no : None ≡ Some r = h in cc
own-listed c uses (n, kind.TypeItem (ty.Value v)) r h = let no : None ≡ Some r = h in cc
own-listed c uses (n, kind.TypeItem (ty.Interface i)) r h = let no : None ≡ Some r = h in cc
own-listed c uses (n, kind.TypeItem (ty.World w)) r h = let no : None ≡ Some r = h in cc
own-listed c uses (n, kind.TypeItem (ty.Module m)) r h = let no : None ≡ Some r = h in cc
own-listed c uses (n, kind.Func f) r h = let no : None ≡ Some r = h in cc
own-listed c uses (n, kind.Instance i) r h = let no : None ≡ Some r = h in cc
own-listed c uses (n, kind.Component w) r h = let no : None ≡ Some r = h in cc
own-listed c uses (n, kind.Module m) r h = let no : None ≡ Some r = h in cc
own-listed c uses (n, kind.Value v) r h = let no : None ≡ Some r = h in cc

-- An own resource is a type item.
listed-own : (c : Collection) (uses : List (Name × UsedType)) (e : Name × ItemKind) → lists_own_resource c uses e ≡ true → (r : ResourceId) × (own_in c uses e ≡ Some r)
listed-own c uses (n, kind.TypeItem (ty.Resource q)) h = (q, ap (λ (b : Bool). if b then Some q else None) h)
listed-own c uses (n, kind.TypeItem (ty.Func f)) h = let no : false ≡ true = h in cc
listed-own c uses (n, kind.TypeItem (ty.Value v)) h = let no : false ≡ true = h in cc
listed-own c uses (n, kind.TypeItem (ty.Interface i)) h = let no : false ≡ true = h in cc
listed-own c uses (n, kind.TypeItem (ty.World w)) h = let no : false ≡ true = h in cc
listed-own c uses (n, kind.TypeItem (ty.Module m)) h = let no : false ≡ true = h in cc
listed-own c uses (n, kind.Func f) h = let no : false ≡ true = h in cc
listed-own c uses (n, kind.Instance i) h = let no : false ≡ true = h in cc
listed-own c uses (n, kind.Component w) h = let no : false ≡ true = h in cc
listed-own c uses (n, kind.Module m) h = let no : false ≡ true = h in cc
listed-own c uses (n, kind.Value v) h = let no : false ≡ true = h in cc

own-type : (c : Collection) (uses : List (Name × UsedType)) (e : Name × ItemKind) (r : ResourceId) → own_in c uses e ≡ Some r → lists_type e ≡ true
own-type c uses (n, kind.TypeItem a) r h = refl
own-type c uses (n, kind.Func f) r h = let no : None ≡ Some r = h in cc
own-type c uses (n, kind.Instance i) r h = let no : None ≡ Some r = h in cc
own-type c uses (n, kind.Component w) r h = let no : None ≡ Some r = h in cc
own-type c uses (n, kind.Module m) r h = let no : None ≡ Some r = h in cc
own-type c uses (n, kind.Value v) r h = let no : None ≡ Some r = h in cc

-- ---- items at positions

at-all : (P : Name × ItemKind → Type 0) (es : Items) (ps : List ℕ) → ((j p : ℕ) (e : Name × ItemKind) → slice_get ps j ≡ Some p → slice_get es p ≡ Some e → P e) → AllByRecursion P (items_at es ps)
at-all P es [] h = tt
at-all P es (p ∷ ps) h = all-append P (option_case (slice_get es p) [] (λ (e : Name × ItemKind). e ∷ [])) (items_at es ps) (first (slice_get es p) refl) (at-all P es ps (λ j. h (suc j)))
  where
    first : (o : Option (Name × ItemKind)) → slice_get es p ≡ o → AllByRecursion P (option_case o [] (λ (e : Name × ItemKind). e ∷ []))
    first None is = tt
    first (Some e) is = (h zero p e refl is, tt)

at-there : (es : Items) (ps : List ℕ) (j p : ℕ) (e : Name × ItemKind) → slice_get ps j ≡ Some p → slice_get es p ≡ Some e → In (items_at es ps) e
at-there es [] j p e h at = let no : None ≡ Some p = h in cc
at-there es (q ∷ ps) zero p e h at =
    in-front (option_case (slice_get es q) [] (λ (x : Name × ItemKind). x ∷ [])) (items_at es ps) e
    (subst (λ (o : Option (Name × ItemKind)). In (option_case o [] (λ (x : Name × ItemKind). x ∷ [])) e) (sym (ap (slice_get es) (some-is q p h) ∙ at)) (inl refl))
at-there es (q ∷ ps) (suc j) p e h at = in-behind (option_case (slice_get es q) [] (λ (x : Name × ItemKind). x ∷ [])) (items_at es ps) e (at-there es ps j p e h at)

taken-at : (ps : List ℕ) (n j p : ℕ) → slice_get (take n ps) j ≡ Some p → (j < n) × (slice_get ps j ≡ Some p)
taken-at [] zero j p h = let no : None ≡ Some p = h in cc
taken-at [] (suc n) j p h = let no : None ≡ Some p = h in cc
taken-at (q ∷ ps) zero j p h = let no : None ≡ Some p = h in cc
taken-at (q ∷ ps) (suc n) zero p h = (omega arith, h)
taken-at (q ∷ ps) (suc n) (suc j) p h = let r = taken-at ps n j p h in let less = r.0 in (omega (arith, less), r.1)

pub contains-at : (ps : List ℕ) (j p : ℕ) → slice_get ps j ≡ Some p → Contains ps p
contains-at ps j p at = (j, slice_get_within ps j p at, get_or_from_slice_get ps j p p at)

at-contains : (ps : List ℕ) (p : ℕ) → Contains ps p → (j : ℕ) × (slice_get ps j ≡ Some p)
at-contains ps p (j, low, is) = (j, slice_get_read ps (length ps) j p refl low (sym is))

-- ---- names

apart-none : (es : Items) (n : Name) → AllByRecursion (λ e. same_name n e.0 ≡ false) es → find_name es n ≡ None
apart-none [] n h = refl
apart-none (e ∷ es) n h = ap (λ (b : Bool). if b then Some e.1 else find_name es n) h.0 ∙ apart-none es n h.1

first-is : (p q : ℕ) (k d : ItemKind) → ◌≡◌ {A = Option (ℕ × ItemKind)} (Some (p, k)) (Some (q, d)) → p ≡ q
first-is p q k d h = ap (λ (x : ℕ × ItemKind). x.0) (some-is {A = ℕ × ItemKind} (p, k) (q, d) h)

-- An item's name is at one position.
name-once : (es : Items) → NoNameTwice es → (p q : ℕ) (d e : Name × ItemKind) → slice_get es p ≡ Some d → slice_get es q ≡ Some e → d.0 ≡ e.0 → q ≡ p
name-once es once p q d e at there same =
    let first = named_at-at es 0 p d.0 d.1 once at in
    let second = named_at-at es 0 q d.0 e.1 once (there ∙ ap (λ (m : Name). Some (m, e.1)) (sym same)) in
    let number : 0 + q ≡ 0 + p = first-is (0 + q) (0 + p) e.1 d.1 (sym second ∙ first) in
    omega (arith, number)

name-item : (es : Items) → NoNameTwice es → (p q : ℕ) (d e : Name × ItemKind) → slice_get es p ≡ Some d → slice_get es q ≡ Some e → d.0 ≡ e.0 → e ≡ d
name-item es once p q d e at there same = some-is e d (sym there ∙ ap (slice_get es) (name-once es once p q d e at there same) ∙ at)

-- ---- the items that are exported

abbrev pub shown : Interface → Bool → Items
shown it types_only = if types_only then filter lists_type it.exports else it.exports

filter-there : (es : Items) (e : Name × ItemKind) → In es e → lists_type e ≡ true → In (filter lists_type es) e
filter-there [] e h is = absurd h
filter-there (d ∷ es) e (inl same) is = subst (λ (b : Bool). In (cond b (d ∷ filter lists_type es) (filter lists_type es)) e) (sym (ap lists_type (sym same) ∙ is)) (inl same)
filter-there (d ∷ es) e (inr h) is = by (lists_type d) (filter-there es e h is)
  where
    by : (b : Bool) → In (filter lists_type es) e → In (cond b (d ∷ filter lists_type es) (filter lists_type es)) e
    by true w = inr w
    by false w = w

there-filter : (es : Items) (e : Name × ItemKind) → In (filter lists_type es) e → In es e × (lists_type e ≡ true)
there-filter [] e h = absurd h
there-filter (d ∷ es) e h = by (lists_type d) refl (λ w. there-filter es e w) h
  where
    by : (b : Bool) → lists_type d ≡ b → (In (filter lists_type es) e → In es e × (lists_type e ≡ true)) → In (cond b (d ∷ filter lists_type es) (filter lists_type es)) e → In (d ∷ es) e × (lists_type e ≡ true)
    by true is rest (inl same) = (inl same, ap lists_type same ∙ is)
    by true is rest (inr w) = let r = rest w in (inr r.0, r.1)
    by false is rest w = let r = rest w in (inr r.0, r.1)

filter-none : (es : Items) (n : Name) → find_name es n ≡ None → find_name (filter lists_type es) n ≡ None
filter-none [] n h = refl
filter-none (d ∷ es) n h = let w = none_behind d es n h in by (lists_type d) w.0 (filter-none es n w.1)
  where
    by : (b : Bool) → same_name n d.0 ≡ false → find_name (filter lists_type es) n ≡ None → find_name (cond b (d ∷ filter lists_type es) (filter lists_type es)) n ≡ None
    by true other rest = ap (λ (x : Bool). if x then Some d.1 else find_name (filter lists_type es) n) other ∙ rest
    by false other rest = rest

filter-once : (es : Items) → NoNameTwice es → NoNameTwice (filter lists_type es)
filter-once [] h = tt
filter-once (d ∷ es) h = by (lists_type d) (filter-once es h.1)
  where
    by : (b : Bool) → NoNameTwice (filter lists_type es) → NoNameTwice (cond b (d ∷ filter lists_type es) (filter lists_type es))
    by true rest = (filter-none es d.0 h.0, rest)
    by false rest = rest

pub shown-once : (it : Interface) (b : Bool) → NoNameTwice it.exports → NoNameTwice (shown it b)
shown-once it true once = filter-once it.exports once
shown-once it false once = once

pub shown-there : (it : Interface) (b : Bool) (e : Name × ItemKind) → In it.exports e → (b ≡ true → lists_type e ≡ true) → In (shown it b) e
shown-there it true e h is = filter-there it.exports e h (is refl)
shown-there it false e h is = h

there-shown : (it : Interface) (b : Bool) (e : Name × ItemKind) → In (shown it b) e → In it.exports e × (b ≡ true → lists_type e ≡ true)
there-shown it true e h = let w = there-filter it.exports e h in (w.0, λ is. w.1)
there-shown it false e h = (h, λ is. (let no : false ≡ true = is in cc))

pub in-contains : (es : Items) (e : Name × ItemKind) → In es e → Contains es e
in-contains es e h = let w = in-at es e h in (w.0, slice_get_within es w.0 e w.1, get_or_from_slice_get es w.0 e e w.1)

pub in-name : (es : Items) (e : Name × ItemKind) → NoNameTwice es → In es e → find_name es e.0 ≡ Some e.1
in-name es e once h = let w = in-at es e h in find_name-at es w.0 e.0 e.1 once w.1

-- Lists of the same items, which differ in their order, name the same.
same-names : (fs gs : Items) → NoNameTwice gs → ((e : Name × ItemKind) → In fs e → In gs e) → ((e : Name × ItemKind) → In gs e → In fs e) → (n : Name) → find_name gs n ≡ find_name fs n
same-names fs gs once on back n = by (find_name fs n) refl (find_name gs n) refl
  where
    by : (o : Option ItemKind) → find_name fs n ≡ o → (u : Option ItemKind) → find_name gs n ≡ u → find_name gs n ≡ find_name fs n
    by None f None g = g ∙ sym f
    by None f (Some k) g =
        let at = find_position gs n k g in
        let there = in-at fs (n, k) (back (n, k) (at-in gs at.0 (n, k) at.2)) in
        absurd (found_at fs there.0 n k there.1 f)
    by (Some k) f u g =
        let at = find_position fs n k f in
        in-name gs (n, k) once (on (n, k) (at-in fs at.0 (n, k) at.2)) ∙ sym f

-- ---- tests

later-not-own : (t o b : Bool) → (not o && (t || not b)) ≡ true → o ≡ false
later-not-own t true b h = let no : false ≡ true = h in cc
later-not-own t false b h = refl

later-types : (t o b : Bool) → (not o && (t || not b)) ≡ true → b ≡ true → t ≡ true
later-types true o b h is = refl
later-types false true b h is = let no : false ≡ true = h in cc
later-types false false true h is = let no : false ≡ true = h in cc
later-types false false false h is = let no : false ≡ true = is in cc

not-own-later : (t o b : Bool) → o ≡ false → (b ≡ true → t ≡ true) → (not o && (t || not b)) ≡ true
not-own-later true false b h is = refl
not-own-later false false true h is = is refl
not-own-later false false false h is = refl
not-own-later t true b h is = let no : true ≡ false = h in cc

own-same : (c : Collection) (uses : List (Name × UsedType)) (r q : ResourceId) (n : Name) → lists_own c uses r (n, kind.TypeItem (ty.Resource q)) ≡ true → lists_own_resource c uses (n, kind.TypeItem (ty.Resource q)) ≡ true
own-same c uses r q n h = second (q.0 == r.0) (not (is_alias c q) && is_none (find_name uses n)) h
  where
    second : (a b : Bool) → (a && b) ≡ true → b ≡ true
    second true b is = is
    second false b is = let no : false ≡ true = is in cc

-- An item that names a resource as its own.
own-named : (c : Collection) (uses : List (Name × UsedType)) (es : Items) (r : ResourceId) (n : Name) → own_name c uses es r ≡ Some n → (j : ℕ) × (e : Name × ItemKind) × (slice_get es j ≡ Some e) × (lists_own c uses r e ≡ true) × (e.0 ≡ n)
own-named c uses [] r n h = let no : None ≡ Some n = h in cc
own-named c uses (e ∷ es) r n h = by (lists_own c uses r e) refl h (λ w. own-named c uses es r n w)
  where
    by : (b : Bool) → lists_own c uses r e ≡ b → (if b then Some e.0 else own_name c uses es r) ≡ Some n
        → (own_name c uses es r ≡ Some n → (j : ℕ) × (d : Name × ItemKind) × (slice_get es j ≡ Some d) × (lists_own c uses r d ≡ true) × (d.0 ≡ n))
        → (j : ℕ) × (d : Name × ItemKind) × (slice_get (e ∷ es) j ≡ Some d) × (lists_own c uses r d ≡ true) × (d.0 ≡ n)
    by true is w rest = (0, e, refl, is, some-is e.0 n w)
    by false is w rest = let found = rest w in (suc found.0, found.1, found.2, found.3, found.4)

-- ---- the next item of a level

module _ (c : Collection) (l : Level) (h : IsLevel c l) (n : Name) (k : ItemKind) (x : IsNextItem c l n k) where
  same-it : x.it ≡ h.it
  same-it = one-interface c l.interface x.it h.it x.interface h.interface

  next-at : slice_get h.it.exports x.position ≡ Some (n, k)
  next-at = subst (λ (u : Interface). slice_get u.exports x.position ≡ Some (n, k)) same-it x.item

  pub next-later : comes_later c h.it l.types_only (n, k) ≡ true
  next-later = sym (ap (λ (o : Option (Name × ItemKind)). option_case o false (comes_later c h.it l.types_only)) next-at) ∙ (h.each x.position).0 (contains-at l.order.items l.next x.position x.next)

  next-not-own : lists_own_resource c h.it.uses (n, k) ≡ false
  next-not-own = later-not-own (lists_type (n, k)) (lists_own_resource c h.it.uses (n, k)) l.types_only next-later

  pub next-type : l.types_only ≡ true → lists_type (n, k) ≡ true
  next-type is = later-types (lists_type (n, k)) (lists_own_resource c h.it.uses (n, k)) l.types_only next-later is

  pub next-there : In h.it.exports (n, k)
  next-there = at-in h.it.exports x.position (n, k) next-at

  next-shown : In (shown h.it l.types_only) (n, k)
  next-shown = shown-there h.it l.types_only (n, k) next-there next-type

  pub next-found : find_name (shown h.it l.types_only) n ≡ Some k
  next-found = in-name (shown h.it l.types_only) (n, k) (shown-once h.it l.types_only h.names) next-shown

  true-false : (b : Bool) → b ≡ true → b ≡ false → ⊥
  true-false b yes_ other = let both : true ≡ false = sym yes_ ∙ other in cc

  own-apart : (q : ℕ) (e : Name × ItemKind) (r : ResourceId) → slice_get h.it.exports q ≡ Some e → own_in c h.it.uses e ≡ Some r → same_name n e.0 ≡ false
  own-apart q e r at own = false_from_ne_true (same_name n e.0) (λ same.
      (let item : e ≡ (n, k) = name-item h.it.exports h.names x.position q (n, k) e next-at at (same_name-true n e.0 same) in
      true-false (lists_own_resource c h.it.uses e) (own-listed c h.it.uses e r own) (ap (lists_own_resource c h.it.uses) item ∙ next-not-own)))

  at-apart : (j q : ℕ) (e : Name × ItemKind) → slice_get (take l.next l.order.items) j ≡ Some q → slice_get h.it.exports q ≡ Some e → same_name n e.0 ≡ false
  at-apart j q e place at = false_from_ne_true (same_name n e.0) (λ same.
      (let position : q ≡ x.position = name-once h.it.exports h.names x.position q (n, k) e next-at at (same_name-true n e.0 same) in
      let before = taken-at l.order.items l.next j q place in
      let less = before.0 in
      let one : j ≡ l.next = h.once j l.next q before.1 (x.next ∙ ap (λ (y : ℕ). Some y) (sym position)) in
      omega (arith, less, one)))

  unlisted-here : find_name (listed_items c h.it l) n ≡ None
  unlisted-here = apart-none (listed_items c h.it l) n (all-append (λ e. same_name n e.0 ≡ false) (own_items c h.it.uses h.it.exports) (items_at h.it.exports (take l.next l.order.items))
      (own-all (λ e. same_name n e.0 ≡ false) c h.it.uses h.it.exports own-apart)
      (at-all (λ e. same_name n e.0 ≡ false) h.it.exports (take l.next l.order.items) at-apart))

  -- Its name is new.
  pub unlisted : find_name (listed_items c x.it l) n ≡ None
  unlisted = subst (λ (u : Interface). find_name (listed_items c u l) n ≡ None) (sym same-it) unlisted-here

  not-same : (r q : ResourceId) → k ≡ kind.TypeItem (ty.Resource r) → (j : ℕ) × (e : Name × ItemKind) × (slice_get h.it.exports j ≡ Some e) × (lists_own c h.it.uses q e ≡ true) × (e.0 ≡ n) → ⊥
  not-same r q is (j, e, at, own, name) =
      let item : e ≡ (n, k) = name-item h.it.exports h.names x.position j (n, k) e next-at at (sym name) in
      let here : lists_own c h.it.uses q (n, kind.TypeItem (ty.Resource r)) ≡ true = subst (λ (y : ItemKind). lists_own c h.it.uses q (n, y) ≡ true) is (sym (ap (lists_own c h.it.uses q) item) ∙ own) in
      true-false (lists_own_resource c h.it.uses (n, k)) (ap (λ (y : ItemKind). lists_own_resource c h.it.uses (n, y)) is ∙ own-same c h.it.uses q r n here) next-not-own

  not-named : (r q : ResourceId) → k ≡ kind.TypeItem (ty.Resource r) → option_case (own_name c h.it.uses h.it.exports q) false (λ m. same_name m n) ≡ false
  not-named r q is = by (own_name c h.it.uses h.it.exports q) refl
    where
      by : (o : Option Name) → own_name c h.it.uses h.it.exports q ≡ o → option_case o false (λ m. same_name m n) ≡ false
      by None named_ = refl
      by (Some m) named_ = false_from_ne_true (same_name m n) (λ same. not-same r q is (own-named c h.it.uses h.it.exports q n (named_ ∙ ap (λ (y : Name). Some y) (same_name-true m n same))))

  not-fresh : FreshInInterface → (mo : Bindings) (d : ItemKind) → k ≡ d → binds_here c (inside_interface c h.it mo) exported (named n ∷ []) d ≡ false
  not-fresh law mo (kind.TypeItem (ty.Resource r)) is = law c h.it mo n r ∙ not-named r (resolved c r) is
  not-fresh law mo (kind.TypeItem (ty.Func f)) is = refl
  not-fresh law mo (kind.TypeItem (ty.Value v)) is = refl
  not-fresh law mo (kind.TypeItem (ty.Interface i)) is = refl
  not-fresh law mo (kind.TypeItem (ty.World w)) is = refl
  not-fresh law mo (kind.TypeItem (ty.Module m)) is = refl
  not-fresh law mo (kind.Func f) is = refl
  not-fresh law mo (kind.Instance i) is = refl
  not-fresh law mo (kind.Component w) is = refl
  not-fresh law mo (kind.Module m) is = refl
  not-fresh law mo (kind.Value v) is = refl

  -- It binds no resource.
  pub unbound-here : FreshInInterface → (mo : Bindings) → binds_here c (inside_interface c h.it mo) exported (named n ∷ []) k ≡ false
  unbound-here law mo = not-fresh law mo k refl

  pub unbound : FreshInInterface → (mo : Bindings) → binds_here c (inside_interface c x.it mo) exported (named n ∷ []) k ≡ false
  unbound law mo = subst (λ (u : Interface). binds_here c (inside_interface c u mo) exported (named n ∷ []) k ≡ false) (sym same-it) (unbound-here law mo)

-- ---- a level that is ended

module _ (c : Collection) (l : Level) (h : IsLevel c l) (ended : IsEnded l) where
  all-taken : take l.next l.order.items ≡ l.order.items
  all-taken = take_all l.next l.order.items ended

  later-there : (q : ℕ) (e : Name × ItemKind) → slice_get h.it.exports q ≡ Some e → comes_later c h.it l.types_only e ≡ true → In (items_at h.it.exports (take l.next l.order.items)) e
  later-there q e at later =
      let position = at-contains l.order.items q ((h.each q).1 (ap (λ (o : Option (Name × ItemKind)). option_case o false (comes_later c h.it l.types_only)) at ∙ later)) in
      subst (λ (ps : List ℕ). In (items_at h.it.exports ps) e) (sym all-taken) (at-there h.it.exports l.order.items position.0 q e position.1 at)

  shown-listed : (e : Name × ItemKind) → In (shown h.it l.types_only) e → In (listed_items c h.it l) e
  shown-listed e w =
      let there = there-shown h.it l.types_only e w in
      let at = in-at h.it.exports e there.0 in
      by at.0 at.1 there.0 there.1 (lists_own_resource c h.it.uses e) refl
    where
      by : (q : ℕ) → slice_get h.it.exports q ≡ Some e → In h.it.exports e → (l.types_only ≡ true → lists_type e ≡ true) → (b : Bool) → lists_own_resource c h.it.uses e ≡ b → In (listed_items c h.it l) e
      by q at here type true own =
          let r = listed-own c h.it.uses e own in
          in-front (own_items c h.it.uses h.it.exports) (items_at h.it.exports (take l.next l.order.items)) e (own-there c h.it.uses h.it.exports e r.0 here r.1)
      by q at here type false own =
          in-behind (own_items c h.it.uses h.it.exports) (items_at h.it.exports (take l.next l.order.items)) e
          (later-there q e at (not-own-later (lists_type e) (lists_own_resource c h.it.uses e) l.types_only own type))

  later-shown : (q : ℕ) (e : Name × ItemKind) → slice_get h.it.exports q ≡ Some e → is_later_at c h.it l.types_only q ≡ true → In (shown h.it l.types_only) e
  later-shown q e at later =
      let here : comes_later c h.it l.types_only e ≡ true = sym (ap (λ (o : Option (Name × ItemKind)). option_case o false (comes_later c h.it l.types_only)) at) ∙ later in
      shown-there h.it l.types_only e (at-in h.it.exports q e at) (λ is. later-types (lists_type e) (lists_own_resource c h.it.uses e) l.types_only here is)

  listed-shown : AllByRecursion (λ e. In (shown h.it l.types_only) e) (listed_items c h.it l)
  listed-shown = all-append (λ e. In (shown h.it l.types_only) e) (own_items c h.it.uses h.it.exports) (items_at h.it.exports (take l.next l.order.items))
      (own-all (λ e. In (shown h.it l.types_only) e) c h.it.uses h.it.exports (λ q e r at own. shown-there h.it l.types_only e (at-in h.it.exports q e at) (λ is. own-type c h.it.uses e r own)))
      (at-all (λ e. In (shown h.it l.types_only) e) h.it.exports (take l.next l.order.items)
      (λ j q e place at. later-shown q e at ((h.each q).0 (contains-at l.order.items j q (taken-at l.order.items l.next j q place).1))))

  -- It lists what its interface exports.
  pub all-listed : (n : Name) → find_name (shown h.it l.types_only) n ≡ find_name (listed_items c h.it l) n
  all-listed = same-names (listed_items c h.it l) (shown h.it l.types_only) (shown-once h.it l.types_only h.names) (λ e w. all-in (λ d. In (shown h.it l.types_only) d) (listed_items c h.it l) e listed-shown w) shown-listed
