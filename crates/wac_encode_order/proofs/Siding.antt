-- The items of a side in groups.
use Rattle.std.specs.Prelude.{◌↔◌, slice_get}
use Rattle.std.proofs.Common.{ℕ, zero, suc, ◌+◌, ◌<◌, ◌≤◌, ◌≡◌, ◌⊎◌, inl, inr, Bool, true, false, not, ◌&&◌, ◌==◌, if◌then◌else◌, List, [], ◌∷◌, ◌++◌, Option, Some, None, Contains, length, drop, refl, ap, sym, ◌∙◌, subst, arith, add-one, append_assoc}
use Rattle.std.proofs.lemmas.Bool.{eqb-true}
use Rattle.std.proofs.lemmas.List.{append-nil}
use Rattle.wac_types_shapes.specs.primitives.Name.{Name, option_case}
use Rattle.wac_types_shapes.specs.declared.shapes.component.ItemKind.{ItemKind}
use Rattle.wac_types_shapes.specs.declared.shapes.component.ItemKind.TheVariants as kind
use Rattle.wac_types_collection.specs.collection.Collection.{Collection}
use Rattle.wac_types_collection.specs.collection.Bound.{lists_type}
use Rattle.wac_edges.specs.cycles.Cycles.{Path}
use Rattle.wac_encode_order.specs.private.TypeItems.{Takes}
use Rattle.wac_edges.specs.Arranged.{Arranges, AreAll, IsOnce}
use Rattle.wac_encode_order.specs.private.SideOrder.{ReachesType, lists_instance, lists_rest, is_type_at, positions_of, counted_from, grouped, AreGroups}
use Rattle.wac_encode_order.proofs.Lists.{some-is, within, there-is}
use Rattle.wac_edges.proofs.KeySets.{In}
use Rattle.wac_edges.proofs.ArrangedLaws.{in_front, in_behind, in_either, in_contains, contains_in, Once, once_joined, once_at, arranges_each, arranges_only, arranges_once}
use Rattle.wac_encode_order.proofs.Listing.{dropped, dropped-all}

-- ---- positions, one after another
module _ (f : Name × ItemKind → Bool) (es : List (Name × ItemKind)) where
  pub picked-next : (i : ℕ) (e : Name × ItemKind) (old new all : List ℕ) → slice_get es i ≡ Some e → f e ≡ true → new ≡ old ++ i ∷ [] → old ++ positions_of f i (drop i es) ≡ all → new ++ positions_of f (i + 1) (drop (i + 1) es) ≡ all
  picked-next i e old new all at here is before =
      ap (λ (xs : List ℕ). xs ++ positions_of f (i + 1) (drop (i + 1) es)) is ∙ append_assoc old (i ∷ []) (positions_of f (i + 1) (drop (i + 1) es))
      ∙ ap (λ (n : ℕ). old ++ i ∷ positions_of f n (drop (i + 1) es)) (add-one i)
      ∙ sym (ap (λ (b : Bool). old ++ (if b then i ∷ positions_of f (suc i) (drop (i + 1) es) else positions_of f (suc i) (drop (i + 1) es))) here)
      ∙ sym (ap (λ (xs : List (Name × ItemKind)). old ++ positions_of f i xs) (dropped es i e at)) ∙ before

  pub picked-passed : (i : ℕ) (e : Name × ItemKind) (old new all : List ℕ) → slice_get es i ≡ Some e → f e ≡ false → new ≡ old → old ++ positions_of f i (drop i es) ≡ all → new ++ positions_of f (i + 1) (drop (i + 1) es) ≡ all
  picked-passed i e old new all at other is before =
      ap (λ (xs : List ℕ). xs ++ positions_of f (i + 1) (drop (i + 1) es)) is
      ∙ ap (λ (n : ℕ). old ++ positions_of f n (drop (i + 1) es)) (add-one i)
      ∙ sym (ap (λ (b : Bool). old ++ (if b then i ∷ positions_of f (suc i) (drop (i + 1) es) else positions_of f (suc i) (drop (i + 1) es))) other)
      ∙ sym (ap (λ (xs : List (Name × ItemKind)). old ++ positions_of f i xs) (dropped es i e at)) ∙ before

  pub picked-done : (i : ℕ) (now all : List ℕ) → length es ≤ i → now ++ positions_of f i (drop i es) ≡ all → now ≡ all
  picked-done i now all past before = sym (append-nil now) ∙ sym (ap (λ (xs : List (Name × ItemKind)). now ++ positions_of f i xs) (dropped-all es i past)) ∙ before

-- ---- which positions
module _ (f : Name × ItemKind → Bool) where
  IsAt : ℕ → List (Name × ItemKind) → ℕ → Type 0
  IsAt i es q = (j : ℕ) × (e : Name × ItemKind) × (q ≡ i + j) × (slice_get es j ≡ Some e) × (f e ≡ true)

  at-later : (i : ℕ) (e : Name × ItemKind) (es : List (Name × ItemKind)) (q : ℕ) → IsAt (suc i) es q → IsAt i (e ∷ es) q
  unfolding IsAt
  at-later i e es q (j, g, is, at, here) = (suc j, g, omega (arith, is), at, here)

  picked-at : (i : ℕ) (es : List (Name × ItemKind)) (q : ℕ) → In (positions_of f i es) q → IsAt i es q
  unfolding IsAt
  picked-at i [] q h = absurd h
  picked-at i (e ∷ es) q h = by (f e) refl h (λ w. picked-at (suc i) es q w)
    where
      by : (b : Bool) → f e ≡ b → In (if b then i ∷ positions_of f (suc i) es else positions_of f (suc i) es) q → (In (positions_of f (suc i) es) q → IsAt (suc i) es q) → IsAt i (e ∷ es) q
      by true here (inl same) more = (0, e, omega (arith, same), refl, here)
      by true here (inr w) more = at-later i e es q (more w)
      by false here w more = at-later i e es q (more w)

  at-picked : (i : ℕ) (es : List (Name × ItemKind)) (j : ℕ) (e : Name × ItemKind) → slice_get es j ≡ Some e → f e ≡ true → In (positions_of f i es) (i + j)
  at-picked i [] j e at here = let none_some : None ≡ Some e = at in cc
  at-picked i (g ∷ es) zero e at here =
      let same : f g ≡ true = ap f (some-is g e at) ∙ here in
      subst (λ (b : Bool). In (if b then i ∷ positions_of f (suc i) es else positions_of f (suc i) es) (i + 0)) (sym same) (inl (omega arith))
  at-picked i (g ∷ es) (suc j) e at here =
      let next : suc i + j ≡ i + suc j = omega arith in
      by (f g) (subst (In (positions_of f (suc i) es)) next (at-picked (suc i) es j e at here))
    where
      by : (b : Bool) → In (positions_of f (suc i) es) (i + suc j) → In (if b then i ∷ positions_of f (suc i) es else positions_of f (suc i) es) (i + suc j)
      by true w = inr w
      by false w = w

  pub picked-once : (i : ℕ) (es : List (Name × ItemKind)) → Once (positions_of f i es)
  unfolding IsAt
  picked-once i [] = tt
  picked-once i (e ∷ es) = by (f e) (picked-once (suc i) es)
    where
      later : IsAt (suc i) es i → ⊥
      later (j, g, is, at, here) = omega (arith, is)

      by : (b : Bool) → Once (positions_of f (suc i) es) → Once (if b then i ∷ positions_of f (suc i) es else positions_of f (suc i) es)
      by true o = (λ h. later (picked-at (suc i) es i h), o)
      by false o = o

  pub picked-item : (es : List (Name × ItemKind)) (q : ℕ) → In (positions_of f 0 es) q → (e : Name × ItemKind) × (slice_get es q ≡ Some e) × (f e ≡ true)
  unfolding IsAt
  picked-item es q h = by (picked-at 0 es q h)
    where
      by : IsAt 0 es q → (e : Name × ItemKind) × (slice_get es q ≡ Some e) × (f e ≡ true)
      by (j, e, is, at, here) = let same : j ≡ q = omega (arith, is) in (e, subst (λ (k : ℕ). slice_get es k ≡ Some e) same at, here)

  pub item-picked : (es : List (Name × ItemKind)) (q : ℕ) (e : Name × ItemKind) → slice_get es q ≡ Some e → f e ≡ true → In (positions_of f 0 es) q
  item-picked es q e at here = let same : 0 + q ≡ q = omega arith in subst (In (positions_of f 0 es)) same (at-picked 0 es q e at here)

-- ---- numbers that are counted
pub counted-next : (a n : ℕ) → counted_from a (n + 1) ≡ counted_from a n ++ (a + n) ∷ []
counted-next a zero = let same : a + 0 ≡ a = omega arith in ap (λ (k : ℕ). k ∷ []) (sym same)
counted-next a (suc n) = let same : suc a + n ≡ a + suc n = omega arith in let more : suc n + 1 ≡ suc (n + 1) = omega arith in ap (counted_from a) more ∙ ap (λ (xs : List ℕ). a ∷ xs) (counted-next (suc a) n ∙ ap (λ (k : ℕ). counted_from (suc a) n ++ k ∷ []) same)

counted-in : (a n q : ℕ) → In (counted_from a n) q → (a ≤ q) × (q < a + n)
counted-in a zero q h = absurd h
counted-in a (suc n) q (inl same) = (omega (arith, same), omega (arith, same))
counted-in a (suc n) q (inr h) = let w = counted-in (suc a) n q h in let low = w.0 in let high = w.1 in (omega (arith, low), omega (arith, high))

in-counted : (a n q : ℕ) → a ≤ q → q < a + n → In (counted_from a n) q
in-counted a zero q low high = absurd (omega (arith, low, high))
in-counted a (suc n) q low high = by (q == a) refl (λ more. in-counted (suc a) n q more (omega (arith, high)))
  where
    by : (b : Bool) → (q == a) ≡ b → (suc a ≤ q → In (counted_from (suc a) n) q) → (q ≡ a) ⊎ In (counted_from (suc a) n) q
    by true same later = inl (eqb-true q a same)
    by false other later = inr (later (let more : suc a ≤ q = grind (arith, low, other) in more))

counted-once : (a n : ℕ) → Once (counted_from a n)
counted-once a zero = tt
counted-once a (suc n) = (λ h. (let low = (counted-in (suc a) n a h).0 in omega (arith, low)), counted-once (suc a) n)

-- ---- the items that are taken
both : (a b : Bool) → (a && b) ≡ true → a ≡ true
both true b h = refl
both false b h = let no : false ≡ true = h in cc

module _ (R : ℕ → ℕ → Type 0) where
  pub taken-left : (left : ℕ → Bool) (ps : List ℕ) → Takes R left ps → (q : ℕ) → In ps q → left q ≡ true
  taken-left left [] t q h = absurd h
  taken-left left (p ∷ ps) t q (inl same) = ap left same ∙ t.0.here
  taken-left left (p ∷ ps) t q (inr h) = both (left q) (not (q == p)) (taken-left (λ r. left r && not (r == p)) ps t.1 q h)

  pub left-taken : (left : ℕ → Bool) (ps : List ℕ) → Takes R left ps → (q : ℕ) → left q ≡ true → In ps q
  left-taken left [] t q h = let no : false ≡ true = sym (t q) ∙ h in cc
  left-taken left (p ∷ ps) t q h = by (q == p) refl (left-taken (λ r. left r && not (r == p)) ps t.1 q)
    where
      by : (b : Bool) → (q == p) ≡ b → ((left q && not (q == p)) ≡ true → In ps q) → (q ≡ p) ⊎ In ps q
      by true same more = inl (eqb-true q p same)
      by false other more = inr (more (ap (λ (b : Bool). b && not (q == p)) h ∙ ap not other))

  pub taken-once : (left : ℕ → Bool) (ps : List ℕ) → Takes R left ps → Once ps
  taken-once left [] t = tt
  taken-once left (p ∷ ps) t = (λ h. gone (taken-left (λ r. left r && not (r == p)) ps t.1 p h), taken-once (λ r. left r && not (r == p)) ps t.1)
    where
      gone : (left p && not (p == p)) ≡ true → ⊥
      gone h = grind (arith, h)

-- ---- sorts of items
item-sort : (e : Name × ItemKind) → (lists_instance e ≡ true) ⊎ ((lists_type e ≡ true) ⊎ (lists_rest e ≡ true))
item-sort (n, kind.Instance i) = inl refl
item-sort (n, kind.TypeItem t) = inr (inl refl)
item-sort (n, kind.Func f) = inr (inr refl)
item-sort (n, kind.Component w) = inr (inr refl)
item-sort (n, kind.Module m) = inr (inr refl)
item-sort (n, kind.Value v) = inr (inr refl)

no-type : (e : Name × ItemKind) → lists_instance e ≡ true → lists_type e ≡ false
no-type (n, kind.Instance i) h = refl
no-type (n, kind.TypeItem t) h = let no : false ≡ true = h in cc
no-type (n, kind.Func f) h = refl
no-type (n, kind.Component w) h = refl
no-type (n, kind.Module m) h = refl
no-type (n, kind.Value v) h = refl

no-rest : (e : Name × ItemKind) → lists_rest e ≡ true → (lists_instance e ≡ false) × (lists_type e ≡ false)
no-rest (n, kind.Instance i) h = let no : false ≡ true = h in absurd (cc)
no-rest (n, kind.TypeItem t) h = let no : false ≡ true = h in absurd (cc)
no-rest (n, kind.Func f) h = (refl, refl)
no-rest (n, kind.Component w) h = (refl, refl)
no-rest (n, kind.Module m) h = (refl, refl)
no-rest (n, kind.Value v) h = (refl, refl)

-- ---- the groups
module _ (c : Collection) (es : List (Name × ItemKind)) (n : ℕ) (all : List ℕ) (groups : AreGroups c es n all) where
  ts : List ℕ
  ts = groups.types

  type-at : (q : ℕ) → In ts q → (e : Name × ItemKind) × (slice_get es q ≡ Some e) × (lists_type e ≡ true)
  unfolding ts
  type-at q h = by (slice_get es q) refl (taken-left (ReachesType c es) (is_type_at es) groups.types groups.taken q h)
    where
      by : (o : Option (Name × ItemKind)) → slice_get es q ≡ o → option_case o false lists_type ≡ true → (e : Name × ItemKind) × (slice_get es q ≡ Some e) × (lists_type e ≡ true)
      by None at is = let no : false ≡ true = is in cc
      by (Some e) at is = (e, at, is)

  at-type : (q : ℕ) (e : Name × ItemKind) → slice_get es q ≡ Some e → lists_type e ≡ true → In ts q
  unfolding ts
  at-type q e at is = left-taken (ReachesType c es) (is_type_at es) groups.types groups.taken q (ap (λ (o : Option (Name × ItemKind)). option_case o false lists_type) at ∙ is)

  -- an item is in one group
  one-item : (q : ℕ) (d e : Name × ItemKind) → slice_get es q ≡ Some d → slice_get es q ≡ Some e → d ≡ e
  one-item q d e at also = some-is d e (sym at ∙ also)

  low-item : (q : ℕ) (e : Name × ItemKind) → slice_get es q ≡ Some e → q < length es
  low-item q e at = within es q e at

  rest-apart : (q : ℕ) → In ts q → In (positions_of lists_rest 0 es) q → ⊥
  rest-apart q h k =
      let d = type-at q h in
      let e = picked-item lists_rest es q k in
      let no : lists_type e.0 ≡ false = (no-rest e.0 e.2).1 in
      let yes_ : lists_type e.0 ≡ true = ap lists_type (sym (one-item q d.0 e.0 d.1 e.1)) ∙ d.2 in
      cc

  counted-apart : (q : ℕ) → In (counted_from (length es) n) q → In (ts ++ positions_of lists_rest 0 es) q → ⊥
  counted-apart q h k = by (in_either ts (positions_of lists_rest 0 es) q k)
    where
      far : (e : Name × ItemKind) → slice_get es q ≡ Some e → ⊥
      far e at = let low = low-item q e at in let high = (counted-in (length es) n q h).0 in omega (arith, low, high)

      by : In ts q ⊎ In (positions_of lists_rest 0 es) q → ⊥
      by (inl w) = let d = type-at q w in far d.0 d.1
      by (inr w) = let e = picked-item lists_rest es q w in far e.0 e.1

  instance-apart : (q : ℕ) → In (positions_of lists_instance 0 es) q → In (counted_from (length es) n ++ (ts ++ positions_of lists_rest 0 es)) q → ⊥
  instance-apart q h k = by (in_either (counted_from (length es) n) (ts ++ positions_of lists_rest 0 es) q k)
    where
      d : (e : Name × ItemKind) × (slice_get es q ≡ Some e) × (lists_instance e ≡ true)
      d = picked-item lists_instance es q h

      later : In ts q ⊎ In (positions_of lists_rest 0 es) q → ⊥
      later (inl w) =
          let e = type-at q w in
          let no : lists_type d.0 ≡ false = no-type d.0 d.2 in
          let yes_ : lists_type d.0 ≡ true = ap lists_type (one-item q d.0 e.0 d.1 e.1) ∙ e.2 in
          cc
      later (inr w) =
          let e = picked-item lists_rest es q w in
          let no : lists_instance e.0 ≡ false = (no-rest e.0 e.2).0 in
          let yes_ : lists_instance e.0 ≡ true = ap lists_instance (sym (one-item q d.0 e.0 d.1 e.1)) ∙ d.2 in
          cc

      by : In (counted_from (length es) n) q ⊎ In (ts ++ positions_of lists_rest 0 es) q → ⊥
      by (inl w) = let low = low-item q d.0 d.1 in let high = (counted-in (length es) n q w).0 in omega (arith, low, high)
      by (inr w) = later (in_either ts (positions_of lists_rest 0 es) q w)

  groups-once : Once (grouped es n ts)
  unfolding ts
  groups-once =
      once_joined (positions_of lists_instance 0 es) (counted_from (length es) n ++ (ts ++ positions_of lists_rest 0 es)) (picked-once lists_instance 0 es)
      (once_joined (counted_from (length es) n) (ts ++ positions_of lists_rest 0 es) (counted-once (length es) n)
      (once_joined ts (positions_of lists_rest 0 es) (taken-once (ReachesType c es) (is_type_at es) groups.types groups.taken) (picked-once lists_rest 0 es) rest-apart) counted-apart) instance-apart

  groups-low : (q : ℕ) → In (grouped es n ts) q → q < length es + n
  groups-low q h = first (in_either (positions_of lists_instance 0 es) (counted_from (length es) n ++ (ts ++ positions_of lists_rest 0 es)) q h)
    where
      item : (e : Name × ItemKind) → slice_get es q ≡ Some e → q < length es + n
      item e at = let low = low-item q e at in omega (arith, low)

      third : In ts q ⊎ In (positions_of lists_rest 0 es) q → q < length es + n
      third (inl w) = let e = type-at q w in item e.0 e.1
      third (inr w) = let e = picked-item lists_rest es q w in item e.0 e.1

      second : In (counted_from (length es) n) q ⊎ In (ts ++ positions_of lists_rest 0 es) q → q < length es + n
      second (inl w) = (counted-in (length es) n q w).1
      second (inr w) = third (in_either ts (positions_of lists_rest 0 es) q w)

      first : In (positions_of lists_instance 0 es) q ⊎ In (counted_from (length es) n ++ (ts ++ positions_of lists_rest 0 es)) q → q < length es + n
      first (inl w) = let e = picked-item lists_instance es q w in item e.0 e.1
      first (inr w) = second (in_either (counted_from (length es) n) (ts ++ positions_of lists_rest 0 es) q w)

  low-groups : (q : ℕ) → q < length es + n → In (grouped es n ts) q
  low-groups q low = by (side q (length es))
    where
      side : (q m : ℕ) → (q < m) ⊎ (m ≤ q)
      side q m = grind arith

      front : In (positions_of lists_instance 0 es) q → In (grouped es n ts) q
      front w = in_front (positions_of lists_instance 0 es) (counted_from (length es) n ++ (ts ++ positions_of lists_rest 0 es)) q w

      behind : In (counted_from (length es) n ++ (ts ++ positions_of lists_rest 0 es)) q → In (grouped es n ts) q
      behind w = in_behind (positions_of lists_instance 0 es) (counted_from (length es) n ++ (ts ++ positions_of lists_rest 0 es)) q w

      last : In (ts ++ positions_of lists_rest 0 es) q → In (grouped es n ts) q
      last w = behind (in_behind (counted_from (length es) n) (ts ++ positions_of lists_rest 0 es) q w)

      by_sort : (e : Name × ItemKind) → slice_get es q ≡ Some e → (lists_instance e ≡ true) ⊎ ((lists_type e ≡ true) ⊎ (lists_rest e ≡ true)) → In (grouped es n ts) q
      by_sort e at (inl is) = front (item-picked lists_instance es q e at is)
      by_sort e at (inr (inl is)) = last (in_front ts (positions_of lists_rest 0 es) q (at-type q e at is))
      by_sort e at (inr (inr is)) = last (in_behind ts (positions_of lists_rest 0 es) q (item-picked lists_rest es q e at is))

      by : (q < length es) ⊎ (length es ≤ q) → In (grouped es n ts) q
      by (inl less) = let e = there-is es q less in by_sort e.0 e.1 (item-sort e.0)
      by (inr more) = behind (in_front (counted_from (length es) n) (ts ++ positions_of lists_rest 0 es) q (in-counted (length es) n q more low))

  same-all : all ≡ grouped es n ts
  unfolding ts
  same-all = groups.is

  pub all-in : (q : ℕ) → In all q → q < length es + n
  all-in q h = groups-low q (subst (λ (xs : List ℕ). In xs q) same-all h)

  pub in-all : (q : ℕ) → q < length es + n → In all q
  in-all q low = subst (λ (xs : List ℕ). In xs q) (sym same-all) (low-groups q low)

  pub are-all : AreAll (length es + n) all
  are-all k = (λ h. all-in k (contains_in all k h), λ low. in_contains all k (in-all k low))

  pub are-once : IsOnce all
  are-once = once_at all (subst Once (sym same-all) groups-once)

  -- ---- the order
  module _ (R : ℕ → ℕ → Type 0) (order : List ℕ) (arranged : Arranges R all [] all order) where
    pub order-each : (k : ℕ) → (Contains order k ↔ k < length es + n)
    order-each k = (
      λ h. arranges_only R all (λ q. q < length es + n) all-in [] all order arranged (λ q w. absurd w) all-in k (contains_in order k h),
      λ low. in_contains order k (arranges_each R all [] all order arranged k (in-all k low)),
    )

    pub order-once : ((m : ℕ) → Path R m m → ⊥) → IsOnce order
    order-once ordered = once_at order (arranges_once R all ordered [] all order arranged tt)

-- ---- the type items, and the groups
pub in-groups : (c : Collection) (es : List (Name × ItemKind)) (n len : ℕ) (types shown first a b d all : List ℕ) → Takes (ReachesType c es) (is_type_at es) types → len ≡ length es → shown ≡ types → first ≡ []
    → a ≡ first ++ positions_of lists_instance 0 es → b ≡ a ++ counted_from len n → d ≡ b ++ shown → all ≡ d ++ positions_of lists_rest 0 es → AreGroups c es n all
in-groups c es n len types shown first a b d all takes long same none one two three four =
    let instances : List ℕ = positions_of lists_instance 0 es in
    let counted : List ℕ = counted_from (length es) n in
    let rest : List ℕ = positions_of lists_rest 0 es in
    record {
      types = types;
      taken = takes;
      is = four ∙ ap (λ xs. xs ++ rest) (three ∙ ap (λ xs. xs ++ shown) (two ∙ ap (λ xs. xs ++ counted_from len n) (one ∙ ap (λ xs. xs ++ instances) none)))
          ∙ ap (λ (k : ℕ). ((instances ++ counted_from k n) ++ shown) ++ rest) long
          ∙ ap (λ (xs : List ℕ). ((instances ++ counted) ++ xs) ++ rest) same
          ∙ append_assoc (instances ++ counted) types rest
          ∙ append_assoc instances counted (types ++ rest);
    }
