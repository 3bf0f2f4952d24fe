-- Type items in order, with those of resources among them.
use Rattle.std.specs.Prelude.{◌==◌, ltb, slice_get}
use Rattle.std.proofs.Common.{ℕ, zero, suc, ◌+◌, ◌<◌, ◌≤◌, ◌≡◌, ◌⊎◌, inl, inr, Bool, true, false, not, ◌&&◌, if◌then◌else◌, List, [], ◌∷◌, ◌++◌, Option, Some, None, Result, Ok, Err, IfOk, Vec, Global, length, map, drop, get_or, refl, ap, sym, ◌∙◌, subst, arith, add-one, append_assoc}
use Rattle.std.proofs.lemmas.Bool.{eqb-true}
use Rattle.std.proofs.lemmas.List.{append-nil}
use Rattle.wac_types_shapes.specs.primitives.Name.{Name, option_case}
use Rattle.wac_types_shapes.specs.declared.shapes.component.ResourceId.{ResourceId}
use Rattle.wac_types_shapes.specs.declared.shapes.component.ItemKind.{ItemKind}
use Rattle.wac_types_shapes.specs.declared.shapes.component.ItemKind.TheVariants as kind
use Rattle.wac_types_shapes.specs.declared.shapes.component.«Type».{«Type» as AnyType}
use Rattle.wac_types_shapes.specs.declared.shapes.component.«Type».TheVariants as ty
use Rattle.wac_types_collection.specs.collection.Collection.{Collection}
use Rattle.wac_types_collection.specs.collection.Aliases.{type_resolved}
use Rattle.wac_types_collection.specs.collection.Held.{resolved}
use Rattle.wac_types_collection.specs.reach.Reach.{IsIn}
use Rattle.wac_types_collection.specs.collection.Bound.{lists_type}
use Rattle.wac_encode_order.specs.private.TypeItems.{made_of, IsMadeOf, at_once, further, Reaches, IsNext, Takes}
use Rattle.wac_encode_order.specs.private.SideOrder.{is_type_at, lists_resource, is_resource_at, ReachesType, positions_of}
use Rattle.wac_encode_order.specs.private.Graph.{is_set}
use Rattle.wac_encode_order.specs.private.Merging.{lists_plain_type, taken_below, rest_from, merged}
use Rattle.wac_encode_order.proofs.Lists.{some-is}
use Rattle.wac_edges.proofs.KeySets.{In}
use Rattle.wac_encode_order.proofs.Naming.{item-one}
use Rattle.wac_encode_order.proofs.Listing.{get-flag, takes-alike}
use Rattle.wac_encode_order.proofs.Siding.{picked-item, item-picked}

-- ---- tests

both-first : (a b : Bool) → (a && b) ≡ true → a ≡ true
both-first true b h = refl
both-first false b h = let wrong : false ≡ true = h in cc

both-second : (a b : Bool) → (a && b) ≡ true → b ≡ true
both-second true b h = h
both-second false b h = let wrong : false ≡ true = h in cc

not-true : (b : Bool) → not b ≡ true → b ≡ false
not-true true h = let wrong : false ≡ true = h in cc
not-true false h = refl

not-both : (b : Bool) → b ≡ true → b ≡ false → ⊥
not-both b yes_ other = let wrong : true ≡ false = sym yes_ ∙ other in cc

is-false : (b : Bool) → (b ≡ true → ⊥) → b ≡ false
is-false true h = absurd (h refl)
is-false false h = refl

and-apart : (b : Bool) (q n : ℕ) → b ≡ true → (q ≡ n → ⊥) → (b && not (q == n)) ≡ true
and-apart b q n h apart = ap (λ (x : Bool). x && not (q == n)) h ∙ ap not (is-false (q == n) (λ same. apart (eqb-true q n same)))

apart-and : (b : Bool) (q n : ℕ) → (b && not (q == n)) ≡ true → q ≡ n → ⊥
apart-and b q n h same =
    let other : (q == n) ≡ false = not-true (q == n) (both-second b (not (q == n)) h) in
    grind (arith, other, same)

-- ---- a resource reaches nothing

made-none : (c : Collection) (t u : AnyType) → IsMadeOf c t u → (r : ResourceId) → t ≡ ty.Resource r → ⊥
made-none c t _ (at_once u part) r is = subst (λ (x : AnyType). IsIn u (made_of c x)) is part
made-none c t _ (further u v made part) r is = made-none c t u made r is

module _ (c : Collection) (es : List (Name × ItemKind)) where
  resource-at : (o : Option (Name × ItemKind)) → option_case o false lists_resource ≡ true → (n : Name) × (r : ResourceId) × (o ≡ Some (n, kind.TypeItem (ty.Resource r)))
  resource-at None h = let wrong : false ≡ true = h in cc
  resource-at (Some (n, kind.TypeItem (ty.Resource r))) h = (n, r, refl)
  resource-at (Some (n, kind.TypeItem (ty.Func f))) h = let wrong : false ≡ true = h in cc
  resource-at (Some (n, kind.TypeItem (ty.Value v))) h = let wrong : false ≡ true = h in cc
  resource-at (Some (n, kind.TypeItem (ty.Interface i))) h = let wrong : false ≡ true = h in cc
  resource-at (Some (n, kind.TypeItem (ty.World w))) h = let wrong : false ≡ true = h in cc
  resource-at (Some (n, kind.TypeItem (ty.Module m))) h = let wrong : false ≡ true = h in cc
  resource-at (Some (n, kind.Func f)) h = let wrong : false ≡ true = h in cc
  resource-at (Some (n, kind.Instance i)) h = let wrong : false ≡ true = h in cc
  resource-at (Some (n, kind.Component w)) h = let wrong : false ≡ true = h in cc
  resource-at (Some (n, kind.Module m)) h = let wrong : false ≡ true = h in cc
  resource-at (Some (n, kind.Value v)) h = let wrong : false ≡ true = h in cc

  reaches-none : (p q : ℕ) → is_resource_at es p ≡ true → Reaches c es p q → ⊥
  reaches-none p q h r =
      let found = resource-at (slice_get es p) h in
      let same : r.type ≡ ty.Resource found.1 = item-one es p (ty.Resource found.1) r.type (found.0, found.2) r.there in
      made-none c (type_resolved c r.type) r.part r.made (resolved c found.1) (ap (type_resolved c) same)

-- ---- the two lists as one

abbrev Rising : List ℕ → Type 0
Rising [] = Unit {0}
Rising (r ∷ rs) = ((q : ℕ) → In rs q → r < q) × Rising rs

-- What is left: the items of the first list, and the resources.
record Split (es : List (Name × ItemKind)) (left plain : ℕ → Bool) (rs : List ℕ) : Type 0 where
  into : (q : ℕ) → left q ≡ true → (plain q ≡ true) ⊎ In rs q
  first : (q : ℕ) → plain q ≡ true → left q ≡ true
  second : (q : ℕ) → In rs q → left q ≡ true
  other : (q : ℕ) → plain q ≡ true → is_resource_at es q ≡ false
  resource : (q : ℕ) → In rs q → is_resource_at es q ≡ true
  rising : Rising rs

module _ (c : Collection) (es : List (Name × ItemKind)) where
  reached-type : (left plain : ℕ → Bool) (rs : List ℕ) → Split es left plain rs → (q : ℕ) → (r : ℕ) × (plain r ≡ true) × Reaches c es q r → (r : ℕ) × (left r ≡ true) × ReachesType c es q r
  reached-type left plain rs s q w = (w.0, s.first w.0 w.1, record { reaches = w.2; other = s.other w.0 w.1 })

  -- the next of the first list
  next-plain : (left plain : ℕ → Bool) (rs : List ℕ) (n : ℕ) → Split es left plain rs → ((q : ℕ) → In rs q → n < q) → IsNext (Reaches c es) plain n → IsNext (ReachesType c es) left n
  next-plain left plain rs n s low next = record {
    here = s.first n next.here;
    free = λ q h r. free_ q r (s.into q h);
    before = λ q less h. before_ q less (s.into q h);
  }
    where
      free_ : (q : ℕ) → ReachesType c es n q → (plain q ≡ true) ⊎ In rs q → ⊥
      free_ q r (inl there) = next.free q there r.reaches
      free_ q r (inr there) = not-both (is_resource_at es q) (s.resource q there) r.other

      before_ : (q : ℕ) → q < n → (plain q ≡ true) ⊎ In rs q → (r : ℕ) × (left r ≡ true) × ReachesType c es q r
      before_ q less (inl there) = reached-type left plain rs s q (next.before q less there)
      before_ q less (inr there) = let high = low q there in absurd (omega (arith, less, high))

  without-plain : (left plain : ℕ → Bool) (rs : List ℕ) (n : ℕ) → Split es left plain rs → plain n ≡ true → Split es (λ q. left q && not (q == n)) (λ q. plain q && not (q == n)) rs
  without-plain left plain rs n s here = record {
    into = λ q h. into_ q h (s.into q (both-first (left q) (not (q == n)) h));
    first = λ q h. and-apart (left q) q n (s.first q (both-first (plain q) (not (q == n)) h)) (apart-and (plain q) q n h);
    second = λ q h. and-apart (left q) q n (s.second q h) (λ same. not-both (is_resource_at es q) (s.resource q h) (ap (is_resource_at es) same ∙ s.other n here));
    other = λ q h. s.other q (both-first (plain q) (not (q == n)) h);
    resource = s.resource;
    rising = s.rising;
  }
    where
      into_ : (q : ℕ) → (left q && not (q == n)) ≡ true → (plain q ≡ true) ⊎ In rs q → ((plain q && not (q == n)) ≡ true) ⊎ In rs q
      into_ q h (inl there) = inl (and-apart (plain q) q n there (apart-and (left q) q n h))
      into_ q h (inr there) = inr there

  -- the next resource
  next-resource : (left plain : ℕ → Bool) (r : ℕ) (rs : List ℕ) → Split es left plain (r ∷ rs) → ((q : ℕ) → q < r → plain q ≡ true → (p : ℕ) × (plain p ≡ true) × Reaches c es q p) → IsNext (ReachesType c es) left r
  next-resource left plain r rs s waits = record {
    here = s.second r (inl refl);
    free = λ q h x. reaches-none c es r q (s.resource r (inl refl)) x.reaches;
    before = λ q less h. before_ q less (s.into q h);
  }
    where
      before_ : (q : ℕ) → q < r → (plain q ≡ true) ⊎ In (r ∷ rs) q → (p : ℕ) × (left p ≡ true) × ReachesType c es q p
      before_ q less (inl there) = reached-type left plain (r ∷ rs) s q (waits q less there)
      before_ q less (inr (inl same)) = absurd (omega (arith, less, same))
      before_ q less (inr (inr there)) = let high = s.rising.0 q there in absurd (omega (arith, less, high))

  without-resource : (left plain : ℕ → Bool) (r : ℕ) (rs : List ℕ) → Split es left plain (r ∷ rs) → Split es (λ q. left q && not (q == r)) plain rs
  without-resource left plain r rs s = record {
    into = λ q h. into_ q h (s.into q (both-first (left q) (not (q == r)) h));
    first = λ q h. and-apart (left q) q r (s.first q h) (λ same. not-both (is_resource_at es q) (ap (is_resource_at es) same ∙ s.resource r (inl refl)) (s.other q h));
    second = λ q h. and-apart (left q) q r (s.second q (inr h)) (λ same. (let high = s.rising.0 q h in omega (arith, same, high)));
    other = s.other;
    resource = λ q h. s.resource q (inr h);
    rising = s.rising.1;
  }
    where
      into_ : (q : ℕ) → (left q && not (q == r)) ≡ true → (plain q ≡ true) ⊎ In (r ∷ rs) q → (plain q ≡ true) ⊎ In rs q
      into_ q h (inl there) = inl there
      into_ q h (inr (inl same)) = absurd (apart-and (left q) q r h same)
      into_ q h (inr (inr there)) = inr there

  abbrev Merges : List ℕ → Type 0
  Merges rs = (ns : List ℕ) (left plain : ℕ → Bool) → Split es left plain rs → Takes (Reaches c es) plain ns → Takes (ReachesType c es) left (merged ns rs)

  plain-alone : Merges []
  plain-alone [] left plain s takes = λ p. is-false (left p) (λ h. none p (s.into p h))
    where
      none : (p : ℕ) → (plain p ≡ true) ⊎ In [] p → ⊥
      none p (inl there) = not-both (plain p) there (takes p)
      none p (inr there) = there
  plain-alone (n ∷ ns) left plain s takes = (
    next-plain left plain [] n s (λ q h. absurd h) takes.0,
    plain-alone ns (λ q. left q && not (q == n)) (λ q. plain q && not (q == n)) (without-plain left plain [] n s takes.0.here) takes.1,
  )

  with-resource : (r : ℕ) (rs : List ℕ) → Merges rs → Merges (r ∷ rs)
  with-resource r rs rec [] left plain s takes = (
    next-resource left plain r rs s (λ q less h. absurd (not-both (plain q) h (takes q))),
    rec [] (λ q. left q && not (q == r)) plain (without-resource left plain r rs s) takes,
  )
  with-resource r rs rec (n ∷ ns) left plain s takes = by (ltb n r) refl (with-resource r rs rec ns (λ q. left q && not (q == n)) (λ q. plain q && not (q == n)) (without-plain left plain (r ∷ rs) n s takes.0.here) takes.1)
    where
      above : n < r → (q : ℕ) → In (r ∷ rs) q → n < q
      above less q (inl same) = omega (arith, less, same)
      above less q (inr there) = let high = s.rising.0 q there in omega (arith, less, high)

      by : (b : Bool) → ltb n r ≡ b → Takes (ReachesType c es) (λ q. left q && not (q == n)) (merged ns (r ∷ rs))
          → Takes (ReachesType c es) left ((if b then n ∷ taken_below r ns else []) ++ (r ∷ merged (if b then rest_from r ns else n ∷ ns) rs))
      by true less more = (next-plain left plain (r ∷ rs) n s (above (let below : n < r = grind (arith, less) in below)) takes.0, more)
      by false high more = (
        next-resource left plain r rs s (λ q less h. takes.0.before q (let below : q < n = grind (arith, less, high) in below) h),
        rec (n ∷ ns) (λ q. left q && not (q == r)) plain (without-resource left plain r rs s) takes,
      )

  merges : (rs : List ℕ) → Merges rs
  merges [] = plain-alone
  merges (r ∷ rs) = with-resource r rs (merges rs)

-- ---- the type items of a side

picked-low : (f : Name × ItemKind → Bool) (i : ℕ) (es : List (Name × ItemKind)) (q : ℕ) → In (positions_of f i es) q → i ≤ q
picked-low f i [] q h = absurd h
picked-low f i (e ∷ es) q h = by (f e) h (λ w. (let low = picked-low f (suc i) es q w in omega (arith, low)))
  where
    by : (b : Bool) → In (if b then i ∷ positions_of f (suc i) es else positions_of f (suc i) es) q → (In (positions_of f (suc i) es) q → i ≤ q) → i ≤ q
    by true (inl same) later = omega (arith, same)
    by true (inr w) later = later w
    by false w later = later w

picked-rising : (f : Name × ItemKind → Bool) (i : ℕ) (es : List (Name × ItemKind)) → Rising (positions_of f i es)
picked-rising f i [] = tt
picked-rising f i (e ∷ es) = by (f e) (picked-rising f (suc i) es)
  where
    by : (b : Bool) → Rising (positions_of f (suc i) es) → Rising (if b then i ∷ positions_of f (suc i) es else positions_of f (suc i) es)
    by true rest = ((λ q h. (let low = picked-low f (suc i) es q h in omega (arith, low))), rest)
    by false rest = rest

resource-type : (e : Name × ItemKind) → lists_resource e ≡ true → lists_type e ≡ true
resource-type (n, kind.TypeItem t) h = refl
resource-type (n, kind.Func f) h = let wrong : false ≡ true = h in cc
resource-type (n, kind.Instance i) h = let wrong : false ≡ true = h in cc
resource-type (n, kind.Component w) h = let wrong : false ≡ true = h in cc
resource-type (n, kind.Module m) h = let wrong : false ≡ true = h in cc
resource-type (n, kind.Value v) h = let wrong : false ≡ true = h in cc

module _ (es : List (Name × ItemKind)) where
  type-first : (o : Option (Name × ItemKind)) → option_case o false lists_plain_type ≡ true → option_case o false lists_type ≡ true
  type-first None h = h
  type-first (Some e) h = both-first (lists_type e) (not (lists_resource e)) h

  no-resource : (o : Option (Name × ItemKind)) → option_case o false lists_plain_type ≡ true → option_case o false lists_resource ≡ false
  no-resource None h = refl
  no-resource (Some e) h = not-true (lists_resource e) (both-second (lists_type e) (not (lists_resource e)) h)

  type-items : Split es (is_type_at es) (λ q. option_case (slice_get es q) false lists_plain_type) (positions_of lists_resource 0 es)
  type-items = record {
    into = λ q h. into_ q (slice_get es q) refl h;
    first = λ q h. type-first (slice_get es q) h;
    second = λ q h. (let e = picked-item lists_resource es q h in ap (λ (o : Option (Name × ItemKind)). option_case o false lists_type) e.1 ∙ resource-type e.0 e.2);
    other = λ q h. no-resource (slice_get es q) h;
    resource = λ q h. (let e = picked-item lists_resource es q h in ap (λ (o : Option (Name × ItemKind)). option_case o false lists_resource) e.1 ∙ e.2);
    rising = picked-rising lists_resource 0 es;
  }
    where
      into_ : (q : ℕ) (o : Option (Name × ItemKind)) → slice_get es q ≡ o → option_case o false lists_type ≡ true → (option_case o false lists_plain_type ≡ true) ⊎ In (positions_of lists_resource 0 es) q
      into_ q None at h = let wrong : false ≡ true = h in cc
      into_ q (Some e) at h = by (lists_resource e) refl
        where
          by : (b : Bool) → lists_resource e ≡ b → ((lists_type e && not (lists_resource e)) ≡ true) ⊎ In (positions_of lists_resource 0 es) q
          by true is = inr (item-picked lists_resource es q e at is)
          by false is = inl (ap (λ (x : Bool). x && not (lists_resource e)) h ∙ ap not is)

pub types-taken : {E : Type 0} (c : Collection) (es : List (Name × ItemKind)) (chosen : List Bool) (plain : List ℕ) → chosen ≡ map lists_plain_type es → Takes (Reaches c es) (is_set chosen) plain → (numbers : List ℕ) → numbers ≡ plain
    → (r : Result (Vec ℕ Global) E) → IfOk r (λ order. order.items ≡ merged numbers (positions_of lists_resource 0 es)) → IfOk r (λ order. Takes (ReachesType c es) (is_type_at es) order.items)
types-taken c es chosen plain is takes numbers same (Ok v) all =
    subst (Takes (ReachesType c es) (is_type_at es)) (sym (all ∙ ap (λ (ns : List ℕ). merged ns (positions_of lists_resource 0 es)) same))
    (merges c es (positions_of lists_resource 0 es) plain (is_type_at es) (λ q. option_case (slice_get es q) false lists_plain_type) (type-items es)
    (takes-alike (Reaches c es) (is_set chosen) (λ q. option_case (slice_get es q) false lists_plain_type) plain (λ p. ap (λ (xs : List Bool). get_or xs p false) is ∙ get-flag lists_plain_type es p) takes))
types-taken c es chosen plain is takes numbers same (Err e) all = tt

-- ---- what the loops append

pub dropped-number : (ns : List ℕ) (i n : ℕ) → slice_get ns i ≡ Some n → drop i ns ≡ n ∷ drop (i + 1) ns
dropped-number [] i n at = let none_some : None ≡ Some n = at in cc
dropped-number (m ∷ ns) zero n at = ap (λ (x : ℕ). x ∷ ns) (some-is m n at)
dropped-number (m ∷ ns) (suc i) n at = let same : suc (i + 1) ≡ suc i + 1 = omega arith in dropped-number ns i n at ∙ ap (λ (k : ℕ). n ∷ drop k (m ∷ ns)) same

pub dropped-none : (ns : List ℕ) (i : ℕ) → length ns ≤ i → drop i ns ≡ []
dropped-none [] zero past = refl
dropped-none [] (suc i) past = refl
dropped-none (n ∷ ns) zero past = absurd (omega (arith, past))
dropped-none (n ∷ ns) (suc i) past = dropped-none ns i (omega (arith, past))

-- while numbers below the end are appended
pub record Below (old now : List ℕ) (ns : List ℕ) (end next at : ℕ) : Type 0 where
  pub added : now ++ taken_below end (drop at ns) ≡ old ++ taken_below end (drop next ns)
  pub rest : rest_from end (drop at ns) ≡ rest_from end (drop next ns)

pub below-first : (old ns : List ℕ) (end next at : ℕ) → at ≡ next → Below old old ns end next at
below-first old ns end next at is = record {
  added = ap (λ (k : ℕ). old ++ taken_below end (drop k ns)) is;
  rest = ap (λ (k : ℕ). rest_from end (drop k ns)) is;
}

ltb-true : (n m : ℕ) → n < m → ltb n m ≡ true
ltb-true n m less = grind (arith, less)

ltb-false : (n m : ℕ) → m ≤ n → ltb n m ≡ false
ltb-false n m high = grind (arith, high)

pub below-next : (old now new ns : List ℕ) (end next at n : ℕ) → slice_get ns at ≡ Some n → n < end → new ≡ now ++ n ∷ [] → Below old now ns end next at → Below old new ns end next (at + 1)
below-next old now new ns end next at n here less is h =
    let test = ltb-true n end less in
    let taken : taken_below end (drop at ns) ≡ n ∷ taken_below end (drop (at + 1) ns) = ap (taken_below end) (dropped-number ns at n here) ∙ ap (λ (b : Bool). if b then n ∷ taken_below end (drop (at + 1) ns) else []) test in
    let left : rest_from end (drop at ns) ≡ rest_from end (drop (at + 1) ns) = ap (rest_from end) (dropped-number ns at n here) ∙ ap (λ (b : Bool). if b then rest_from end (drop (at + 1) ns) else n ∷ drop (at + 1) ns) test in
    record {
      added = ap (λ (xs : List ℕ). xs ++ taken_below end (drop (at + 1) ns)) is ∙ append_assoc now (n ∷ []) (taken_below end (drop (at + 1) ns)) ∙ ap (λ (xs : List ℕ). now ++ xs) (sym taken) ∙ h.added;
      rest = sym left ∙ h.rest;
    }

abbrev pub Stopped : List ℕ → List ℕ → List ℕ → ℕ → ℕ → ℕ → Type 0
Stopped old now ns end next at = (now ≡ old ++ taken_below end (drop next ns)) × (drop at ns ≡ rest_from end (drop next ns))

pub below-stops : (old now ns : List ℕ) (end next at n : ℕ) → slice_get ns at ≡ Some n → end ≤ n → Below old now ns end next at → Stopped old now ns end next at
below-stops old now ns end next at n here high h =
    let test = ltb-false n end high in
    let taken : taken_below end (drop at ns) ≡ [] = ap (taken_below end) (dropped-number ns at n here) ∙ ap (λ (b : Bool). if b then n ∷ taken_below end (drop (at + 1) ns) else []) test in
    let left : rest_from end (drop at ns) ≡ drop at ns = ap (rest_from end) (dropped-number ns at n here) ∙ ap (λ (b : Bool). if b then rest_from end (drop (at + 1) ns) else n ∷ drop (at + 1) ns) test ∙ sym (dropped-number ns at n here) in
    (sym (append-nil now) ∙ ap (λ (xs : List ℕ). now ++ xs) (sym taken) ∙ h.added, sym left ∙ h.rest)

pub below-ends : (old now ns : List ℕ) (end next at : ℕ) → length ns ≤ at → Below old now ns end next at → Stopped old now ns end next at
below-ends old now ns end next at past h =
    let none = dropped-none ns at past in
    (sym (append-nil now) ∙ ap (λ (xs : List ℕ). now ++ taken_below end xs) (sym none) ∙ h.added, none ∙ ap (rest_from end) (sym none) ∙ h.rest)

pub from-next : (old now new ns : List ℕ) (next at n : ℕ) → slice_get ns at ≡ Some n → new ≡ now ++ n ∷ [] → now ++ drop at ns ≡ old ++ drop next ns → new ++ drop (at + 1) ns ≡ old ++ drop next ns
from-next old now new ns next at n here is h = ap (λ (xs : List ℕ). xs ++ drop (at + 1) ns) is ∙ append_assoc now (n ∷ []) (drop (at + 1) ns) ∙ ap (λ (xs : List ℕ). now ++ xs) (sym (dropped-number ns at n here)) ∙ h

pub from-ends : (old now ns : List ℕ) (next at : ℕ) → length ns ≤ at → now ++ drop at ns ≡ old ++ drop next ns → now ≡ old ++ drop next ns
from-ends old now ns next at past h = sym (append-nil now) ∙ ap (λ (xs : List ℕ). now ++ xs) (sym (dropped-none ns at past)) ∙ h

-- a resource, or another item
pub not-added : (b : Bool) (old ns : List ℕ) (next position : ℕ) → b ≡ false → (rs : List ℕ) → old ++ merged (drop next ns) rs ≡ old ++ merged (drop next ns) (if b then position ∷ rs else rs)
not-added b old ns next position is rs = ap (λ (x : Bool). old ++ merged (drop next ns) (if x then position ∷ rs else rs)) (sym is)

pub resource-added : (b : Bool) (old now new ns : List ℕ) (next at position : ℕ) → b ≡ true → now ≡ old ++ taken_below position (drop next ns) → drop at ns ≡ rest_from position (drop next ns) → new ≡ now ++ position ∷ [] → (rs : List ℕ) → new ++ merged (drop at ns) rs ≡ old ++ merged (drop next ns) (if b then position ∷ rs else rs)
resource-added b old now new ns next at position is taken rest pushed rs =
    let below : List ℕ = taken_below position (drop next ns) in
    let later : List ℕ = merged (rest_from position (drop next ns)) rs in
    ap (λ (xs : List ℕ). xs ++ merged (drop at ns) rs) (pushed ∙ ap (λ (xs : List ℕ). xs ++ position ∷ []) taken)
    ∙ ap (λ (xs : List ℕ). ((old ++ below) ++ position ∷ []) ++ merged xs rs) rest
    ∙ append_assoc (old ++ below) (position ∷ []) later
    ∙ append_assoc old below (position ∷ later)
    ∙ ap (λ (x : Bool). old ++ merged (drop next ns) (if x then position ∷ rs else rs)) (sym is)

-- all items
pub merging-next : (es : List (Name × ItemKind)) (i : ℕ) (e : Name × ItemKind) (now new ns all : List ℕ) (next at : ℕ) → drop i es ≡ e ∷ drop (i + 1) es
    → ((rs : List ℕ) → new ++ merged (drop at ns) rs ≡ now ++ merged (drop next ns) (if lists_resource e then i ∷ rs else rs)) → now ++ merged (drop next ns) (positions_of lists_resource i (drop i es)) ≡ all → new ++ merged (drop at ns) (positions_of lists_resource (i + 1) (drop (i + 1) es)) ≡ all
merging-next es i e now new ns all next at here step h =
    let more : List ℕ = positions_of lists_resource (i + 1) (drop (i + 1) es) in
    step more
    ∙ ap (λ (k : ℕ). now ++ merged (drop next ns) (if lists_resource e then i ∷ positions_of lists_resource k (drop (i + 1) es) else positions_of lists_resource k (drop (i + 1) es))) (add-one i)
    ∙ ap (λ (xs : List (Name × ItemKind)). now ++ merged (drop next ns) (positions_of lists_resource i xs)) (sym here) ∙ h

pub merging-ends : (es : List (Name × ItemKind)) (i : ℕ) (now last ns all : List ℕ) (next : ℕ) → drop i es ≡ [] → last ≡ now ++ drop next ns → now ++ merged (drop next ns) (positions_of lists_resource i (drop i es)) ≡ all → last ≡ all
merging-ends es i now last ns all next none is h = is ∙ ap (λ (xs : List (Name × ItemKind)). now ++ merged (drop next ns) (positions_of lists_resource i xs)) (sym none) ∙ h
