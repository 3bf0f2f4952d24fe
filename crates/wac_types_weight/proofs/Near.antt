-- What is near types: a closed list, without repetition, and the least of those.
use Rattle.std.proofs.Common.{ℕ, zero, suc, ◌+◌, ◌<◌, Bool, true, false, not, ◌||◌, if◌then◌else◌, List, [], ◌∷◌, ◌++◌, length, flat_map, Contains, Option, Some, None, ◌≡◌, ◌⊎◌, inl, inr, refl, ap, sym, ◌∙◌, subst, arith, slice_get, eq-eqb}
use Rattle.std.specs.List.{list_any}
use Rattle.wac_types_shapes.specs.primitives.Name.{option_case}
use Rattle.wac_types_shapes.specs.declared.shapes.component.DefinedType.{DefinedType}
use Rattle.wac_types_shapes.specs.declared.shapes.component.Resource.{Resource}
use Rattle.wac_types_shapes.specs.declared.shapes.component.ResourceAlias.{ResourceAlias}
use Rattle.wac_types_shapes.specs.declared.shapes.component.ResourceId.{ResourceId}
use Rattle.wac_types_shapes.specs.declared.shapes.component.ValueType.{ValueType}
use Rattle.wac_types_shapes.specs.declared.shapes.component.ValueType.TheVariants as val
use Rattle.wac_types_shapes.specs.declared.shapes.component.«Type».{«Type» as AnyType}
use Rattle.wac_types_shapes.specs.declared.shapes.component.«Type».TheVariants as ty
use Rattle.wac_types_collection.specs.declared.collection.collection.Held.{Held}
use Rattle.wac_types_collection.specs.collection.Collection.{Collection, IsWellFormed, item_of, size, alias_types, resource_mentions, defined_mentions}
use Rattle.wac_types_collection.specs.collection.Held.{resolved_in, source_of}
use Rattle.wac_types_collection.specs.collection.Aliases.{aliased, target_of, value_resolved_in}
use Rattle.wac_types_collection.specs.collection.Uses.{same_value, same_type}
use Rattle.wac_types_collection.specs.reach.Reach.{mentions, IsIn}
use Rattle.wac_types_collection.proofs.lemmas.collection.Chains.{alias_is}
use Rattle.wac_types_collection.proofs.lemmas.collection.Growth.{get_where}
use Rattle.wac_types_collection.proofs.lemmas.collection.Ids.{same_type-true}
use Rattle.wac_types_collection.proofs.lemmas.reach.Lists.{in_left, in_right, in_either, in_at}
use Rattle.wac_types_collection.proofs.lemmas.wide.Members.{in_none, in_first, in_rest, in_parts, in_flat, flat_in}
use Rattle.wac_types_weight.specs.Weight.{is_scope, plain, joined, near_to, near_all}
use Rattle.wac_types_weight.specs.Text.{own_text}
use Rattle.wac_types_weight.specs.private.Laws.{IsNearClosed, Covers, NearIsClosed, CoversEnd, CoversResource, CoversMention, NearIsLeast, NearTogether}
use Rattle.wac_types_weight.proofs.Sums.{in_filter, filter_in, Differ, sum_less, sum_flat}
use Rattle.wac_types_weight.proofs.Heights.{height, height_most, mention_lower}

-- ---- the two ways to say what is in a list
pub to_contains : (t : AnyType) (ts : List AnyType) → IsIn t ts → Contains ts t
to_contains t [] h = absurd h
to_contains t (x ∷ ts) (inl e) = subst (λ z. Contains (z ∷ ts) t) e (in_first t ts)
to_contains t (x ∷ ts) (inr h) = in_rest x t ts (to_contains t ts h)

pub from_contains : (t : AnyType) (ts : List AnyType) → Contains ts t → IsIn t ts
from_contains t [] h = absurd (in_none t h)
from_contains t (x ∷ ts) h = elim (in_parts x t ts h) [ inl e ↦ inl e | inr w ↦ inr (from_contains t ts w) ]

-- ---- plain types
not_false : (b : Bool) → b ≡ false → not b ≡ true
not_false b is = ap not is

false_not : (b : Bool) → not b ≡ true → b ≡ false
false_not true is = let no : false ≡ true = is in cc
false_not false is = refl

pub in_plain : (t : AnyType) (ts : List AnyType) → IsIn t ts → is_scope t ≡ false → IsIn t (plain ts)
in_plain t ts h is = from_contains t (plain ts) (in_filter (λ u. not (is_scope u)) ts t (to_contains t ts h) (not_false (is_scope t) is))

pub plain_in : (t : AnyType) (ts : List AnyType) → IsIn t (plain ts) → IsIn t ts × (is_scope t ≡ false)
plain_in t ts h =
    let (there, is) = filter_in (λ u. not (is_scope u)) ts t (to_contains t (plain ts) h) in
    (from_contains t ts there, false_not (is_scope t) is)

module _ (c : Collection) where
  pub in_mentions : (t u : AnyType) (ts : List AnyType) → IsIn t ts → IsIn u (mentions c t) → IsIn u (flat_map (mentions c) ts)
  in_mentions t u ts h w = from_contains u (flat_map (mentions c) ts) (in_flat (mentions c) ts t u (to_contains t ts h) (to_contains u (mentions c t) w))

  pub mentions_in : (u : AnyType) (ts : List AnyType) → IsIn u (flat_map (mentions c) ts) → (t : AnyType) × IsIn t ts × IsIn u (mentions c t)
  mentions_in u ts h =
      let (t, there, is) = flat_in (mentions c) ts u (to_contains u (flat_map (mentions c) ts) h) in
      (t, from_contains t ts there, from_contains u (mentions c t) is)

-- ---- one more type, and more
same_value-itself : (a : ValueType) → same_value a a ≡ true
same_value-itself (val.Primitive p) = eq-eqb _ _ refl
same_value-itself _ = eq-eqb _ _ refl

same_type-itself : (a : AnyType) → same_type a a ≡ true
same_type-itself (ty.Value v) = same_value-itself v
same_type-itself _ = eq-eqb _ _ refl

tested : (t : AnyType) (ts : List AnyType) → list_any (same_type t) ts ≡ true → IsIn t ts
tested t [] e = cc
tested t (x ∷ ts) e = by (same_type t x) refl e (λ h. tested t ts h)
  where
    by : (b : Bool) → same_type t x ≡ b → (b || list_any (same_type t) ts) ≡ true → (list_any (same_type t) ts ≡ true → IsIn t ts) → IsIn t (x ∷ ts)
    by true is _ _ = inl (same_type-true t x is)
    by false _ h rest = inr (rest h)

test_in : (t : AnyType) (ts : List AnyType) → IsIn t ts → list_any (same_type t) ts ≡ true
test_in t [] h = absurd h
test_in t (x ∷ ts) (inl e) = ap (λ b. b || list_any (same_type t) ts) (subst (λ z. same_type t z ≡ true) e (same_type-itself t))
test_in t (x ∷ ts) (inr h) = by (same_type t x) (test_in t ts h)
  where
    by : (b : Bool) → list_any (same_type t) ts ≡ true → (b || list_any (same_type t) ts) ≡ true
    by true _ = refl
    by false k = k

one_more : List AnyType → AnyType → List AnyType
one_more ts u = if list_any (same_type u) ts then ts else ts ++ u ∷ []

module _ (ts : List AnyType) (u : AnyType) where
  more_old : (t : AnyType) → IsIn t ts → IsIn t (one_more ts u)
  unfolding one_more
  more_old t h = by (list_any (same_type u) ts)
    where
      by : (b : Bool) → IsIn t (if b then ts else ts ++ u ∷ [])
      by true = h
      by false = in_left t ts (u ∷ []) h

  more_new : IsIn u (one_more ts u)
  unfolding one_more
  more_new = by (list_any (same_type u) ts) refl
    where
      by : (b : Bool) → list_any (same_type u) ts ≡ b → IsIn u (if b then ts else ts ++ u ∷ [])
      by true is = tested u ts is
      by false _ = in_right u ts (u ∷ []) (inl refl)

  more_only : (t : AnyType) → IsIn t (one_more ts u) → IsIn t ts ⊎ (t ≡ u)
  unfolding one_more
  more_only t = by (list_any (same_type u) ts)
    where
      by : (b : Bool) → IsIn t (if b then ts else ts ++ u ∷ []) → IsIn t ts ⊎ (t ≡ u)
      by true h = inl h
      by false h = elim (in_either t ts (u ∷ []) h) [ inl k ↦ inl k | inr (inl e) ↦ inr e | inr (inr n) ↦ absurd n ]

  more_differ : Differ ts → Differ (one_more ts u)
  unfolding one_more Differ
  more_differ apart = by (list_any (same_type u) ts) refl
    where
      new : list_any (same_type u) ts ≡ false → (k : ℕ) (x : AnyType) → slice_get ts k ≡ Some x → u ≡ x → ⊥
      new none k x at is =
          let there : IsIn u ts = subst (λ z. IsIn z ts) (sym is) (in_at x ts k at) in
          let no : true ≡ false = sym (test_in u ts there) ∙ none in cc

      pushed : list_any (same_type u) ts ≡ false → (i j : ℕ) (x : AnyType) → slice_get (ts ++ u ∷ []) i ≡ Some x → slice_get (ts ++ u ∷ []) j ≡ Some x → i ≡ j
      pushed none i j x at also = elim (get_where ts u i x at) [
        | inl a ↦ elim (get_where ts u j x also) [ inl b ↦ apart i j x a b | inr b ↦ absurd (new none i x a b.1) ]
        | inr a ↦ elim (get_where ts u j x also) [ inl b ↦ absurd (new none j x b a.1) | inr b ↦ a.0 ∙ sym b.0 ]
      ]

      by : (b : Bool) → list_any (same_type u) ts ≡ b → (i j : ℕ) (x : AnyType) → slice_get (if b then ts else ts ++ u ∷ []) i ≡ Some x → slice_get (if b then ts else ts ++ u ∷ []) j ≡ Some x → i ≡ j
      by true is = apart
      by false is = pushed is

joined_old : (ts us : List AnyType) (t : AnyType) → IsIn t ts → IsIn t (joined ts us)
unfolding one_more
joined_old ts [] t h = h
joined_old ts (u ∷ us) t h = joined_old (one_more ts u) us t (more_old ts u t h)

joined_new : (ts us : List AnyType) (t : AnyType) → IsIn t us → IsIn t (joined ts us)
unfolding one_more
joined_new ts [] t h = absurd h
joined_new ts (u ∷ us) t (inl e) = joined_old (one_more ts u) us t (subst (λ z. IsIn z (one_more ts u)) (sym e) (more_new ts u))
joined_new ts (u ∷ us) t (inr h) = joined_new (one_more ts u) us t h

joined_only : (ts us : List AnyType) (t : AnyType) → IsIn t (joined ts us) → IsIn t ts ⊎ IsIn t us
unfolding one_more
joined_only ts [] t h = inl h
joined_only ts (u ∷ us) t h = elim (joined_only (one_more ts u) us t h) [ inr k ↦ inr (inr k) | inl k ↦ elim (more_only ts u t k) [ inl j ↦ inl j | inr e ↦ inr (inl e) ] ]

joined_differ : (ts us : List AnyType) → Differ ts → Differ (joined ts us)
unfolding one_more
joined_differ ts [] apart = apart
joined_differ ts (u ∷ us) apart = joined_differ (one_more ts u) us (more_differ ts u apart)

-- ---- in rounds
module _ (c : Collection) where
  next : List AnyType → List AnyType
  next ts = joined ts (plain (flat_map (mentions c) ts))

  to_old : (n : ℕ) (ts : List AnyType) (t : AnyType) → IsIn t ts → IsIn t (near_to n c ts)
  unfolding next
  to_old zero ts t h = h
  to_old (suc n) ts t h = to_old n (next ts) t (joined_old ts (plain (flat_map (mentions c) ts)) t h)

  to_differ : (n : ℕ) (ts : List AnyType) → Differ ts → Differ (near_to n c ts)
  unfolding next
  to_differ zero ts apart = apart
  to_differ (suc n) ts apart = to_differ n (next ts) (joined_differ ts (plain (flat_map (mentions c) ts)) apart)

  -- what holds of some types and with each type of what it mentions holds of all
  module _ (P : AnyType → Type 0) (on : (t u : AnyType) → P t → IsIn u (mentions c t) → is_scope u ≡ false → P u) where
    next_all : (ts : List AnyType) → ((t : AnyType) → IsIn t ts → P t) → (t : AnyType) → IsIn t (next ts) → P t
    unfolding next
    next_all ts all t h = elim (joined_only ts (plain (flat_map (mentions c) ts)) t h) [
      | inl k ↦ all t k
      | inr k ↦
          let (w, is) = plain_in t (flat_map (mentions c) ts) k in
          let (s, there, mentioned) = mentions_in c t ts w in
          on s t (all s there) mentioned is
    ]

    to_all : (n : ℕ) (ts : List AnyType) → ((t : AnyType) → IsIn t ts → P t) → (t : AnyType) → IsIn t (near_to n c ts) → P t
    unfolding next
    to_all zero ts all = all
    to_all (suc n) ts all = to_all n (next ts) (next_all ts all)

    first_all : (ts : List AnyType) → ((t : AnyType) → IsIn t ts → is_scope t ≡ false → P t) → (t : AnyType) → IsIn t (joined [] (plain ts)) → P t
    first_all ts all t h = elim (joined_only [] (plain ts) t h) [
      | inl k ↦ absurd k
      | inr k ↦ let (there, is) = plain_in t ts k in all t there is
    ]

    pub near_holds : (ts : List AnyType) → ((t : AnyType) → IsIn t ts → is_scope t ≡ false → P t) → (t : AnyType) → IsIn t (near_all c ts) → P t
    unfolding near_all
    near_holds ts all = to_all (suc (size c)) (joined [] (plain ts)) (first_all ts all)

  -- The list has what its types mention that are higher than what n rounds leave.
  IsSettled : ℕ → List AnyType → Type 0
  IsSettled n ts = (t u : AnyType) → IsIn t ts → IsIn u (mentions c t) → is_scope u ≡ false → suc (size c) < height c t + n → IsIn u ts

  module _ (wf : IsWellFormed c) where
    next_settled : (n : ℕ) (ts : List AnyType) → IsSettled n ts → IsSettled (suc n) (next ts)
    unfolding next IsSettled
    next_settled n ts settled t u h w is high = elim (joined_only ts (plain (flat_map (mentions c) ts)) t h) [
      | inl k ↦ onward k
      | inr k ↦
          let (among, plainly) = plain_in t (flat_map (mentions c) ts) k in
          let (s, there, mentioned) = mentions_in c t ts among in
          let low = mention_lower c wf s t mentioned plainly in
          onward (settled s t there mentioned plainly (omega (arith, low, high)))
    ]
      where
        onward : IsIn t ts → IsIn u (joined ts (plain (flat_map (mentions c) ts)))
        onward k = joined_new ts (plain (flat_map (mentions c) ts)) u (in_plain u (flat_map (mentions c) ts) (in_mentions c t u ts k w) is)

    to_settled : (k n m : ℕ) (ts : List AnyType) → m ≡ n + k → IsSettled n ts → IsSettled m (near_to k c ts)
    unfolding next
    to_settled zero n m ts is settled = subst (λ i. IsSettled i ts) (same n m is) settled
      where
        same : (n m : ℕ) → m ≡ n + zero → n ≡ m
        same n m is = omega arith
    to_settled (suc k) n m ts is settled = to_settled k (suc n) m (next ts) (more n m k is) (next_settled n ts settled)
      where
        more : (n m k : ℕ) → m ≡ n + suc k → m ≡ suc n + k
        more n m k is = omega arith

    first_settled : (ts : List AnyType) → IsSettled zero ts
    unfolding IsSettled
    first_settled ts t u h w is high = let most = height_most c wf t in absurd (omega (arith, most, high))

    pub near_closed : (ts : List AnyType) → IsNearClosed c (near_all c ts)
    unfolding near_all IsSettled
    near_closed ts t u h w is =
        let low = mention_lower c wf t u w is in
        to_settled (suc (size c)) zero (suc (size c)) (joined [] (plain ts)) (start (size c)) (first_settled (joined [] (plain ts))) t u h w is (omega (arith, low))
      where
        start : (n : ℕ) → suc n ≡ zero + suc n
        start n = omega arith

  pub near_there : (ts : List AnyType) (t : AnyType) → IsIn t ts → is_scope t ≡ false → IsIn t (near_all c ts)
  unfolding near_all
  near_there ts t h is = to_old (suc (size c)) (joined [] (plain ts)) t (joined_new [] (plain ts) t (in_plain t ts h is))

  none_differ : Differ {A = AnyType} []
  unfolding Differ
  none_differ i j x at also = let no : None ≡ Some x = at in cc

  pub near_differ : (ts : List AnyType) → Differ (near_all c ts)
  unfolding near_all
  near_differ ts = to_differ (suc (size c)) (joined [] (plain ts)) (joined_differ [] (plain ts) none_differ)

-- ---- the laws
pub near-is-closed : NearIsClosed
near-is-closed c ts wf t h = record { closed = near_closed c wf ts; there = λ is. near_there c ts t h is }

pub covers-mention : CoversMention
covers-mention c ts t u plainly covers w = record { closed = covers.closed; there = λ is. covers.closed t u (covers.there plainly) w is }

-- an alias mentions its target
target_mentioned : (c : Collection) (v w : ValueType) → target_of c v ≡ Some w → IsIn (ty.Value w) (mentions c (ty.Value v))
target_mentioned c (val.Defined d) w is = by (item_of (slice_get c.defined d.0)) is
  where
    by : (o : Option DefinedType) → option_case o None aliased ≡ Some w → IsIn (ty.Value w) (option_case o [] defined_mentions)
    by None is = cc
    by (Some x) is = subst (λ y. IsIn (ty.Value w) (defined_mentions y)) (sym (alias_is x w is)) (inl refl)
target_mentioned c (val.Primitive p) w is = cc
target_mentioned c (val.Own r) w is = cc
target_mentioned c (val.Borrow r) w is = cc

covers_end : (n : ℕ) (c : Collection) (ts : List AnyType) (v : ValueType) → Covers c ts (ty.Value v) → Covers c ts (ty.Value (value_resolved_in n c v))
covers_end zero c ts v covers = covers
covers_end (suc n) c ts v covers = by (target_of c v) refl (covers_end n c ts)
  where
    by : (o : Option ValueType) → target_of c v ≡ o → ((w : ValueType) → Covers c ts (ty.Value w) → Covers c ts (ty.Value (value_resolved_in n c w))) → Covers c ts (ty.Value (option_case o v (λ w. value_resolved_in n c w)))
    by None is rest = covers
    by (Some w) is rest = rest w (covers-mention c ts (ty.Value v) (ty.Value w) refl covers (target_mentioned c v w is))

pub covers-end : CoversEnd
covers-end c ts v covers = covers_end (size c) c ts v covers

source_mentioned : (c : Collection) (r q : ResourceId) → source_of (slice_get c.resources r.0) ≡ Some q → IsIn (ty.Resource q) (mentions c (ty.Resource r))
source_mentioned c r q is = by (slice_get c.resources r.0) is
  where
    of_alias : (x : Resource) (a : Option ResourceAlias) → x.alias ≡ a → option_case a None (λ y. Some y.source) ≡ Some q → IsIn (ty.Resource q) (resource_mentions x)
    of_alias x None at is = cc
    of_alias x (Some a) at is =
        let same : Some a.source ≡ Some q = is in
        let e : q ≡ a.source = cc in
        subst (λ o. IsIn (ty.Resource q) (alias_types o)) (sym at) (inl (ap ty.Resource e))

    by : (o : Option (Held Resource)) → source_of o ≡ Some q → IsIn (ty.Resource q) (option_case (item_of o) [] resource_mentions)
    by None is = cc
    by (Some h) is = of_alias h.item h.item.alias refl is

covers_source : (n : ℕ) (c : Collection) (ts : List AnyType) (r : ResourceId) → Covers c ts (ty.Resource r) → Covers c ts (ty.Resource (resolved_in n c r))
covers_source zero c ts r covers = covers
covers_source (suc n) c ts r covers = by (source_of (slice_get c.resources r.0)) refl (covers_source n c ts)
  where
    by : (o : Option ResourceId) → source_of (slice_get c.resources r.0) ≡ o → ((q : ResourceId) → Covers c ts (ty.Resource q) → Covers c ts (ty.Resource (resolved_in n c q))) → Covers c ts (ty.Resource (option_case o r (λ q. resolved_in n c q)))
    by None is rest = covers
    by (Some q) is rest = rest q (covers-mention c ts (ty.Resource r) (ty.Resource q) refl covers (source_mentioned c r q is))

pub covers-resource : CoversResource
covers-resource c ts r covers = covers_source (length c.resources) c ts r covers

-- what is near types is in each list that covers them
pub near_within : (c : Collection) (ts us : List AnyType) → ((t : AnyType) → IsIn t ts → Covers c us t) → (t : AnyType) → IsIn t (near_all c ts) → IsIn t us
near_within c ts us covered t h =
    let (covers, plainly) = near_holds c (λ x. Covers c us x × (is_scope x ≡ false)) on ts (λ x w is. (covered x w, is)) t h in
    covers.there plainly
  where
    on : (t u : AnyType) → Covers c us t × (is_scope t ≡ false) → IsIn u (mentions c t) → is_scope u ≡ false → Covers c us u × (is_scope u ≡ false)
    on t u h w is = (covers-mention c us t u h.1 h.0 w, is)

pub near-is-least : NearIsLeast
near-is-least c ts us covered = sum_less (own_text c) (near_all c ts) us (near_differ c ts) (λ t h. to_contains t us (near_within c ts us covered t (from_contains t (near_all c ts) h)))

pub near-together : NearTogether
near-together c tss ts wf among =
    let least = near-is-least c ts (flat_map (near_all c) tss) covered in
    let flat = sum_flat (own_text c) (near_all c) tss in
    omega (arith, least, flat)
  where
    in_all : (us : List AnyType) (t : AnyType) → Contains tss us → IsIn t (near_all c us) → IsIn t (flat_map (near_all c) tss)
    in_all us t there h = from_contains t (flat_map (near_all c) tss) (in_flat (near_all c) tss us t there (to_contains t (near_all c us) h))

    closed : IsNearClosed c (flat_map (near_all c) tss)
    closed t u h w is =
        let (us, there, near) = flat_in (near_all c) tss t (to_contains t (flat_map (near_all c) tss) h) in
        in_all us u there (near_closed c wf us t u (from_contains t (near_all c us) near) w is)

    covered : (t : AnyType) → IsIn t ts → Covers c (flat_map (near_all c) tss) t
    covered t h = record {
      closed = closed;
      there = λ plainly. let (us, there, is) = among t h plainly in in_all us t there (near_there c us t is plainly);
    }
