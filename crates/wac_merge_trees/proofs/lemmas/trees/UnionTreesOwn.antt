-- Own resources under their names, and resources at the ends of their aliases.
use Rattle.std.proofs.Common.{◌≡◌, ℕ, zero, suc, ◌<◌, ◌≤◌, nat_eq, Bool, true, false, not, cond, ◌&&◌, ◌||◌, ◌==◌, List, [], ◌∷◌, Option, Some, None, is_some, is_none, slice_get, refl, sym, ap, ◌∙◌, subst, inl, inr, arith, length}
use Rattle.std.proofs.lemmas.Bool.{cases_Bool, and_parts, eqb-true, false≢true}
use Rattle.std.specs.List.{AllZip, list_all}
use Rattle.wac_types_shapes.specs.primitives.Name.{Name, same_name, find_name, option_case}
use Rattle.wac_types_collection.specs.collection.Collection.{Collection, HasResource, IsSourceBelow, IsWellFormed, item_at, item_of}
use Rattle.wac_types_collection.specs.collection.Held.{resolved, resolved_in, source_of}
use Rattle.wac_types_collection.specs.collection.Bound.{is_alias, lists_own, own_name}
use Rattle.wac_types_collection.specs.collection.Uses.{has_name, is_named_right, named_right}
use Rattle.wac_types_collection.specs.declared.collection.collection.Held.{Held}
use Rattle.wac_types_shapes.specs.declared.shapes.component.Resource.{Resource}
use Rattle.wac_types_shapes.specs.declared.shapes.component.ResourceAlias.{ResourceAlias}
use Rattle.wac_types_shapes.specs.declared.shapes.component.ResourceId.{ResourceId}
use Rattle.wac_types_shapes.specs.declared.shapes.component.UsedType.{UsedType}
use Rattle.wac_types_shapes.specs.declared.shapes.component.«Type».TheVariants as ty
use Rattle.wac_types_shapes.specs.declared.shapes.component.ItemKind.{ItemKind}
use Rattle.wac_types_shapes.specs.declared.shapes.component.ItemKind.TheVariants as kind
use Rattle.wac_types_collection.proofs.lemmas.collection.Chains.{resource_ends}
use Rattle.wac_types_shapes.proofs.lemmas.shapes.Names.{same_name-true}

-- ---- lists under names

module _ {A B : Type 0} where
  pub zip_at : (R : A → B → Type 0) (xs : List A) (ys : List B) → AllZip R xs ys → (i : ℕ) (y : B) → slice_get ys i ≡ Some y → (x : A) × (slice_get xs i ≡ Some x) × R x y
  zip_at R [] [] h i y at = cc
  zip_at R [] (z ∷ ys) h i y at = absurd h
  zip_at R (x ∷ xs) [] h i y at = absurd h
  zip_at R (x ∷ xs) (z ∷ ys) h zero y at = let same : z ≡ y = cc in (x, refl, subst (R x) same h.0)
  zip_at R (x ∷ xs) (z ∷ ys) h (suc i) y at = zip_at R xs ys h.1 i y at

  module _ (R : Name × A → Name × B → Type 0) (named : (x : Name × A) (y : Name × B) → R x y → x.0 ≡ y.0) where
    -- what is not under a name in the first is not in the second
    pub zip_none : (xs : List (Name × A)) (ys : List (Name × B)) → AllZip R xs ys → (n : Name) → find_name xs n ≡ None → find_name ys n ≡ None
    zip_none [] [] h n none = refl
    zip_none [] (y ∷ ys) h n none = absurd h
    zip_none (x ∷ xs) [] h n none = absurd h
    zip_none (x ∷ xs) (y ∷ ys) h n none = elim (cases_Bool (same_name n x.0)) [
      | inl t ↦ let some : Some x.1 ≡ None = sym (ap (λ b. cond b (Some x.1) (find_name xs n)) t) ∙ none in cc
      | inr f ↦
          ap (λ b. cond b (Some y.1) (find_name ys n)) (ap (same_name n) (sym (named x y h.0)) ∙ f)
          ∙ zip_none xs ys h.1 n (sym (ap (λ b. cond b (Some x.1) (find_name xs n)) f) ∙ none)
    ]

    -- what stands under a name in the first became what stands there in the second
    pub zip_some : (xs : List (Name × A)) (ys : List (Name × B)) → AllZip R xs ys → (n : Name) (a : A) → find_name xs n ≡ Some a → (b : B) × (find_name ys n ≡ Some b) × R (n, a) (n, b)
    zip_some [] [] h n a at = cc
    zip_some [] (y ∷ ys) h n a at = absurd h
    zip_some (x ∷ xs) [] h n a at = absurd h
    zip_some (x ∷ xs) (y ∷ ys) h n a at = elim (cases_Bool (same_name n x.0)) [
      | inl t ↦
          let is : n ≡ x.0 = same_name-true n x.0 t in
          let found : Some x.1 ≡ Some a = sym (ap (λ b. cond b (Some x.1) (find_name xs n)) t) ∙ at in
          let same : x.1 ≡ a = cc in
          let first : x ≡ (n, a) = λ i. (sym is i, same i) in
          let second : y ≡ (n, y.1) = λ i. (sym (is ∙ named x y h.0) i, y.1) in
          (y.1, ap (λ b. cond b (Some y.1) (find_name ys n)) (ap (same_name n) (sym (named x y h.0)) ∙ t), subst (λ z. R z (n, y.1)) first (subst (R x) second h.0))
      | inr f ↦
          let rest = zip_some xs ys h.1 n a (sym (ap (λ b. cond b (Some x.1) (find_name xs n)) f) ∙ at) in
          (rest.0, ap (λ b. cond b (Some y.1) (find_name ys n)) (ap (same_name n) (sym (named x y h.0)) ∙ f) ∙ rest.1, rest.2)
    ]

-- where what is found stands
pub found_place : {A : Type 0} (es : List (Name × A)) (n : Name) (a : A) → find_name es n ≡ Some a → (i : ℕ) × (slice_get es i ≡ Some (n, a))
found_place [] n a at = cc
found_place (e ∷ es) n a at = elim (cases_Bool (same_name n e.0)) [
  | inl t ↦
      let found : Some e.1 ≡ Some a = sym (ap (λ b. cond b (Some e.1) (find_name es n)) t) ∙ at in
      let same : e.1 ≡ a = cc in
      let first : e ≡ (n, a) = λ i. (sym (same_name-true n e.0 t) i, same i) in
      (0, ap Some first)
  | inr f ↦ let rest = found_place es n a (sym (ap (λ b. cond b (Some e.1) (find_name es n)) f) ∙ at) in (suc rest.0, rest.1)
]

pub all_pass : {A : Type 0} (p : A → Bool) (xs : List A) (i : ℕ) (x : A) → list_all p xs ≡ true → slice_get xs i ≡ Some x → p x ≡ true
all_pass p [] i x h at = cc
all_pass p (y ∷ xs) zero x h at = let same : y ≡ x = cc in sym (ap p same) ∙ (and_parts (p y) (list_all p xs) h).0
all_pass p (y ∷ xs) (suc i) x h at = all_pass p xs i x (and_parts (p y) (list_all p xs) h).1 at

-- ---- own names

same_id : (q r : ResourceId) → nat_eq q.0 r.0 ≡ true → q ≡ r
same_id q r e = rw (eqb-true q.0 r.0 e) refl

negated : (b : Bool) → not b ≡ true → b ≡ false
negated true h = absurd (false≢true h)
negated false h = refl

module _ (c : Collection) (uses : List (Name × UsedType)) where
  -- what an item lists as its own
  pub record IsOwn (r : ResourceId) (n : Name) (k : ItemKind) : Type 0 where
    pub item : k ≡ kind.TypeItem (ty.Resource r)
    pub no_alias : is_alias c r ≡ false
    pub unused : is_none (find_name uses n) ≡ true

  pub own_listed : (r : ResourceId) (n : Name) (k : ItemKind) → lists_own c uses r (n, k) ≡ true → IsOwn r n k
  own_listed r n (kind.TypeItem (ty.Resource q)) h =
      let both = and_parts (q.0 == r.0) (not (is_alias c q) && is_none (find_name uses n)) h in
      let more = and_parts (not (is_alias c q)) (is_none (find_name uses n)) both.1 in
      let same = same_id q r both.0 in
      record { item = ap (λ x. kind.TypeItem (ty.Resource x)) same; no_alias = ap (is_alias c) (sym same) ∙ negated (is_alias c q) more.0; unused = more.1 }
  own_listed r n k h = absurd (false≢true h)

  module _ (r : ResourceId) where
    -- an own resource is found under a name
    pub own_exists : (es : List (Name × ItemKind)) (n : Name) (k : ItemKind) → find_name es n ≡ Some k → lists_own c uses r (n, k) ≡ true → (o : Name) × (own_name c uses es r ≡ Some o)
    own_exists [] n k at h = cc
    own_exists (e ∷ es) n k at h = elim (cases_Bool (lists_own c uses r e)) [
      | inl t ↦ (e.0, ap (λ b. cond b (Some e.0) (own_name c uses es r)) t)
      | inr f ↦ elim (cases_Bool (same_name n e.0)) [
        | inl s ↦
            let found : Some e.1 ≡ Some k = sym (ap (λ b. cond b (Some e.1) (find_name es n)) s) ∙ at in
            let same : e.1 ≡ k = cc in
            let first : e ≡ (n, k) = λ i. (sym (same_name-true n e.0 s) i, same i) in
            absurd (false≢true (sym f ∙ (ap (lists_own c uses r) first ∙ h)))
        | inr g ↦
            let rest = own_exists es n k (sym (ap (λ b. cond b (Some e.1) (find_name es n)) g) ∙ at) h in
            (rest.0, ap (λ b. cond b (Some e.0) (own_name c uses es r)) f ∙ rest.1)
      ]
    ]

    -- the name is one under which it is listed as own
    pub own_each : (P : Name → Type 0) (es : List (Name × ItemKind)) (o : Name) → ((i : ℕ) (e : Name × ItemKind) → slice_get es i ≡ Some e → lists_own c uses r e ≡ true → P e.0) → own_name c uses es r ≡ Some o → P o
    own_each P [] o each at = cc
    own_each P (e ∷ es) o each at = elim (cases_Bool (lists_own c uses r e)) [
      | inl t ↦
          let found : Some e.0 ≡ Some o = sym (ap (λ b. cond b (Some e.0) (own_name c uses es r)) t) ∙ at in
          let same : e.0 ≡ o = cc in
          subst P same (each 0 e refl t)
      | inr f ↦ own_each P es o (λ i x at own. each (suc i) x at own) (sym (ap (λ b. cond b (Some e.0) (own_name c uses es r)) f) ∙ at)
    ]

  named_once : (r : ResourceId) (a b : Name) (o : Option Resource) → option_case o false (λ q. same_name q.name a) ≡ true → option_case o false (λ q. same_name q.name b) ≡ true → a ≡ b
  named_once r a b None h g = absurd (false≢true h)
  named_once r a b (Some q) h g = sym (same_name-true q.name a h) ∙ same_name-true q.name b g

  right_name : (r : ResourceId) (e : Name × ItemKind) → is_named_right c uses e ≡ true → lists_own c uses r e ≡ true → has_name c r.0 e.0 ≡ true
  right_name r (n, k) right own =
      let is = own_listed r n k own in
      by (is_alias c r) (find_name uses n) is.no_alias is.unused (sym (ap (λ x. is_named_right c uses (n, x)) is.item) ∙ right)
    where
      by : (b : Bool) (o : Option UsedType) → b ≡ false → is_none o ≡ true → (b || (is_some o || has_name c r.0 n)) ≡ true → has_name c r.0 n ≡ true
      by true o plain none h = absurd (false≢true (sym plain))
      by false None plain none h = h
      by false (Some u) plain none h = absurd (false≢true none)

  -- where names are right, an own resource has the name under which it is listed
  pub own_right : (r : ResourceId) (es : List (Name × ItemKind)) (n : Name) (k : ItemKind) → named_right c uses es ≡ true → find_name es n ≡ Some k → lists_own c uses r (n, k) ≡ true → own_name c uses es r ≡ Some n
  own_right r es n k right at own =
      let there = own_exists r es n k at own in
      let place = found_place es n k at in
      let mine : has_name c r.0 n ≡ true = right_name r (n, k) (all_pass (is_named_right c uses) es place.0 (n, k) right place.1) own in
      let its : has_name c r.0 there.0 ≡ true = own_each r (λ o. has_name c r.0 o ≡ true) es there.0 (λ i e is lists. right_name r e (all_pass (is_named_right c uses) es i e right is) lists) there.1 in
      there.1 ∙ ap Some (named_once r there.0 n (item_at c.resources r.0) its mine)

-- ---- ends of aliases

module _ (c : Collection) (wf : IsWellFormed c) where
  source_below : (r s : ResourceId) (o : Option (Held Resource)) → slice_get c.resources r.0 ≡ o → source_of o ≡ Some s → s.0 < r.0
  source_below r s None at is = cc
  source_below r s (Some h) at is = by h.item.alias (wf.sources r.0 h at) is where
    by : (a : Option ResourceAlias) → IsSourceBelow r.0 a → option_case a None (λ x. Some x.source) ≡ Some s → s.0 < r.0
    by None low is = cc
    by (Some a) low is = let same : a.source ≡ s = cc in subst (λ (x : ResourceId). x.0 < r.0) same low

  end_low : (n : ℕ) (r : ResourceId) → (resolved_in n c r).0 ≤ r.0
  end_low zero r = omega arith
  end_low (suc n) r = by (source_of (slice_get c.resources r.0)) refl (λ s. end_low n s) where
    by : (o : Option ResourceId) → source_of (slice_get c.resources r.0) ≡ o → ((s : ResourceId) → (resolved_in n c s).0 ≤ s.0) → (option_case o r (λ source. resolved_in n c source)).0 ≤ r.0
    by None e low = omega arith
    by (Some s) e low = let a = low s in let b = source_below r s (slice_get c.resources r.0) refl e in omega (arith, a, b)

  own_end : (n : ℕ) (r : ResourceId) → r.0 < n → resolved_in n c r ≡ r → source_of (slice_get c.resources r.0) ≡ None
  own_end zero r low is = absurd (omega (arith, low))
  own_end (suc n) r low is = by (source_of (slice_get c.resources r.0)) refl is where
    by : (o : Option ResourceId) → source_of (slice_get c.resources r.0) ≡ o → option_case o r (λ source. resolved_in n c source) ≡ r → source_of (slice_get c.resources r.0) ≡ None
    by None e same = e
    by (Some s) e same =
        let a = end_low n s in
        let b = source_below r s (slice_get c.resources r.0) refl e in
        let at : (resolved_in n c s).0 ≡ r.0 = ap (λ (x : ResourceId). x.0) same in
        absurd (omega (arith, a, b, at))

  end_none : (n : ℕ) (r : ResourceId) → r.0 < n → source_of (slice_get c.resources (resolved_in n c r).0) ≡ None
  end_none zero r low = absurd (omega (arith, low))
  end_none (suc n) r low = by (source_of (slice_get c.resources r.0)) refl (λ s lt. end_none n s lt) where
    by : (o : Option ResourceId) → source_of (slice_get c.resources r.0) ≡ o → ((s : ResourceId) → s.0 < n → source_of (slice_get c.resources (resolved_in n c s).0) ≡ None)
        → source_of (slice_get c.resources (option_case o r (λ source. resolved_in n c source)).0) ≡ None
    by None e rest = e
    by (Some s) e rest = let b = source_below r s (slice_get c.resources r.0) refl e in rest s (omega (arith, b, low))

  -- what stands at the end of aliases is held, and no alias
  pub resolved_source : (r : ResourceId) → HasResource c r → source_of (slice_get c.resources (resolved c r).0) ≡ None
  resolved_source r low = end_none (length c.resources) r low

  pub resolved_there : (r : ResourceId) → HasResource c r → HasResource c (resolved c r)
  resolved_there r low = let a = end_low (length c.resources) r in omega (arith, a, low)

  -- a resource at the end of its aliases is no alias
  pub end_source : (r : ResourceId) → HasResource c r → resolved c r ≡ r → source_of (slice_get c.resources r.0) ≡ None
  end_source r low is = own_end (length c.resources) r low is

  pub end_alias : (r : ResourceId) → HasResource c r → resolved c r ≡ r → is_alias c r ≡ false
  end_alias r low is = ap is_some (end_source r low is)

no_source : (o : Option ResourceId) → is_some o ≡ false → o ≡ None
no_source None h = refl
no_source (Some s) h = absurd (false≢true (sym h))

-- a resource that is no alias is its own end
pub alias_end : (c : Collection) (r : ResourceId) → is_alias c r ≡ false → resolved c r ≡ r
alias_end c r h = resource_ends (length c.resources) c r (no_source (source_of (slice_get c.resources r.0)) h)

-- where an alias leads
pub alias_source : (o : Option (Held Resource)) (x : Resource) (q : ResourceId) → item_of o ≡ Some x → option_case x.alias None (λ a. Some a.source) ≡ Some q → source_of o ≡ Some q
alias_source None x q at is = cc
alias_source (Some h) x q at is = let same : h.item ≡ x = cc in ap (λ (y : Resource). option_case y.alias None (λ a. Some a.source)) same ∙ is

through : (c : Collection) (n : ℕ) (a q : ResourceId) → a.0 < n → source_of (slice_get c.resources a.0) ≡ Some q → source_of (slice_get c.resources q.0) ≡ None → resolved_in n c a ≡ q
through c zero a q low at none = absurd (omega (arith, low))
through c (suc n) a q low at none = ap (λ o. option_case o a (λ source. resolved_in n c source)) at ∙ resource_ends n c q none

-- an alias of such a resource leads to it
pub alias_resolved : (c : Collection) (a q : ResourceId) (x : Resource) → HasResource c a → item_at c.resources a.0 ≡ Some x → option_case x.alias None (λ y. Some y.source) ≡ Some q → source_of (slice_get c.resources q.0) ≡ None → resolved c a ≡ q
alias_resolved c a q x low at is none = through c (length c.resources) a q low (alias_source (slice_get c.resources a.0) x q at is) none
