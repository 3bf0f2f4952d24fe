-- Resources at the ends of aliases, and those that items list as their own.
use Rattle.std.proofs.Common.{◌≡◌, ℕ, zero, suc, ◌<◌, Bool, true, false, not, cond, ◌&&◌, ◌==◌, List, [], ◌∷◌, length, slice_get, Option, Some, None, is_some, is_none, refl, sym, ap, ◌∙◌, subst, inl, inr, arith}
use Rattle.std.specs.List.{AllZip}
use Rattle.std.proofs.lemmas.Bool.{cases_Bool, and_from, and_parts, eqb-true, eq-eqb, false≢true}
use Rattle.wac_types_shapes.specs.primitives.Name.{Name, find_name, option_case}
use Rattle.wac_types_collection.specs.collection.Collection.{Collection, HasResource, IsSourceBelow, IsWellFormed}
use Rattle.wac_types_collection.specs.collection.Held.{resolved, resolved_in, source_of}
use Rattle.wac_types_collection.specs.collection.Bound.{is_alias, lists_own, own_name}
use Rattle.wac_types_collection.specs.declared.collection.collection.Held.{Held}
use Rattle.wac_types_shapes.specs.declared.shapes.component.Resource.{Resource}
use Rattle.wac_types_shapes.specs.declared.shapes.component.ResourceAlias.{ResourceAlias}
use Rattle.wac_types_shapes.specs.declared.shapes.component.ResourceId.{ResourceId}
use Rattle.wac_types_shapes.specs.declared.shapes.component.UsedType.{UsedType}
use Rattle.wac_types_shapes.specs.declared.shapes.component.«Type».TheVariants as ty
use Rattle.wac_types_shapes.specs.declared.shapes.component.ItemKind.{ItemKind}
use Rattle.wac_types_shapes.specs.declared.shapes.component.ItemKind.TheVariants as kind
use Rattle.wac_merge_classes.specs.entries.Places.{own_resource}
use Rattle.wac_merge_classes.proofs.lemmas.terms.Found.{no_some, some_same}

-- ---- the ends of aliases

pub no-value : {A : Type 0} (o : Option A) → is_some o ≡ false → o ≡ None
no-value None e = refl
no-value (Some x) e = absurd (false≢true (sym e))

module _ (c : Collection) (wf : IsWellFormed c) where
  alias-below : (r s : ResourceId) (a : Option ResourceAlias) → IsSourceBelow r.0 a → option_case a None (λ x. Some x.source) ≡ Some s → s.0 < r.0
  alias-below r s None below e = absurd (no_some s e)
  alias-below r s (Some a) below e = subst (λ (q : ResourceId). q.0 < r.0) (some_same a.source s e) below

  source-below : (r s : ResourceId) → source_of (slice_get c.resources r.0) ≡ Some s → s.0 < r.0
  source-below r s e = go (slice_get c.resources r.0) refl e where
    go : (o : Option (Held Resource)) → slice_get c.resources r.0 ≡ o → source_of o ≡ Some s → s.0 < r.0
    go None at e = absurd (no_some s e)
    go (Some h) at e = alias-below r s h.item.alias (wf.sources r.0 h at) e

  chain-ends : (n : ℕ) (r : ResourceId) → r.0 < n → source_of (slice_get c.resources (resolved_in n c r).0) ≡ None
  chain-ends zero r lt = absurd (omega (arith, lt))
  chain-ends (suc n) r lt = go (λ s. chain-ends n s) (source_of (slice_get c.resources r.0)) refl where
    go : ((s : ResourceId) → s.0 < n → source_of (slice_get c.resources (resolved_in n c s).0) ≡ None)
        → (o : Option ResourceId) → source_of (slice_get c.resources r.0) ≡ o → source_of (slice_get c.resources (option_case o r (λ s. resolved_in n c s)).0) ≡ None
    go ih None e = e
    go ih (Some s) e = let below = source-below r s e in ih s (omega (arith, lt, below))

  -- the resource at the end of aliases is none
  pub end-no-source : (r : ResourceId) → HasResource c r → source_of (slice_get c.resources (resolved c r).0) ≡ None
  end-no-source r lt = chain-ends (length c.resources) r lt

  pub end-no-alias : (r : ResourceId) → HasResource c r → is_alias c (resolved c r) ≡ false
  end-no-alias r lt = ap is_some (end-no-source r lt)

  pub itself-no-alias : (r : ResourceId) → HasResource c r → resolved c r ≡ r → is_alias c r ≡ false
  itself-no-alias r lt e = subst (λ (q : ResourceId). is_alias c q ≡ false) e (end-no-alias r lt)

-- ---- own resources

module _ (c : Collection) (uses : List (Name × UsedType)) where
  -- the item lists the resource, which is no alias, and under a name that is not used
  pub record IsOwn (r : ResourceId) (e : Name × ItemKind) : Type 0 where
    pub is : e.1 ≡ kind.TypeItem (ty.Resource r)
    pub plain : is_alias c r ≡ false
    pub unused : find_name uses e.0 ≡ None

  not-true : (b : Bool) → not b ≡ true → b ≡ false
  not-true true e = sym e
  not-true false e = refl

  is-none : {A : Type 0} (o : Option A) → is_none o ≡ true → o ≡ None
  is-none None e = refl
  is-none (Some x) e = absurd (false≢true e)

  pub own-is : (r : ResourceId) (e : Name × ItemKind) → lists_own c uses r e ≡ true → IsOwn r e
  own-is r (n, kind.TypeItem (ty.Resource q)) t =
      let p = and_parts (q.0 == r.0) (not (is_alias c q) && is_none (find_name uses n)) t in
      let s = and_parts (not (is_alias c q)) (is_none (find_name uses n)) p.1 in
      let same : q ≡ r = same-id q r (eqb-true q.0 r.0 p.0) in
      record {
        is = ap (λ (x : ResourceId). kind.TypeItem (ty.Resource x)) same;
        plain = subst (λ (x : ResourceId). is_alias c x ≡ false) same (not-true (is_alias c q) s.0);
        unused = is-none (find_name uses n) s.1;
      }
    where
      same-id : (q r : ResourceId) → q.0 ≡ r.0 → q ≡ r
      same-id q r e = λ i. record { 0 = e i }
  own-is r (n, kind.TypeItem (ty.Func x)) t = absurd (false≢true t)
  own-is r (n, kind.TypeItem (ty.Value x)) t = absurd (false≢true t)
  own-is r (n, kind.TypeItem (ty.Interface x)) t = absurd (false≢true t)
  own-is r (n, kind.TypeItem (ty.World x)) t = absurd (false≢true t)
  own-is r (n, kind.TypeItem (ty.Module x)) t = absurd (false≢true t)
  own-is r (n, kind.Func x) t = absurd (false≢true t)
  own-is r (n, kind.Instance x) t = absurd (false≢true t)
  own-is r (n, kind.Component x) t = absurd (false≢true t)
  own-is r (n, kind.Module x) t = absurd (false≢true t)
  own-is r (n, kind.Value x) t = absurd (false≢true t)

  is-own : (r : ResourceId) (n : Name) → is_alias c r ≡ false → find_name uses n ≡ None → lists_own c uses r (n, kind.TypeItem (ty.Resource r)) ≡ true
  is-own r n plain unused = and_from (r.0 == r.0) (not (is_alias c r) && is_none (find_name uses n)) (eq-eqb r.0 r.0 refl)
      (and_from (not (is_alias c r)) (is_none (find_name uses n)) (ap not plain) (ap is_none unused))

  pub own-lists : (r : ResourceId) (e : Name × ItemKind) → IsOwn r e → lists_own c uses r e ≡ true
  own-lists r (n, k) o = subst (λ (x : ItemKind). lists_own c uses r (n, x) ≡ true) (sym o.is) (is-own r n o.plain o.unused)

  pub own-resource : (r : ResourceId) (e : Name × ItemKind) → IsOwn r e → own_resource c uses e ≡ Some r
  own-resource r (n, k) o = subst (λ (x : ItemKind). own_resource c uses (n, x) ≡ Some r) (sym o.is)
      (ap (λ (x : Option UsedType). cond (is_some x) None (cond (is_alias c r) None (Some r))) o.unused ∙ ap (λ b. cond b None (Some r)) o.plain)

  -- where the resource is listed under its name
  pub own-found : (es : List (Name × ItemKind)) (r : ResourceId) (n : Name) → own_name c uses es r ≡ Some n → (i : ℕ) × (k : ItemKind) × (slice_get es i ≡ Some (n, k)) × IsOwn r (n, k)
  own-found [] r n e = absurd (no_some n e)
  own-found (x ∷ es) r n e = elim (cases_Bool (lists_own c uses r x)) [
    | inl t ↦
        let name : x.0 ≡ n = some_same x.0 n (sym (ap (λ b. cond b (Some x.0) (own_name c uses es r)) t) ∙ e) in
        (0, x.1, ap (λ (y : Name). Some (y, x.1)) name, subst (λ (y : Name). IsOwn r (y, x.1)) name (own-is r x t))
    | inr f ↦
        let w = own-found es r n (sym (ap (λ b. cond b (Some x.0) (own_name c uses es r)) f) ∙ e) in
        (suc w.0, w.1, w.2, w.3)
  ]

  -- and what is listed has one
  pub own-named : (es : List (Name × ItemKind)) (r : ResourceId) (i : ℕ) (e : Name × ItemKind) → slice_get es i ≡ Some e → IsOwn r e → (n : Name) × (own_name c uses es r ≡ Some n)
  own-named [] r i e at o = absurd (no_some e at)
  own-named (x ∷ es) r zero e at o =
      let t : lists_own c uses r x ≡ true = subst (λ (y : Name × ItemKind). lists_own c uses r y ≡ true) (sym (some_same x e at)) (own-lists r e o) in
      (x.0, ap (λ b. cond b (Some x.0) (own_name c uses es r)) t)
  own-named (x ∷ es) r (suc j) e at o = elim (cases_Bool (lists_own c uses r x)) [
    | inl t ↦ (x.0, ap (λ b. cond b (Some x.0) (own_name c uses es r)) t)
    | inr f ↦
        let w = own-named es r j e at o in
        (w.0, ap (λ b. cond b (Some x.0) (own_name c uses es r)) f ∙ w.1)
  ]

-- ---- two lists, place by place

module _ {A B : Type 0} (R : A → B → Type 0) where
  pub zip-left : (xs : List A) (ys : List B) (i : ℕ) (x : A) → AllZip R xs ys → slice_get xs i ≡ Some x → (y : B) × (slice_get ys i ≡ Some y) × R x y
  zip-left [] ys i x z at = absurd (no_some x at)
  zip-left (a ∷ xs) [] i x z at = absurd z
  zip-left (a ∷ xs) (b ∷ ys) zero x z at = (b, refl, subst (λ (y : A). R y b) (some_same a x at) z.0)
  zip-left (a ∷ xs) (b ∷ ys) (suc i) x z at = zip-left xs ys i x z.1 at

  pub zip-right : (xs : List A) (ys : List B) (i : ℕ) (y : B) → AllZip R xs ys → slice_get ys i ≡ Some y → (x : A) × (slice_get xs i ≡ Some x) × R x y
  zip-right xs [] i y z at = absurd (no_some y at)
  zip-right [] (b ∷ ys) i y z at = absurd z
  zip-right (a ∷ xs) (b ∷ ys) zero y z at = (a, refl, subst (λ (x : B). R a x) (some_same b y at) z.0)
  zip-right (a ∷ xs) (b ∷ ys) (suc i) y z at = zip-right xs ys i y z.1 at
