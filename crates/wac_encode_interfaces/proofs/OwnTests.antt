-- Which own resources of an interface have a number.
use Rattle.std.proofs.Common.{ℕ, zero, suc, eq-eqb, ◌≡◌, ◌&&◌, ◌||◌, ◌+◌, not, Bool, true, false, if◌then◌else◌, List, [], ◌∷◌, ◌++◌, take, Option, Some, None, Contains, refl, ap, sym, ◌∙◌, subst, inl, inr, slice_get, arith}
use Rattle.std.specs.Prelude.{◌==◌, is_none}
use Rattle.std.specs.List.{list_any}
use Rattle.std.proofs.lemmas.Bool.{eqb-true}
use Rattle.std.proofs.lemmas.List.Folds.{list_any-append}
use Rattle.wac_types_shapes.specs.primitives.Name.{Name, find_name}
use Rattle.wac_types_shapes.proofs.lemmas.shapes.Names.{take_at}
use Rattle.wac_types_shapes.specs.declared.shapes.component.ResourceId.{ResourceId}
use Rattle.wac_types_shapes.specs.declared.shapes.component.UsedType.{UsedType}
use Rattle.wac_types_shapes.specs.declared.shapes.component.ItemKind.{ItemKind}
use Rattle.wac_types_shapes.specs.declared.shapes.component.ItemKind.TheVariants as kind
use Rattle.wac_types_shapes.specs.declared.shapes.component.«Type».TheVariants as ty
use Rattle.wac_types_collection.specs.collection.Collection.{Collection}
use Rattle.wac_types_collection.specs.collection.Bound.{is_alias, lists_own, own_name}
use Rattle.wac_types_collection.proofs.lemmas.wide.Members.{in_first, in_rest}
use Rattle.wac_encode_scopes.specs.private.Telling.{is_one_of, is_that}
use Rattle.wac_encode_faults.specs.Cycle.{owner_of}
use Rattle.wac_encode_interfaces.specs.private.Parts.{is_number, is_owned, owned_in}
use Rattle.wac_encode_interfaces.proofs.Bound.{true-false, one-some, no-some, both-true, true-both, any-in, in-any}

id-is : (q r : ResourceId) → (q.0 == r.0) ≡ true → q ≡ r
id-is q r h = ap (λ k. record { 0 = k }) (eqb-true q.0 r.0 h)

own-listed : (c : Collection) (uses : List (Name × UsedType)) (es : List (Name × ItemKind)) (r : ResourceId) (w : Name) → own_name c uses es r ≡ Some w → Contains es (w, kind.TypeItem (ty.Resource r))
own-listed c uses [] r w h = absurd (no-some w h)
own-listed c uses ((n, kind.TypeItem (ty.Resource q)) ∷ es) r w h = by (lists_own c uses r (n, kind.TypeItem (ty.Resource q))) refl h (λ k. own-listed c uses es r w k)
  where
    by : (b : Bool) → lists_own c uses r (n, kind.TypeItem (ty.Resource q)) ≡ b → (if b then Some n else own_name c uses es r) ≡ Some w → (own_name c uses es r ≡ Some w → Contains es (w, kind.TypeItem (ty.Resource r)))
        → Contains ((n, kind.TypeItem (ty.Resource q)) ∷ es) (w, kind.TypeItem (ty.Resource r))
    by true is h more =
        let (same, rest) = both-true (q.0 == r.0) (not (is_alias c q) && is_none (find_name uses n)) is in
        let name = one-some n w h in
        let id = id-is q r same in
        subst (λ (e : Name × ItemKind). Contains ((n, kind.TypeItem (ty.Resource q)) ∷ es) e) (λ i. (name i, kind.TypeItem (ty.Resource (id i)))) (in_first (n, kind.TypeItem (ty.Resource q)) es)
    by false is h more = in_rest (n, kind.TypeItem (ty.Resource q)) (w, kind.TypeItem (ty.Resource r)) es (more h)
own-listed c uses ((n, kind.TypeItem (ty.Value v)) ∷ es) r w h = in_rest (n, kind.TypeItem (ty.Value v)) (w, kind.TypeItem (ty.Resource r)) es (own-listed c uses es r w h)
own-listed c uses ((n, kind.TypeItem (ty.Func v)) ∷ es) r w h = in_rest (n, kind.TypeItem (ty.Func v)) (w, kind.TypeItem (ty.Resource r)) es (own-listed c uses es r w h)
own-listed c uses ((n, kind.TypeItem (ty.Interface v)) ∷ es) r w h = in_rest (n, kind.TypeItem (ty.Interface v)) (w, kind.TypeItem (ty.Resource r)) es (own-listed c uses es r w h)
own-listed c uses ((n, kind.TypeItem (ty.World v)) ∷ es) r w h = in_rest (n, kind.TypeItem (ty.World v)) (w, kind.TypeItem (ty.Resource r)) es (own-listed c uses es r w h)
own-listed c uses ((n, kind.TypeItem (ty.Module v)) ∷ es) r w h = in_rest (n, kind.TypeItem (ty.Module v)) (w, kind.TypeItem (ty.Resource r)) es (own-listed c uses es r w h)
own-listed c uses ((n, kind.Func v) ∷ es) r w h = in_rest (n, kind.Func v) (w, kind.TypeItem (ty.Resource r)) es (own-listed c uses es r w h)
own-listed c uses ((n, kind.Instance v) ∷ es) r w h = in_rest (n, kind.Instance v) (w, kind.TypeItem (ty.Resource r)) es (own-listed c uses es r w h)
own-listed c uses ((n, kind.Component v) ∷ es) r w h = in_rest (n, kind.Component v) (w, kind.TypeItem (ty.Resource r)) es (own-listed c uses es r w h)
own-listed c uses ((n, kind.Module v) ∷ es) r w h = in_rest (n, kind.Module v) (w, kind.TypeItem (ty.Resource r)) es (own-listed c uses es r w h)
own-listed c uses ((n, kind.Value v) ∷ es) r w h = in_rest (n, kind.Value v) (w, kind.TypeItem (ty.Resource r)) es (own-listed c uses es r w h)

module _ (entries : List (ResourceId × ℕ)) (p : ℕ) where
  owned-is : (r : ResourceId) (n : Name) (k : ItemKind) → is_owned entries p r (n, k) ≡ is_that (owned_in entries p k) r
  owned-is r n (kind.TypeItem (ty.Resource q)) = by (is_number p (owner_of entries q))
    where
      and-true : (a : Bool) → (a && true) ≡ a
      and-true true = refl
      and-true false = refl

      and-false : (a : Bool) → (a && false) ≡ false
      and-false true = refl
      and-false false = refl

      by : (b : Bool) → ((r.0 == q.0) && b) ≡ is_that (if b then Some q else None) r
      by true = and-true (r.0 == q.0)
      by false = and-false (r.0 == q.0)
  owned-is r n (kind.TypeItem (ty.Value q)) = refl
  owned-is r n (kind.TypeItem (ty.Func q)) = refl
  owned-is r n (kind.TypeItem (ty.Interface q)) = refl
  owned-is r n (kind.TypeItem (ty.World q)) = refl
  owned-is r n (kind.TypeItem (ty.Module q)) = refl
  owned-is r n (kind.Func q) = refl
  owned-is r n (kind.Instance q) = refl
  owned-is r n (kind.Component q) = refl
  owned-is r n (kind.Module q) = refl
  owned-is r n (kind.Value q) = refl

  that-number : (k : ItemKind) (r : ResourceId) → is_that (owned_in entries p k) r ≡ true → is_number p (owner_of entries r) ≡ true
  that-number (kind.TypeItem (ty.Resource q)) r h = by (is_number p (owner_of entries q)) refl h
    where
      by : (b : Bool) → is_number p (owner_of entries q) ≡ b → is_that (if b then Some q else None) r ≡ true → is_number p (owner_of entries r) ≡ true
      by true is h = ap (λ (z : ResourceId). is_number p (owner_of entries z)) (id-is r q h) ∙ is
      by false is h = true-false false h refl
  that-number (kind.TypeItem (ty.Value q)) r h = true-false false h refl
  that-number (kind.TypeItem (ty.Func q)) r h = true-false false h refl
  that-number (kind.TypeItem (ty.Interface q)) r h = true-false false h refl
  that-number (kind.TypeItem (ty.World q)) r h = true-false false h refl
  that-number (kind.TypeItem (ty.Module q)) r h = true-false false h refl
  that-number (kind.Func q) r h = true-false false h refl
  that-number (kind.Instance q) r h = true-false false h refl
  that-number (kind.Component q) r h = true-false false h refl
  that-number (kind.Module q) r h = true-false false h refl
  that-number (kind.Value q) r h = true-false false h refl

  -- An own resource is among those that have the number if it has it.
  pub any-owned : (c : Collection) (uses : List (Name × UsedType)) (es : List (Name × ItemKind)) (r : ResourceId) (w : Name) → own_name c uses es r ≡ Some w → list_any (is_owned entries p r) es ≡ is_number p (owner_of entries r)
  any-owned c uses es r w own = by (is_number p (owner_of entries r)) refl
    where
      bool-of : (b : Bool) → (b ≡ true → ⊥) → b ≡ false
      bool-of true h = absurd (h refl)
      bool-of false h = refl

      by : (b : Bool) → is_number p (owner_of entries r) ≡ b → list_any (is_owned entries p r) es ≡ b
      by true is = in-any (is_owned entries p r) es (w, kind.TypeItem (ty.Resource r)) (own-listed c uses es r w own) (true-both (r.0 == r.0) (is_number p (owner_of entries r)) (eq-eqb r.0 r.0 refl) is)
      by false is = bool-of (list_any (is_owned entries p r) es) (λ h.
          let (e, there, at) = any-in (is_owned entries p r) es h in
          true-false (is_number p (owner_of entries r)) (that-number e.1 r (sym (owned-is r e.0 e.1) ∙ at)) is)

  -- A resource that an item owns has its number.
  pub owned-number : (es : List (Name × ItemKind)) (r : ResourceId) → list_any (is_owned entries p r) es ≡ true → is_number p (owner_of entries r) ≡ true
  owned-number es r h =
      let (e, there, at) = any-in (is_owned entries p r) es h in
      that-number e.1 r (sym (owned-is r e.0 e.1) ∙ at)

  -- one more item

  pub owned-next : (es : List (Name × ItemKind)) (i : ℕ) (n : Name) (k : ItemKind) (old new : List ResourceId) → slice_get es i ≡ Some (n, k) → ((r : ResourceId) → is_one_of old r ≡ list_any (is_owned entries p r) (take i es))
      → ((r : ResourceId) → is_one_of new r ≡ (is_one_of old r || is_that (owned_in entries p k) r)) → (r : ResourceId) → is_one_of new r ≡ list_any (is_owned entries p r) (take (i + 1) es)
  owned-next es i n k old new at was step r =
      let more : suc i ≡ i + 1 = omega arith in
      step r
      ∙ (λ j. was r j || sym (owned-is r n k) j)
      ∙ (λ j. list_any (is_owned entries p r) (take i es) || sym (or-none (is_owned entries p r (n, k))) j)
      ∙ sym (list_any-append (is_owned entries p r) (take i es) ((n, k) ∷ []))
      ∙ ap (list_any (is_owned entries p r)) (sym (take_at es i (n, k) at) ∙ ap (λ (m : ℕ). take m es) more)
    where
      or-none : (b : Bool) → (b || false) ≡ b
      or-none true = refl
      or-none false = refl
