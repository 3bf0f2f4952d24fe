-- What was found is what is written inside a type.
use Rattle.std.proofs.Common.{ℕ, zero, suc, ◌+◌, ◌<◌, ◌≤◌, true, List, [], ◌∷◌, ◌++◌, Some, length, ◌≡◌, ◌⊎◌, inl, inr, refl, ap, sym, subst, arith}
use Rattle.std.specs.Prelude.{slice_get}
use Rattle.wac_types_shapes.specs.shapes.Kinds.{kind_type}
use Rattle.wac_types_shapes.specs.declared.shapes.component.ItemKind.{ItemKind}
use Rattle.wac_types_shapes.specs.declared.shapes.component.«Type».{«Type» as AnyType}
use Rattle.wac_types_collection.specs.collection.Collection.{Collection, IsWellFormed, holds_type}
use Rattle.wac_types_collection.specs.reach.Reach.{IsIn}
use Rattle.wac_types_collection.specs.private.reach.Found.{with_all}
use Rattle.wac_types_collection.proofs.lemmas.reach.Lists.{in_at, at_in, all_old, all_new, all_only, all_grown}
use Rattle.wac_types_collection.proofs.lemmas.reach.Reaching.{mentioned_held}
use Rattle.wac_encode_faults.specs.Faults.{listed_items, IsListed, IsInside, itself, in_item}
use Rattle.wac_encode_faults.specs.private.Roots.{IsInsideOne}
use Rattle.wac_encode_faults.specs.private.Search.{is_scope, scope_of, inner_scopes}
use Rattle.wac_encode_faults.proofs.Listing.{inner_of_listed, listed_of_inner, inner_mentioned, scope_or_nothing, scope_itself, listed_none}

split : (i next : ℕ) → i < next + 1 → (i < next) ⊎ (i ≡ next)
split zero zero l = inr refl
split zero (suc n) l = inl (omega arith)
split (suc i) zero l = absurd (omega (arith, l))
split (suc i) (suc n) l = elim (split i n (omega (arith, l))) [ inl k ↦ inl (omega (arith, k)) | inr e ↦ inr (ap suc e) ]

-- The types that were found, of which those before the next have been looked at.
pub record AreInside (c : Collection) (roots ts : List AnyType) (next : ℕ) : Type 0 where
  pub inside : (t : AnyType) → IsIn t ts → IsInsideOne c roots t
  pub held : (t : AnyType) → IsIn t ts → holds_type c t ≡ true
  pub first : (t : AnyType) → IsIn t roots → IsIn t ts
  pub closed : (i : ℕ) (u t : AnyType) → i < next → slice_get ts i ≡ Some u → IsIn t (inner_scopes c u) → IsIn t ts

-- what a type inside lists is inside
onward : (c : Collection) (root u : AnyType) (k : ItemKind) → IsInside c u root → IsListed k (listed_items c u) → IsInside c (kind_type k) root
onward c root u k (itself _ _ e) w = in_item (kind_type k) root k (subst (λ z. IsListed k (listed_items c z)) e w) (itself (kind_type k) (kind_type k) refl)
onward c root u k (in_item _ _ j h r) w = in_item (kind_type k) root j h (onward c (kind_type j) u k r w)

onward_one : (c : Collection) (roots : List AnyType) (u : AnyType) (k : ItemKind) → IsInsideOne c roots u → IsListed k (listed_items c u) → IsInsideOne c roots (kind_type k)
onward_one c roots u k (root, here, h) w = (root, here, onward c root u k h w)

pub inside_first : (c : Collection) (roots : List AnyType) → ((t : AnyType) → IsIn t roots → holds_type c t ≡ true) → AreInside c roots roots 0
inside_first c roots held = record {
  inside = λ t h. (t, h, itself t t refl);
  held = held;
  first = λ t h. h;
  closed = λ i u t l at w. absurd (omega (arith, l));
}

earlier : (xs added : List AnyType) (i : ℕ) (x y : AnyType) → slice_get xs i ≡ Some x → slice_get (xs ++ added) i ≡ Some y → y ≡ x
earlier [] added i x y is also = cc
earlier (z ∷ xs) added zero x y is also = cc
earlier (z ∷ xs) added (suc i) x y is also = earlier xs added i x y is also

before : (xs added : List AnyType) (i n : ℕ) (x y : AnyType) → i < n → slice_get xs n ≡ Some x → slice_get (xs ++ added) i ≡ Some y → slice_get xs i ≡ Some y
before [] added i n x y l is also = cc
before (z ∷ xs) added zero n x y l is also = also
before (z ∷ xs) added (suc i) zero x y l is also = absurd (omega (arith, l))
before (z ∷ xs) added (suc i) (suc n) x y l is also = before xs added i n x y (omega (arith, l)) is also

module _ (c : Collection) (wf : IsWellFormed c) (roots ts : List AnyType) (next : ℕ) (u : AnyType) (at : slice_get ts next ≡ Some u) where
  -- the same at a position of the longer list
  at_position : (i : ℕ) (x : AnyType) → i < next + 1 → slice_get (with_all ts (inner_scopes c u)) i ≡ Some x → ((i < next) × (slice_get ts i ≡ Some x)) ⊎ ((i ≡ next) × (x ≡ u))
  at_position i x l is =
      let (added, grown) = all_grown ts (inner_scopes c u) in
      elim (split i next l) [
        | inl k ↦ inl (k, before ts added i next u x k at (subst (λ z. slice_get z i ≡ Some x) grown is))
        | inr e ↦ inr (e, earlier ts added next u x at (subst (λ z. slice_get z next ≡ Some x) grown (subst (λ k. slice_get (with_all ts (inner_scopes c u)) k ≡ Some x) e is)))
      ]

  pub inside_next : (now : List AnyType) → now ≡ with_all ts (inner_scopes c u) → AreInside c roots ts next → AreInside c roots now (next + 1)
  inside_next now grown f = subst (λ xs. AreInside c roots xs (next + 1)) (sym grown) (record {
    inside = λ t h. reached t (all_only ts (inner_scopes c u) t h);
    held = λ t h. also t (all_only ts (inner_scopes c u) t h);
    first = λ t h. all_old ts (inner_scopes c u) t (f.first t h);
    closed = λ i x t l is w. shut i x t (at_position i x l is) w;
  })
    where
      reached : (t : AnyType) → IsIn t ts ⊎ IsIn t (inner_scopes c u) → IsInsideOne c roots t
      reached t (inl h) = f.inside t h
      reached t (inr w) = let (k, l, same) = listed_of_inner c u t w in subst (IsInsideOne c roots) (sym same) (onward_one c roots u k (f.inside u (in_at u ts next at)) l)

      also : (t : AnyType) → IsIn t ts ⊎ IsIn t (inner_scopes c u) → holds_type c t ≡ true
      also t (inl h) = f.held t h
      also t (inr w) = mentioned_held c wf u t (f.held u (in_at u ts next at)) (inner_mentioned c u t w)

      shut : (i : ℕ) (x t : AnyType) → ((i < next) × (slice_get ts i ≡ Some x)) ⊎ ((i ≡ next) × (x ≡ u)) → IsIn t (inner_scopes c x) → IsIn t (with_all ts (inner_scopes c u))
      shut i x t (inl (l, is)) w = all_old ts (inner_scopes c u) t (f.closed i x t l is w)
      shut i x t (inr (e, same)) w = all_new ts (inner_scopes c u) t (subst (λ z. IsIn t (inner_scopes c z)) same w)

-- inside what is no scope and lists nothing there is none
no_scope_inside : (c : Collection) (s t : AnyType) → (listed_items c t ≡ []) × (scope_of t ≡ []) → IsInside c s t → is_scope s ≡ true → ⊥
no_scope_inside c s t none (itself _ _ e) w = subst (IsIn s) none.1 (subst (λ z. IsIn s (scope_of z)) e ((scope_itself s).0 w))
no_scope_inside c s t none (in_item _ _ k h _) w = listed_none k (subst (IsListed k) none.0 h)

-- all was looked at
pub inside_all : (c : Collection) (roots ts : List AnyType) (next : ℕ) → length ts ≤ next → AreInside c roots ts next → (t : AnyType) → IsInsideOne c roots t → is_scope t ≡ true → IsIn t ts
inside_all c roots ts next past all t (root, here, is) w = inner root t (all.first root here) is w
  where
    inner : (a s : AnyType) → IsIn a ts → IsInside c s a → is_scope s ≡ true → IsIn s ts
    inner a s here (itself _ _ e) w = subst (λ z. IsIn z ts) (sym e) here
    inner a s here (in_item _ _ j h r) w = elim (scope_or_nothing c (kind_type j)) [
      | inl is ↦ inner (kind_type j) s (let (i, l, at) = at_in a ts here in all.closed i a (kind_type j) (omega (arith, l, past)) at (inner_of_listed c a j (kind_type j) h is)) r w
      | inr none ↦ absurd (no_scope_inside c s (kind_type j) none r w)
    ]
