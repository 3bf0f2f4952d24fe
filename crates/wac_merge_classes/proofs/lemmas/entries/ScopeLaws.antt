-- What resources are called in a scope, from what they are called in the one around it.
use Rattle.std.proofs.Common.{◌≡◌, ℕ, zero, suc, ◌<◌, List, Option, Some, None, slice_get, refl, ap, ◌∙◌, subst, arith}
use Rattle.wac_types_shapes.specs.primitives.Name.{option_case, first_some}
use Rattle.wac_types_shapes.specs.primitives.Tree.{Leaf}
use Rattle.wac_types_collection.specs.collection.Collection.{Collection}
use Rattle.wac_types_collection.specs.collection.Held.{Names}
use Rattle.wac_types_collection.specs.subtyping.Called.{Called, called_at, one_out, or_around}
use Rattle.wac_types_shapes.specs.declared.shapes.component.ResourceId.{ResourceId}
use Rattle.wac_merge_classes.specs.declared.entries.scopes.Opener.{Opener}
use Rattle.wac_merge_classes.specs.declared.entries.scopes.Scope.{Scope}
use Rattle.wac_merge_classes.specs.entries.Scopes.{binds, IsBelow, AreScopes, called_to, called_in}

-- what is called there asks of what is around it only about the resource
pub around-same : (c : Collection) (here : Option Leaf) (m n : Names Called) (r : ResourceId) → m r ≡ n r → or_around c here m r ≡ or_around c here n r
around-same c here m n r e = ap (λ x. first_some (option_case here None (λ l. Some (called_at c r l))) (option_case x None (λ y. Some (one_out y)))) e

module _ (c : Collection) (roots : List Opener) (ss : List Scope) (are : AreScopes c roots ss) (root : Opener → Names Called) where
  -- what is called in a scope, as deep as one says in the scope around it
  abbrev seen : ResourceId → (ℕ → Option Called) → Option Scope → Option Called
  seen r m o = option_case o None (λ s. option_case s.parent (root s.opener r) (λ p. or_around c (binds c s.opener r) (λ q. m p) r))

  parent-same : (i : ℕ) (r : ResourceId) (m n : ℕ → Option Called) → ((p : ℕ) → p < i → m p ≡ n p) → (s : Scope) (o : Option ℕ) → IsBelow i o
      → option_case o (root s.opener r) (λ p. or_around c (binds c s.opener r) (λ q. m p) r) ≡ option_case o (root s.opener r) (λ p. or_around c (binds c s.opener r) (λ q. n p) r)
  parent-same i r m n same s None below = refl
  parent-same i r m n same s (Some p) below = around-same c (binds c s.opener r) (λ q. m p) (λ q. n p) r (same p below)

  scope-same : (i : ℕ) (r : ResourceId) (m n : ℕ → Option Called) → ((p : ℕ) → p < i → m p ≡ n p) → (o : Option Scope) → slice_get ss i ≡ o → seen r m o ≡ seen r n o
  scope-same i r m n same None at = refl
  scope-same i r m n same (Some s) at = parent-same i r m n same s s.parent (are.around i s at)

  -- as deep as is enough
  deep-same : (j k i : ℕ) (r : ResourceId) → i < j → i < k → called_to j c root ss i r ≡ called_to k c root ss i r
  deep-same zero k i r lj lk = absurd (omega (arith, lj))
  deep-same (suc j) zero i r lj lk = absurd (omega (arith, lk))
  deep-same (suc j) (suc k) i r lj lk =
      scope-same i r (λ p. called_to j c root ss p r) (λ p. called_to k c root ss p r) (λ p lt. deep-same j k p r (omega (arith, lt, lj)) (omega (arith, lt, lk))) (slice_get ss i) refl

  -- in a scope around which there is none
  pub called-at-root : (i : ℕ) (s : Scope) (r : ResourceId) → slice_get ss i ≡ Some s → s.parent ≡ None → called_in c root ss i r ≡ root s.opener r
  called-at-root i s r at outermost =
      ap (seen r (λ p. called_to i c root ss p r)) at ∙ ap (λ o. option_case o (root s.opener r) (λ p. or_around c (binds c s.opener r) (called_to i c root ss p) r)) outermost

  -- in a scope around which there is one
  pub called-inside : (i p : ℕ) (s : Scope) (r : ResourceId) → slice_get ss i ≡ Some s → s.parent ≡ Some p → called_in c root ss i r ≡ or_around c (binds c s.opener r) (called_in c root ss p) r
  called-inside i p s r at outer =
      let below : p < i = subst (IsBelow i) outer (are.around i s at) in
      ap (seen r (λ q. called_to i c root ss q r)) at
      ∙ (ap (λ o. option_case o (root s.opener r) (λ q. or_around c (binds c s.opener r) (called_to i c root ss q) r)) outer
      ∙ around-same c (binds c s.opener r) (called_to i c root ss p) (called_in c root ss p) r (deep-same i (suc p) p r below (omega arith)))

  -- in the scopes that the item itself opens
  pub called-rooted : (j : ℕ) (o : Opener) (r : ResourceId) → slice_get roots j ≡ Some o → called_in c root ss j r ≡ root o r
  called-rooted j o r at =
      let w = are.rooted j o at in
      called-at-root j w.0 r w.1 w.3 ∙ ap (λ x. root x r) w.2
