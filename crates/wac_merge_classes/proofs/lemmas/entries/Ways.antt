-- The way out of a scope: how far it leads, and what resources are called where it leads.
use Rattle.std.proofs.Common.{◌≡◌, ℕ, zero, suc, ◌+◌, ◌≤◌, ◌<◌, List, [], ◌∷◌, ◌++◌, inl, inr, ◌⊎◌, length, Option, Some, None, slice_get, get_or, refl, sym, ap, ◌∙◌, subst, arith}
use Rattle.std.specs.Option.{option_map}
use Rattle.wac_types_shapes.specs.primitives.Name.{option_case}
use Rattle.wac_types_shapes.specs.primitives.Tree.{Leaf}
use Rattle.wac_types_collection.specs.collection.Collection.{Collection}
use Rattle.wac_types_collection.specs.collection.Held.{Names}
use Rattle.wac_types_collection.specs.subtyping.Called.{Called, bound_at, of_class, itself, one_out, or_around}
use Rattle.wac_types_shapes.specs.declared.shapes.component.ResourceId.{ResourceId}
use Rattle.wac_merge_classes.specs.declared.entries.outward.Outward.{Outward}
use Rattle.wac_merge_classes.specs.declared.entries.scopes.Opener.{Opener}
use Rattle.wac_merge_classes.specs.declared.entries.scopes.Scope.{Scope}
use Rattle.wac_merge_classes.specs.private.entries.Ways.{LeadsOut, outermost, binding, beyond, HaveWays}
use Rattle.wac_merge_classes.specs.entries.Scopes.{binds, AreScopes, IsBelow, called_in}
use Rattle.wac_merge_classes.specs.private.entries.Walking.{AreBound, out_by}
use Rattle.wac_merge_classes.proofs.lemmas.entries.Lists.{push-cases}
use Rattle.wac_merge_classes.proofs.lemmas.entries.ScopeLaws.{called-inside}

some-same : {A : Type 0} (x y : A) → Some x ≡ Some y → x ≡ y
some-same x y e = cc

-- what is read at a position stands there
pub read-at : {A : Type 0} (xs : List A) (i : ℕ) (d : A) → i < length xs → slice_get xs i ≡ Some (get_or xs i d)
read-at [] i d lt = absurd (omega (arith, lt))
read-at (x ∷ xs) zero d lt = refl
read-at (x ∷ xs) (suc i) d lt = read-at xs i d (omega (arith, lt))

-- ---- how far

-- no scope is further out
pub behind : Option ℕ → ℕ
behind None = 0
behind (Some p) = suc p

pub behind-below : (i : ℕ) (o : Option ℕ) → IsBelow i o → behind o ≤ i
unfolding behind
behind-below i None below = omega arith
behind-below i (Some p) below = omega (arith, below)

pub record IsNear (o : Option ℕ) (w : Outward) : Type 0 where
  pub far : 1 ≤ w.out
  pub near : w.out + w.position ≤ behind o

module _ (ss : List Scope) (bs : List (List (ResourceId × Leaf))) where
  -- where there is no way out there is no scope around
  pub ends : (o : Option ℕ) (w : Option Outward) → LeadsOut ss bs o w → w ≡ None → o ≡ None
  ends o w outermost e = refl
  ends o w (binding p b) e = cc
  ends o w (beyond p s u at empty deep) e = cc

  -- the same of what stands at the position
  pub at-one : (i : ℕ) (t : Scope) (w : Option Outward) → slice_get ss i ≡ Some t → LeadsOut ss bs t.parent w → (s : Scope) → slice_get ss i ≡ Some s → LeadsOut ss bs s.parent w
  at-one i t w at leads s there = subst (λ (x : Scope). LeadsOut ss bs x.parent w) (some-same t s (sym at ∙ there)) leads

  pub nowhere : (o : Option ℕ) (w : Option Outward) → o ≡ None → w ≡ None → LeadsOut ss bs o w
  nowhere o w none is = subst (λ (x : Option ℕ). LeadsOut ss bs x w) (sym none) (subst (λ (x : Option Outward). LeadsOut ss bs None x) (sym is) outermost)

  pub through : (i p : ℕ) (t : Scope) (w : Option Outward) → slice_get ss i ≡ Some t → t.parent ≡ Some p → LeadsOut ss bs (Some p) w → (s : Scope) → slice_get ss i ≡ Some s → LeadsOut ss bs s.parent w
  through i p t w at inside leads = at-one i t w at (subst (λ (x : Option ℕ). LeadsOut ss bs x w) (sym inside) leads)

  no-entry : (b : List (ResourceId × Leaf)) → length b ≡ 0 → b ≡ []
  no-entry [] e = refl
  no-entry (x ∷ b) e = absurd (omega (arith, e))

  -- a scope that binds something
  pub to-binding : (p : ℕ) (b : List (ResourceId × Leaf)) → slice_get bs p ≡ Some b → (length b ≡ 0 → ⊥) → LeadsOut ss bs (Some p) (Some (record { position = p; out = 1 }))
  to-binding p b at some = binding p (λ s there none. absurd (some (ap (λ (x : List (ResourceId × Leaf)). length x) (some-same b [] (sym at ∙ none)))))

  module _ (ws : List (Option Outward)) (have : HaveWays ss bs ws) where
    -- an outermost scope
    pub to-outermost : (p : ℕ) → slice_get ws p ≡ Some None → LeadsOut ss bs (Some p) (Some (record { position = p; out = 1 }))
    to-outermost p at = binding p (λ s there none. ends s.parent None (have p s None there at) refl)

    -- past a scope that binds nothing
    pub to-beyond : (p : ℕ) (s : Scope) (b : List (ResourceId × Leaf)) (w : Outward) → slice_get ss p ≡ Some s → slice_get bs p ≡ Some b → length b ≡ 0 → slice_get ws p ≡ Some (Some w)
        → LeadsOut ss bs (Some p) (Some (record { position = w.position; out = w.out + 1 }))
    to-beyond p s b w there at none way = beyond p s w there (at ∙ ap (λ x. Some x) (no-entry b none)) (have p s (Some w) there way)

    pub ways-more : (i : ℕ) (w : Option Outward) → length ws ≡ i → ((s : Scope) → slice_get ss i ≡ Some s → LeadsOut ss bs s.parent w) → HaveWays ss bs (ws ++ w ∷ [])
    ways-more i w count leads = λ j t v there found. one j t v there (push-cases ws w j v found) where
      one : (j : ℕ) (t : Scope) (v : Option Outward) → slice_get ss j ≡ Some t → (slice_get ws j ≡ Some v) ⊎ ((j ≡ length ws) × (v ≡ w)) → LeadsOut ss bs t.parent v
      one j t v there (inl before) = have j t v there before
      one j t v there (inr (last, same)) =
          subst (λ (x : Option Outward). LeadsOut ss bs t.parent x) (sym same) (leads t (sym (ap (λ (n : ℕ). slice_get ss n) (last ∙ count)) ∙ there))

  module _ (around : (i : ℕ) (s : Scope) → slice_get ss i ≡ Some s → IsBelow i s.parent) where
    -- the scope around one comes before it
    pub earlier : (i p : ℕ) (t : Scope) → slice_get ss i ≡ Some t → t.parent ≡ Some p → p < i
    earlier i p t at inside = subst (λ (o : Option ℕ). IsBelow i o) inside (around i t at)

    pub near-out : (o : Option ℕ) (w : Option Outward) → LeadsOut ss bs o w → (v : Outward) → w ≡ Some v → IsNear o v
    unfolding behind
    near-out o w outermost v e = cc
    near-out o w (binding p b) v e = subst (λ (x : Outward). IsNear (Some p) x) (some-same _ v e) (record { far = omega arith; near = omega arith })
    near-out o w (beyond p s u at empty deep) v e =
        let rest = near-out s.parent (Some u) deep u refl in
        let below = behind-below p s.parent (around p s at) in
        subst (λ (x : Outward). IsNear (Some p) x) (some-same _ v e) (record { far = omega arith; near = omega (arith, rest.near, below) })

-- ---- what resources are called there

out-more : (n m : ℕ) (x : Called) → out_by n (out_by m x) ≡ out_by (n + m) x
out-more n m (bound_at l name) = let e : (l.out + m) + n ≡ l.out + (n + m) = omega arith in ap (λ k. bound_at (record { out = k; side = l.side; path = l.path }) name) e
out-more n m (of_class k path name) = refl
out-more n m (itself r name) = refl

pub out-again : (n m : ℕ) (o : Option Called) → option_map (out_by n) (option_map (out_by m) o) ≡ option_map (out_by (n + m)) o
out-again n m None = refl
out-again n m (Some x) = ap (λ y. Some y) (out-more n m x)

one-more : (m : ℕ) (x : Called) → one_out (out_by m x) ≡ out_by (m + 1) x
one-more m (bound_at l name) = let e : suc (l.out + m) ≡ l.out + (m + 1) = omega arith in ap (λ k. bound_at (record { out = k; side = l.side; path = l.path }) name) e
one-more m (of_class k path name) = refl
one-more m (itself r name) = refl

one-further : (m : ℕ) (o : Option Called) → option_case (option_map (out_by m) o) None (λ x. Some (one_out x)) ≡ option_map (out_by (m + 1)) o
one-further m None = refl
one-further m (Some x) = ap (λ y. Some y) (one-more m x)

one-called : (x : Called) → one_out x ≡ out_by 1 x
one-called (bound_at l name) = let e : suc l.out ≡ l.out + 1 = omega arith in ap (λ k. bound_at (record { out = k; side = l.side; path = l.path }) name) e
one-called (of_class k path name) = refl
one-called (itself r name) = refl

one-around : (o : Option Called) → option_case o None (λ x. Some (one_out x)) ≡ option_map (out_by 1) o
one-around None = refl
one-around (Some x) = ap (λ y. Some y) (one-called x)

module _ (c : Collection) (roots : List Opener) (ss : List Scope) (are : AreScopes c roots ss) (bs : List (List (ResourceId × Leaf))) (bound : AreBound c ss bs) (r : ResourceId) (root : Opener → Names Called) where
  -- what is around a scope, seen from it
  pub outer : Option ℕ → Option Called
  outer None = None
  outer (Some p) = option_case (called_in c root ss p r) None (λ x. Some (one_out x))

  -- a scope that does not bind the resource calls it what is around does
  passed : (i : ℕ) (s : Scope) (o : Option ℕ) → slice_get ss i ≡ Some s → s.parent ≡ o → 1 ≤ behind o → binds c s.opener r ≡ None → called_in c root ss i r ≡ outer o
  unfolding behind outer
  passed i s None at alone far none = absurd (omega (arith, far))
  passed i s (Some p) at inside far none = called-inside c roots ss are root i p s r at inside ∙ ap (λ h. or_around c h (called_in c root ss p) r) none

  leads : (o : Option ℕ) (w : Option Outward) → LeadsOut ss bs o w → (v : Outward) → w ≡ Some v → outer o ≡ option_map (out_by v.out) (called_in c root ss v.position r)
  unfolding outer
  leads o w outermost v e = cc
  leads o w (binding p b) v e =
      subst (λ (x : Outward). outer (Some p) ≡ option_map (out_by x.out) (called_in c root ss x.position r)) (some-same _ v e) (one-around (called_in c root ss p r))
  leads o w (beyond p s u at empty deep) v e =
      let near = near-out ss bs are.around s.parent (Some u) deep u refl in
      let here = passed p s s.parent at refl (omega (arith, near.far, near.near)) (sym (bound.found p s [] at empty r)) ∙ leads s.parent (Some u) deep u refl in
      subst (λ (x : Outward). outer (Some p) ≡ option_map (out_by x.out) (called_in c root ss x.position r)) (some-same _ v e)
      (ap (λ k. option_case k None (λ x. Some (one_out x))) here ∙ one-further u.out (called_in c root ss u.position r))

  -- a scope that does not bind the resource calls it what the next one on the way out does
  pub called-out : (i : ℕ) (s : Scope) (w : Outward) → slice_get ss i ≡ Some s → LeadsOut ss bs s.parent (Some w) → binds c s.opener r ≡ None
      → called_in c root ss i r ≡ option_map (out_by w.out) (called_in c root ss w.position r)
  called-out i s w at way none =
      let near = near-out ss bs are.around s.parent (Some w) way w refl in
      passed i s s.parent at refl (omega (arith, near.far, near.near)) none ∙ leads s.parent (Some w) way w refl
