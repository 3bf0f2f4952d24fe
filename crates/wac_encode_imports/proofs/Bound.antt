-- The bindings of the root grow import by import.
use Rattle.std.proofs.Common.{ℕ, suc, ◌≡◌, ◌≢◌, ◌≤◌, Bool, true, false, if◌then◌else◌, List, [], ◌∷◌, Option, Some, None, refl, ap, sym, ◌∙◌, subst, arith}
use Rattle.std.specs.Prelude.{◌==◌, ltb}
use Rattle.std.proofs.Math.Path.{fun_ext}
use Rattle.std.proofs.lemmas.Bool.{eqb-false, eqb-true, le-ltb, lt-ltb, ltb-false, ltb-true}
use Rattle.wac_types_shapes.specs.primitives.Tree.{Place, position, named, Leaf}
use Rattle.wac_types_shapes.specs.declared.shapes.component.ResourceId.{ResourceId}
use Rattle.wac_types_collection.specs.collection.Bound.{Bindings}
use Rattle.wac_merge_classes.specs.terms.Merge.{Merged}
use Rattle.wac_encode_stacks.specs.Good.{Extends, nothing_bound}
use Rattle.wac_encode_imports.specs.private.Imports.{merged_bindings}
use Rattle.wac_encode_imports.specs.private.Written.{begins_at, begins_below, is_bound_at, is_bound_below, bound_before}

pub true-false : {A : Type 0} → (b : Bool) → b ≡ true → b ≡ false → A
true-false true p q = cc
true-false false p q = cc

pub bool-of : (b : Bool) → (b ≡ true → ⊥) → b ≡ false
bool-of true h = absurd (h refl)
bool-of false h = refl

pub no-some : {A B : Type 0} → (x : A) → None ≡ Some x → B
no-some x h = cc

pub one-some : {A : Type 0} → (x y : A) → Some x ≡ Some y → x ≡ y
one-some x y h = cc

-- positions

below-next : (j n : ℕ) → (j == n) ≡ false → ltb j (suc n) ≡ ltb j n
below-next j n h = by (ltb j n) refl
  where
    by : (b : Bool) → ltb j n ≡ b → ltb j (suc n) ≡ b
    by true is = let low = ltb-true j n is in lt-ltb j (suc n) (omega (arith, low))
    by false is =
        let past = ltb-false j n is in
        let other : j ≢ n = eqb-false j n h in
        le-ltb j (suc n) (omega (arith, past, other))

below-itself : (n : ℕ) → ltb n n ≡ false
below-itself n = le-ltb n n (omega arith)

below-more : (n : ℕ) → ltb n (suc n) ≡ true
below-more n = lt-ltb n (suc n) (omega arith)

below-none : (j : ℕ) → ltb j 0 ≡ false
below-none j = le-ltb j 0 (omega arith)

-- bindings by position

other-below : (n : ℕ) (o : Option Leaf) → is_bound_at n o ≡ false → is_bound_below (suc n) o ≡ is_bound_below n o
other-below n None h = refl
other-below n (Some l) h = by l.path h
  where
    by : (p : List Place) → begins_at n p ≡ false → begins_below (suc n) p ≡ begins_below n p
    by (position j ∷ path) h = below-next j n h
    by (named k ∷ path) h = refl
    by [] h = refl

here-below : (n : ℕ) (o : Option Leaf) → is_bound_at n o ≡ true → (is_bound_below (suc n) o ≡ true)
here-below n None h = true-false false h refl
here-below n (Some l) h = by l.path h
  where
    by : (p : List Place) → begins_at n p ≡ true → begins_below (suc n) p ≡ true
    by (position j ∷ path) h = subst (λ k. ltb k (suc n) ≡ true) (sym (eqb-true j n h)) (below-more n)
    by (named k ∷ path) h = true-false false h refl
    by [] h = true-false false h refl

here-not-yet : (n : ℕ) (o : Option Leaf) → is_bound_at n o ≡ true → (is_bound_below n o ≡ false)
here-not-yet n None h = refl
here-not-yet n (Some l) h = by l.path h
  where
    by : (p : List Place) → begins_at n p ≡ true → begins_below n p ≡ false
    by (position j ∷ path) h = subst (λ k. ltb k n ≡ false) (sym (eqb-true j n h)) (below-itself n)
    by (named k ∷ path) h = refl
    by [] h = refl

none-below : (o : Option Leaf) → is_bound_below 0 o ≡ false
none-below None = refl
none-below (Some l) = by l.path
  where
    by : (p : List Place) → begins_below 0 p ≡ false
    by (position j ∷ path) = below-none j
    by (named k ∷ path) = refl
    by [] = refl

stays-below : (n : ℕ) (o : Option Leaf) → is_bound_below n o ≡ true → is_bound_below (suc n) o ≡ true
stays-below n o h = by (is_bound_at n o) refl
  where
    by : (b : Bool) → is_bound_at n o ≡ b → is_bound_below (suc n) o ≡ true
    by true is = here-below n o is
    by false is = other-below n o is ∙ h

module _ (m : Merged) where
  -- The binding of a resource in the end.
  abbrev far : ResourceId → Option Leaf
  far r = merged_bindings m r

  -- At first nothing is bound.
  pub none-bound : bound_before m 0 ≡ nothing_bound
  none-bound = fun_ext (λ r. ap (λ b. if b then far r else None) (none-below (far r)))

  -- After one import more, what it binds is bound as well.
  pub bound-next : (n : ℕ) (now : Bindings) → ((r : ResourceId) → is_bound_at n (far r) ≡ true → now r ≡ far r) → ((r : ResourceId) → is_bound_at n (far r) ≡ false → now r ≡ bound_before m n r) → now ≡ bound_before m (suc n)
  bound-next n now here there = fun_ext (λ r. by r (is_bound_at n (far r)) refl)
    where
      by : (r : ResourceId) (b : Bool) → is_bound_at n (far r) ≡ b → now r ≡ bound_before m (suc n) r
      by r true is = here r is ∙ sym (ap (λ b. if b then far r else None) (here-below n (far r) is))
      by r false is = there r is ∙ sym (ap (λ b. if b then far r else None) (other-below n (far r) is))

  -- If it binds nothing, the bindings stay.
  pub bound-still : (n : ℕ) → ((r : ResourceId) → is_bound_at n (far r) ≡ false) → bound_before m n ≡ bound_before m (suc n)
  bound-still n none = bound-next n (bound_before m n) (λ r is. true-false (is_bound_at n (far r)) is (none r)) (λ r is. refl)

  -- What the next import binds is not bound yet.
  pub unbound-yet : (n : ℕ) (r : ResourceId) → is_bound_at n (far r) ≡ true → bound_before m n r ≡ None
  unbound-yet n r is = ap (λ b. if b then far r else None) (here-not-yet n (far r) is)

  -- What is bound by an earlier import is bound as in the end.
  pub bound-before : (n : ℕ) (r : ResourceId) → is_bound_below n (far r) ≡ true → bound_before m n r ≡ far r
  bound-before n r is = ap (λ b. if b then far r else None) is

  -- Bindings stay as they are.
  pub bound-more : (n : ℕ) → Extends (bound_before m n) (bound_before m (suc n))
  bound-more n r l h = by (is_bound_below n (far r)) refl h
    where
      by : (b : Bool) → is_bound_below n (far r) ≡ b → (if b then far r else None) ≡ Some l → bound_before m (suc n) r ≡ Some l
      by true is e = ap (λ b. if b then far r else None) (stays-below n (far r) is) ∙ e
      by false is e = no-some l e

  -- After as many imports as bind anything all is bound.
  pub all-bound : (n : ℕ) → ((r : ResourceId) (l : Leaf) → far r ≡ Some l → begins_below n l.path ≡ true) → bound_before m n ≡ merged_bindings m
  all-bound n low = fun_ext (λ r. by r (far r) refl)
    where
      by : (r : ResourceId) (o : Option Leaf) → far r ≡ o → (if is_bound_below n o then o else None) ≡ o
      by r None is = refl
      by r (Some l) is = ap (λ b. if b then Some l else None) (low r l is)

-- a binding that is at a position, or before it

-- A binding at one of the imports up to n that is not at n is before it.
pub earlier : (n j : ℕ) (path : List Place) → j ≤ n → begins_at n (position j ∷ path) ≡ false → begins_below n (position j ∷ path) ≡ true
earlier n j path low other =
    let apart : j ≢ n = eqb-false j n other in
    lt-ltb j n (omega (arith, low, apart))
