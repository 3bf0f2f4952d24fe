-- Sums over numbers below a bound, and over the types and scopes of a list.
use Rattle.std.specs.Prelude.{ℕ, zero, suc, ◌≡◌, ◌≤◌, ◌<◌, ◌+◌, ◌*◌, ◌==◌, Bool, true, false, List, [], ◌∷◌, length, Some, None, slice_get, if◌then◌else◌}
use Rattle.std.specs.List.{sum_by}
use Rattle.std.proofs.Common.{refl, ap, ◌∙◌, sym, subst, arith, ⊎_elim, mul-add, add-le-add}
use Rattle.std.proofs.Math.ListN.{set}
use Rattle.std.proofs.lemmas.Bool.{eq-eqb, eqb-true, ne_eqb}
use Rattle.std.proofs.lemmas.List.Sums.{sum_by-cons, sum_by_push, sum_by-set, sum_by-le-sum_by}
use Rattle.std.proofs.lemmas.Option.{get_or_from_slice_get}
use Rattle.wac_types_shapes.specs.declared.shapes.component.«Type».{«Type» as AnyType}
use Rattle.wac_types_collection.specs.reach.Reach.{IsIn}
use Rattle.wac_encode_scopes.specs.declared.scope.Scope.{Scope}
use Rattle.wac_encode_scopes.specs.Books.{opened}
use Rattle.wac_encode_scopes.specs.States.{outward}
use Rattle.wac_encode_scopes.specs.private.Paid.{sum_below}
use Rattle.wac_encode_stacks.specs.Scopes.{Open}

-- numbers below a bound

pub below-le : (f g : ℕ → ℕ) (m : ℕ) → ((n : ℕ) → f n ≤ g n) → sum_below f m ≤ sum_below g m
below-le f g zero h = omega arith
below-le f g (suc m) h = omega (arith, h m, below-le f g m h)

pub below-plus : (f g : ℕ → ℕ) (m : ℕ) → sum_below (λ n. f n + g n) m ≡ sum_below f m + sum_below g m
below-plus f g zero = omega arith
below-plus f g (suc m) = omega (arith, below-plus f g m)

-- x at the number k, else 0
abbrev pub only : ℕ → ℕ → ℕ → ℕ
only k x n = if n == k then x else 0

only-past : (k x m : ℕ) → m ≤ k → sum_below (only k x) m ≡ 0
only-past k x zero h = omega arith
only-past k x (suc m) h =
    let apart : (m ≡ k) → ⊥ = λ e. absurd (omega (arith, e, h)) in
    let first : only k x m ≡ 0 = ap (λ (b : Bool). if b then x else 0) (ne_eqb m k apart) in
    let rest = only-past k x m (omega (arith, h)) in
    omega (arith, first, rest)

pub only-here : (k x m : ℕ) → k < m → sum_below (only k x) m ≡ x
only-here k x zero h = absurd (omega (arith, h))
only-here k x (suc m) h = by_case (m == k) refl (only-here k x m)
  where
    by_case : (b : Bool) → (m == k) ≡ b → (k < m → sum_below (only k x) m ≡ x) → sum_below (only k x) (suc m) ≡ x
    by_case true e ih =
        let same : m ≡ k = eqb-true m k e in
        let first : only k x m ≡ x = ap (λ (b : Bool). if b then x else 0) e in
        let rest = only-past k x m (omega (arith, same)) in
        omega (arith, first, rest)
    by_case false e ih =
        let first : only k x m ≡ 0 = ap (λ (b : Bool). if b then x else 0) e in
        let apart : (m ≡ k) → ⊥ = λ s. (let both : true ≡ false = sym (eq-eqb m k s) ∙ e in cc) in
        let rest = ih (omega (arith, h, apart)) in
        omega (arith, first, rest)

pub only-most : (k x m : ℕ) → sum_below (only k x) m ≤ x
only-most k x zero = omega arith
only-most k x (suc m) = by_case (m == k) refl (only-most k x m)
  where
    by_case : (b : Bool) → (m == k) ≡ b → sum_below (only k x) m ≤ x → sum_below (only k x) (suc m) ≤ x
    by_case true e ih =
        let same : m ≡ k = eqb-true m k e in
        let first : only k x m ≡ x = ap (λ (b : Bool). if b then x else 0) e in
        let rest = only-past k x m (omega (arith, same)) in
        omega (arith, first, rest)
    by_case false e ih = let first : only k x m ≡ 0 = ap (λ (b : Bool). if b then x else 0) e in omega (arith, first, ih)

-- types of a list

pub gain-all : (f g : AnyType → ℕ) (t : AnyType) (x : ℕ) (ts : List AnyType) → ((u : AnyType) → f u ≤ g u) → IsIn t ts → f t + x ≤ g t → sum_by f ts + x ≤ sum_by g ts
gain-all f g t x [] more is_in gain = absurd is_in
gain-all f g t x (u ∷ us) more is_in gain =
    let l = sum_by-cons f u us in
    let r = sum_by-cons g u us in
    ⊎_elim
    (λ (same : t ≡ u).
    let here : f u + x ≤ g u = subst (λ (v : AnyType). f v + x ≤ g v) same gain in
    let rest = sum_by-le-sum_by f g us more in
    omega (arith, l, r, here, rest))
    (λ (there : IsIn t us).
    let here = more u in
    let rest = gain-all f g t x us more there gain in
    omega (arith, l, r, here, rest))
    is_in

pub rated-all : (f w : AnyType → ℕ) (r : ℕ) (ts : List AnyType) → ((t : AnyType) → f t ≤ r * w t) → sum_by f ts ≤ r * sum_by w ts
rated-all f w r [] h = omega arith
rated-all f w r (u ∷ us) h =
    let split : r * sum_by w (u ∷ us) ≡ r * w u + r * sum_by w us = ap (λ (x : ℕ). r * x) (sum_by-cons w u us) ∙ mul-add r (w u) (sum_by w us) in
    subst (λ (x : ℕ). sum_by f (u ∷ us) ≤ x) (sym split) (subst (λ (x : ℕ). x ≤ r * w u + r * sum_by w us) (sym (sum_by-cons f u us)) (add-le-add (h u) (rated-all f w r us h)))

-- scopes of a list

pub outward-sum : (f : Open → ℕ) (b : Bool) (ss : List Scope) → sum_by f (outward b ss) ≡ sum_by (λ (s : Scope). f (opened b s)) ss
outward-sum f b [] = refl
outward-sum f b (s ∷ ss) =
    let l = sum_by_push f (outward b ss) (opened b s) in
    let r = sum_by-cons (λ (t : Scope). f (opened b t)) s ss in
    let rest = outward-sum f b ss in
    omega (arith, l, r, rest)

pub set-sum : (f : Scope → ℕ) (ss : List Scope) (i : ℕ) (x y : Scope) → i < length ss → slice_get ss i ≡ Some x → sum_by f (set ss i y) + f x ≡ sum_by f ss + f y
set-sum f ss i x y lt at = subst (λ (z : Scope). sum_by f (set ss i y) + f z ≡ sum_by f ss + f y) (get_or_from_slice_get ss i x x at) (sum_by-set f ss i y x lt)

pub member-le : (f : Scope → ℕ) (ss : List Scope) (i : ℕ) (x : Scope) → slice_get ss i ≡ Some x → f x ≤ sum_by f ss
member-le f [] i x at = let no_some : None ≡ Some x = at in cc
member-le f (s ∷ ss) zero x at =
    let same : s ≡ x = some-is s x at in
    let value : f s ≡ f x = ap f same in
    let l = sum_by-cons f s ss in
    omega (arith, value, l)
  where
    some-is : (y z : Scope) → Some y ≡ Some z → y ≡ z
    some-is y z e = cc
member-le f (s ∷ ss) (suc i) x at = let l = sum_by-cons f s ss in let rest = member-le f ss i x at in omega (arith, l, rest)
