-- Sums over positions of a list.
use Rattle.std.specs.Prelude.{ℕ, zero, suc, ◌≡◌, ◌≤◌, ◌<◌, ◌+◌, ◌==◌, Bool, true, false, List, [], ◌∷◌, length, take, drop, Some, None, slice_get, if◌then◌else◌}
use Rattle.std.specs.List.{sum_by}
use Rattle.std.proofs.Common.{refl, ap, ◌∙◌, sym, arith}
use Rattle.std.proofs.lemmas.Bool.{eqb-true, ne_eqb}
use Rattle.std.proofs.lemmas.List.Sums.{sum_by-cons}
use Rattle.wac_types_shapes.specs.primitives.Name.{option_case}
use Rattle.wac_encode_scopes.specs.private.Paid.{sum_below}
use Rattle.wac_encode_scopes.proofs.Sums.{below-le, below-plus, only, only-here}

-- the first number apart

first-sum : (a b x y z : ℕ) → a ≡ x + y → y ≡ b + z → a ≡ b + (x + z)
first-sum a b x y z g h = omega (arith, g, h)

pub below-first : (h : ℕ → ℕ) (n : ℕ) → sum_below h (suc n) ≡ h 0 + sum_below (λ q. h (suc q)) n
below-first h zero = refl
below-first h (suc n) = first-sum (sum_below h (suc (suc n))) (h 0) (h (suc n)) (sum_below h (suc n)) (sum_below (λ q. h (suc q)) n) refl (below-first h n)

-- what each element of a list counts

pub below-list : {A : Type 0} (f : A → ℕ) (es : List A) → sum_below (λ q. option_case (slice_get es q) 0 f) (length es) ≡ sum_by f es
below-list f [] = refl
below-list f (e ∷ es) =
    below-first (λ q. option_case (slice_get (e ∷ es) q) 0 f) (length es) ∙ ap (λ (z : ℕ). f e + z) (below-list f es) ∙ sym (sum_by-cons f e es)

-- the elements from a position on count otherwise
module _ {A : Type 0} (f : A → Bool → ℕ) where
  abbrev pub at-each : List A → (ℕ → Bool) → ℕ → ℕ
  at-each es g q = option_case (slice_get es q) 0 (λ e. f e (g q))

  part-sum : (s h r x t d : ℕ) → s ≡ h + r → r ≡ t + d → x ≡ h + t → s ≡ x + d
  part-sum s h r x t d e i j = omega (arith, e, i, j)

  pub below-parted : (g : ℕ → Bool) (own : ℕ) (es : List A) → ((q : ℕ) → q < own → g q ≡ false) → ((q : ℕ) → own ≤ q → g q ≡ true)
      → sum_below (at-each es g) (length es) ≡ sum_by (λ e. f e false) (take own es) + sum_by (λ e. f e true) (drop own es)
  below-parted g zero [] first rest = refl
  below-parted g (suc own) [] first rest = refl
  below-parted g zero (e ∷ es) first rest =
      let all : sum_below (λ q. at-each (e ∷ es) g (suc q)) (length es) ≡ sum_by (λ x. f x false) (take 0 es) + sum_by (λ x. f x true) (drop 0 es) = below-parted (λ q. g (suc q)) zero es (λ q lt. absurd (omega (arith, lt))) (λ q le. rest (suc q) (omega (arith, le))) in
      let here : f e (g 0) ≡ f e true = ap (f e) (rest 0 (omega arith)) in
      let sum = sum_by-cons (λ x. f x true) e es in
      last (sum_below (at-each (e ∷ es) g) (suc (length es))) (f e (g 0)) (sum_below (λ q. at-each (e ∷ es) g (suc q)) (length es)) (f e true) (sum_by (λ x. f x true) es) (sum_by (λ x. f x true) (e ∷ es)) (below-first (at-each (e ∷ es) g) (length es)) here all sum
    where
      last : (s h r k d x : ℕ) → s ≡ h + r → h ≡ k → r ≡ 0 + d → x ≡ k + d → s ≡ 0 + x
      last s h r k d x e i j l = omega (arith, e, i, j, l)
  below-parted g (suc own) (e ∷ es) first rest =
      let all : sum_below (λ q. at-each (e ∷ es) g (suc q)) (length es) ≡ sum_by (λ x. f x false) (take own es) + sum_by (λ x. f x true) (drop own es) = below-parted (λ q. g (suc q)) own es (λ q lt. first (suc q) (omega (arith, lt))) (λ q le. rest (suc q) (omega (arith, le))) in
      let here : f e (g 0) ≡ f e false = ap (f e) (first 0 (omega arith)) in
      let sum : sum_by (λ x. f x false) (e ∷ take own es) ≡ f e (g 0) + sum_by (λ x. f x false) (take own es) = sum_by-cons (λ x. f x false) e (take own es) ∙ ap (λ (z : ℕ). z + sum_by (λ x. f x false) (take own es)) (sym here) in
      part-sum (sum_below (at-each (e ∷ es) g) (suc (length es))) (f e (g 0)) (sum_below (λ q. at-each (e ∷ es) g (suc q)) (length es)) (sum_by (λ x. f x false) (e ∷ take own es)) (sum_by (λ x. f x false) (take own es)) (sum_by (λ x. f x true) (drop own es)) (below-first (at-each (e ∷ es) g) (length es)) all sum

-- numbers that occur once

abbrev without : ℕ → (ℕ → ℕ) → ℕ → ℕ
without p f n = if n == p then 0 else f n

without-plus : (p : ℕ) (f : ℕ → ℕ) (n : ℕ) → without p f n + only p (f p) n ≤ f n
without-plus p f n = by_case (n == p) refl
  where
    by_case : (b : Bool) → (n == p) ≡ b → without p f n + only p (f p) n ≤ f n
    by_case true e =
        let zero_there : without p f n ≡ 0 = ap (λ (b : Bool). if b then 0 else f n) e in
        let there : only p (f p) n ≡ f p = ap (λ (b : Bool). if b then f p else 0) e in
        let same : f n ≡ f p = ap f (eqb-true n p e) in
        omega (arith, zero_there, there, same)
    by_case false e =
        let there : without p f n ≡ f n = ap (λ (b : Bool). if b then 0 else f n) e in
        let zero_there : only p (f p) n ≡ 0 = ap (λ (b : Bool). if b then f p else 0) e in
        omega (arith, there, zero_there)

without-other : (p : ℕ) (f : ℕ → ℕ) (n : ℕ) → (n ≡ p → ⊥) → without p f n ≡ f n
without-other p f n apart = ap (λ (b : Bool). if b then 0 else f n) (ne_eqb n p apart)

same-each : (f g : ℕ → ℕ) (ps : List ℕ) → ((i p : ℕ) → slice_get ps i ≡ Some p → f p ≡ g p) → sum_by f ps ≡ sum_by g ps
same-each f g [] h = refl
same-each f g (p ∷ ps) h = sum_by-cons f p ps ∙ ap (λ (z : ℕ). z + sum_by f ps) (h 0 p refl) ∙ ap (λ (z : ℕ). g p + z) (same-each f g ps (λ i q at. h (suc i) q at)) ∙ sym (sum_by-cons g p ps)

-- Numbers below a bound that occur once count no more than all below the bound.
pub once-below : (f : ℕ → ℕ) (n : ℕ) (ps : List ℕ) → ((i p : ℕ) → slice_get ps i ≡ Some p → p < n) → ((i j p : ℕ) → slice_get ps i ≡ Some p → slice_get ps j ≡ Some p → i ≡ j) → sum_by f ps ≤ sum_below f n
once-below f n [] low once = least (sum_below f n)
  where
    least : (m : ℕ) → 0 ≤ m
    least m = omega arith
once-below f n (p ∷ ps) low once =
    let apart : (i q : ℕ) → slice_get ps i ≡ Some q → q ≡ p → ⊥ = λ i q at same. (let pair = once (suc i) 0 q at (ap (λ (x : ℕ). Some x) (sym same)) in absurd (omega (arith, pair))) in
    let rest : sum_by f ps ≡ sum_by (without p f) ps = same-each f (without p f) ps (λ i q at. sym (without-other p f q (apart i q at))) in
    let less = once-below (without p f) n ps (λ i q at. low (suc i) q at) (λ i j q g h. (let pair = once (suc i) (suc j) q g h in omega (arith, pair))) in
    let both = below-plus (without p f) (only p (f p)) n in
    let all = below-le (λ q. without p f q + only p (f p) q) f n (without-plus p f) in
    let one = only-here p (f p) n (low 0 p refl) in
    once-sum (f p) (sum_by f (p ∷ ps)) (sum_by f ps) (sum_by (without p f) ps) (sum_below (without p f) n) (sum_below (only p (f p)) n) (sum_below (λ q. without p f q + only p (f p) q) n) (sum_below f n) (sum_by-cons f p ps) rest less both all one
  where
    once-sum : (x s t r w o b m : ℕ) → s ≡ x + t → t ≡ r → r ≤ w → b ≡ w + o → b ≤ m → o ≡ x → s ≤ m
    once-sum x s t r w o b m f g h i j k = omega (arith, f, g, h, i, j, k)

-- the next element

pub take-next : {A : Type 0} (f : A → ℕ) (xs : List A) (n : ℕ) (x : A) → slice_get xs n ≡ Some x → sum_by f (take (suc n) xs) ≡ sum_by f (take n xs) + f x
take-next f [] n x at = let no : None ≡ Some x = at in cc
take-next {A = A} f (y ∷ ys) zero x at =
    let same : f y ≡ f x = some-is y x at in
    let sum = sum_by-cons f y [] in
    one (sum_by f (y ∷ [])) (f y) (f x) sum same
  where
    some-is : (u v : A) → Some u ≡ Some v → f u ≡ f v
    some-is u v e = cc

    one : (s y x : ℕ) → s ≡ y + 0 → y ≡ x → s ≡ 0 + x
    one s y x e h = omega (arith, e, h)
take-next f (y ∷ ys) (suc n) x at =
    let long = sum_by-cons f y (take (suc n) ys) in
    let short = sum_by-cons f y (take n ys) in
    next (sum_by f (y ∷ take (suc n) ys)) (sum_by f (y ∷ take n ys)) (f y) (sum_by f (take (suc n) ys)) (sum_by f (take n ys)) (f x) long short (take-next f ys n x at)
  where
    next : (l s y p q x : ℕ) → l ≡ y + p → s ≡ y + q → p ≡ q + x → l ≡ s + x
    next l s y p q x e g h = omega (arith, e, g, h)

-- The first elements and the next one count no more than all.
pub take-room : {A : Type 0} (f : A → ℕ) (xs : List A) (n : ℕ) (x : A) → slice_get xs n ≡ Some x → sum_by f (take n xs) + f x ≤ sum_by f xs
take-room f [] n x at = let no : None ≡ Some x = at in cc
take-room {A = A} f (y ∷ ys) zero x at =
    let same : f y ≡ f x = some-is y x at in
    first (f y) (f x) (sum_by f ys) (sum_by f (y ∷ ys)) same (sum_by-cons f y ys)
  where
    first : (y x t s : ℕ) → y ≡ x → s ≡ y + t → 0 + x ≤ s
    first y x t s g h = omega (arith, g, h)

    some-is : (u v : A) → Some u ≡ Some v → f u ≡ f v
    some-is u v e = cc
take-room f (y ∷ ys) (suc n) x at =
    let all = sum_by-cons f y ys in
    let short = sum_by-cons f y (take n ys) in
    room (sum_by f (y ∷ ys)) (sum_by f (y ∷ take n ys)) (f y) (sum_by f ys) (sum_by f (take n ys)) (f x) all short (take-room f ys n x at)
  where
    room : (l s y p q x : ℕ) → l ≡ y + p → s ≡ y + q → q + x ≤ p → s + x ≤ l
    room l s y p q x e g h = omega (arith, e, g, h)
