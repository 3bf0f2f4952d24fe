-- Cutting a text at a byte and taking off a front, and putting it together again.
use Rattle.std.proofs.Common.{◌≡◌, ◌≢◌, ℕ, suc, ◌<◌, ◌==◌, ◌||◌, true, false, List, [], ◌∷◌, ◌++◌, length, get_or, refl, sym, ap, ◌∙◌, arith, inl, inr}
use Rattle.std.proofs.lemmas.Bool.{cases_Bool, eqb-true, ne_eqb, eq-eqb, or_parts, or_from, and_parts}
use Rattle.wac_names.specs.Text.{has, before, after, begins, behind, ends, front, is_empty}

-- a test of a byte against itself
pub same_byte : (c : ℕ) → (c == c) ≡ true
same_byte c = eq-eqb c c refl

-- a text is what stands before the byte, the byte, and what stands after it
pub cut-whole : (c : ℕ) (text : List ℕ) → has c text ≡ true → text ≡ before c text ++ c ∷ after c text
unfolding has before after
cut-whole c [] h = cc
cut-whole c (b ∷ rest) h = elim (cases_Bool (b == c)) [
  | inl same ↦ rw same (ap (λ (x : ℕ). x ∷ rest) (eqb-true b c same))
  | inr other ↦
      let more : has c rest ≡ true = rw other at h in
      rw other (ap (λ (l : List ℕ). b ∷ l) (cut-whole c rest more))
]

-- the byte doesn't stand before the first one
pub has-before : (c : ℕ) (text : List ℕ) → has c (before c text) ≡ false
unfolding has before
has-before c [] = refl
has-before c (b ∷ rest) = elim (cases_Bool (b == c)) [
  | inl same ↦ rw same refl
  | inr other ↦ rw (other, other) (has-before c rest)
]

-- without the byte, all stands before it
pub before-none : (c : ℕ) (text : List ℕ) → has c text ≡ false → before c text ≡ text
unfolding has before
before-none c [] h = refl
before-none c (b ∷ rest) h =
    let p = or_parts (b == c) (has c rest) h in
    rw p.0 (ap (λ (l : List ℕ). b ∷ l) (before-none c rest p.1))

-- without the byte, nothing stands after it
pub after-none : (c : ℕ) (text : List ℕ) → has c text ≡ false → after c text ≡ []
unfolding has after
after-none c [] h = refl
after-none c (b ∷ rest) h =
    let p = or_parts (b == c) (has c rest) h in
    rw p.0 (after-none c rest p.1)

-- a text with the byte in it
pub has-there : (c : ℕ) (a b : List ℕ) → has c (a ++ c ∷ b) ≡ true
unfolding has
has-there c [] b = rw (same_byte c) refl
has-there c (x ∷ a) b = elim (cases_Bool (x == c)) [
  | inl same ↦ rw same refl
  | inr other ↦ rw other (has-there c a b)
]

-- what stands before the first byte
pub before-there : (c : ℕ) (a b : List ℕ) → has c a ≡ false → before c (a ++ c ∷ b) ≡ a
unfolding has before
before-there c [] b h = rw (same_byte c) refl
before-there c (x ∷ a) b h =
    let p = or_parts (x == c) (has c a) h in
    rw p.0 (ap (λ (l : List ℕ). x ∷ l) (before-there c a b p.1))

-- what stands after the first byte
pub after-there : (c : ℕ) (a b : List ℕ) → has c a ≡ false → after c (a ++ c ∷ b) ≡ b
unfolding has after
after-there c [] b h = rw (same_byte c) refl
after-there c (x ∷ a) b h =
    let p = or_parts (x == c) (has c a) h in
    rw p.0 (after-there c a b p.1)

-- a byte in two texts, one after the other
pub has-append : (c : ℕ) (a b : List ℕ) → has c (a ++ b) ≡ (has c a || has c b)
unfolding has
has-append c [] b = refl
has-append c (x ∷ a) b = elim (cases_Bool (x == c)) [
  | inl same ↦ rw same refl
  | inr other ↦ rw other (has-append c a b)
]

-- a text begins with a front that stands there
pub begins-there : (front rest : List ℕ) → begins front (front ++ rest) ≡ true
unfolding begins
begins-there [] rest = refl
begins-there (p ∷ front) rest = rw (same_byte p) (begins-there front rest)

-- a text that begins with a front is the front and what stands behind it
pub begins-whole : (front text : List ℕ) → begins front text ≡ true → text ≡ front ++ behind front text
unfolding begins
begins-whole [] text h = refl
begins-whole (p ∷ front) [] h = cc
begins-whole (p ∷ front) (b ∷ rest) h =
    let e = and_parts (b == p) (begins front rest) h in
    ap (λ (x : ℕ). x ∷ rest) (eqb-true b p e.0) ∙ ap (λ (l : List ℕ). p ∷ l) (begins-whole front rest e.1)

-- a text doesn't begin with a front that has a byte where the text has another
pub begins-other : (front : List ℕ) (x : ℕ) (more a : List ℕ) (y : ℕ) (b : List ℕ)
    → has x a ≡ false → has y front ≡ false → x ≢ y → begins (front ++ x ∷ more) (a ++ y ∷ b) ≡ false
unfolding has begins
begins-other [] x more [] y b ha hf ne = rw (ne_eqb y x (λ e. ne (sym e))) refl
begins-other [] x more (z ∷ a) y b ha hf ne = let p = or_parts (z == x) (has x a) ha in rw p.0 refl
begins-other (f ∷ front) x more [] y b ha hf ne =
    let p = or_parts (f == y) (has y front) hf in
    rw (ne_eqb y f (λ e. absurd (cc (rw (eq-eqb f y (sym e)) at p.0)))) refl
begins-other (f ∷ front) x more (z ∷ a) y b ha hf ne =
    let p = or_parts (f == y) (has y front) hf in
    let q = or_parts (z == x) (has x a) ha in
    elim (cases_Bool (z == f)) [
      | inl same ↦ rw same (begins-other front x more a y b q.1 p.1 ne)
      | inr other ↦ rw other refl
    ]

-- a text that lacks a byte of the front doesn't begin with it
pub begins-lacks : (front : List ℕ) (x : ℕ) (more a : List ℕ) → has x a ≡ false → begins (front ++ x ∷ more) a ≡ false
unfolding has begins
begins-lacks [] x more [] h = refl
begins-lacks [] x more (z ∷ a) h = let p = or_parts (z == x) (has x a) h in rw p.0 refl
begins-lacks (f ∷ front) x more [] h = refl
begins-lacks (f ∷ front) x more (z ∷ a) h =
    let q = or_parts (z == x) (has x a) h in
    elim (cases_Bool (z == f)) [
      | inl same ↦ rw same (begins-lacks front x more a q.1)
      | inr other ↦ rw other refl
    ]

-- no place of a text has the byte
pub has-nowhere : (c : ℕ) (text : List ℕ) → ((i : ℕ) → i < length text → get_or text i 0 ≢ c) → has c text ≡ false
unfolding has
has-nowhere c [] h = refl
has-nowhere c (b ∷ rest) h =
    or_from (b == c) (has c rest) (ne_eqb b c (h 0 (omega arith))) (has-nowhere c rest (λ i lt. h (suc i) (omega arith)))

-- a text that ends with a byte is its front and the byte
pub ends-whole : (c : ℕ) (text : List ℕ) → ends c text ≡ true → text ≡ front text ++ c ∷ []
unfolding ends front
ends-whole c [] h = cc
ends-whole c (b ∷ []) h = ap (λ (x : ℕ). x ∷ []) (eqb-true b c h)
ends-whole c (b ∷ d ∷ rest) h = ap (λ (l : List ℕ). b ∷ l) (ends-whole c (d ∷ rest) h)

-- a text with the byte at its end
pub ends-there : (c : ℕ) (a : List ℕ) → ends c (a ++ c ∷ []) ≡ true
unfolding ends
ends-there c [] = same_byte c
ends-there c (b ∷ []) = same_byte c
ends-there c (b ∷ d ∷ rest) = ends-there c (d ∷ rest)

-- its front
pub front-there : (c : ℕ) (a : List ℕ) → front (a ++ c ∷ []) ≡ a
unfolding front
front-there c [] = refl
front-there c (b ∷ []) = refl
front-there c (b ∷ d ∷ rest) = ap (λ (l : List ℕ). b ∷ l) (front-there c (d ∷ rest))

-- a text that is empty
pub is_empty-nil : (text : List ℕ) → is_empty text ≡ true → text ≡ []
is_empty-nil [] h = refl
is_empty-nil (b ∷ rest) h = cc
