-- What a join of two definitions leaves.
use Rattle.std.proofs.Common.{◌≡◌, ℕ, zero, suc, ◌<◌, ◌≤◌, Bool, true, false, cond, ◌||◌, nat_eq, nat_lt, is_some, Option, Some, None, refl, sym, ap, ◌∙◌, subst, ◌⊎◌, inl, inr, arith}
use Rattle.std.proofs.lemmas.Bool.{cases_Bool, eq-eqb, ltb-true, ltb-false, lt-ltb, le-ltb}
use Rattle.wac_types_shapes.specs.primitives.Name.{option_case}
use Rattle.wac_types_shapes.specs.declared.shapes.component.DefinedTypeId.{DefinedTypeId}
use Rattle.wac_merge_resources.specs.values.NamedTypes.{back, lower}
use Rattle.wac_merge_resources.proofs.lemmas.values.Tables.{same_id}

abbrev Links : Type 0
Links = DefinedTypeId → Option DefinedTypeId

-- the first definition behind this
abbrev pub first : Links → DefinedTypeId → DefinedTypeId
first f d = back f d.0 d

-- none stands before it
abbrev pub IsFirst : Links → DefinedTypeId → Type 0
IsFirst f d = (e : DefinedTypeId) → f d ≡ Some e → d.0 ≤ e.0

id_eq : (a b : DefinedTypeId) → a.0 ≡ b.0 → a ≡ b
id_eq a b e = same_id a b (eq-eqb a.0 b.0 e)

same_some : (a b : DefinedTypeId) → Some a ≡ Some b → a ≡ b
same_some a b e = cc e

-- ---- going back

module _ (f : Links) where
  -- one step back
  abbrev step : ℕ → DefinedTypeId → Option DefinedTypeId → DefinedTypeId
  step n d o = option_case o d (λ e. cond (nat_lt e.0 d.0) (back f n e) d)

  step-stops : (n : ℕ) (d : DefinedTypeId) (o : Option DefinedTypeId) → ((e : DefinedTypeId) → o ≡ Some e → d.0 ≤ e.0) → step n d o ≡ d
  step-stops n d None h = refl
  step-stops n d (Some e) h = ap (λ b. cond b (back f n e) d) (le-ltb e.0 d.0 (h e refl))

  pub stops : (n : ℕ) (d : DefinedTypeId) → IsFirst f d → back f n d ≡ d
  stops zero d h = refl
  stops (suc n) d h = step-stops n d (f d) h

  pub goes : (n : ℕ) (d e : DefinedTypeId) → f d ≡ Some e → e.0 < d.0 → back f (suc n) d ≡ back f n e
  goes n d e at low = ap (step n d) at ∙ ap (λ b. cond b (back f n e) d) (lt-ltb e.0 d.0 low)

  -- it is the first, or one step back leads to a lower one
  data Way (d : DefinedTypeId) : Type 0 where
    stands : IsFirst f d → Way d
    leads : (e : DefinedTypeId) → f d ≡ Some e → e.0 < d.0 → Way d

  way : (d : DefinedTypeId) → Way d
  way d = by (f d) refl where
    at : (e : DefinedTypeId) → f d ≡ Some e → (b : Bool) → nat_lt e.0 d.0 ≡ b → Way d
    at e is true low = leads e is (ltb-true e.0 d.0 low)
    at e is false high = stands (λ k k-is. subst (λ (x : DefinedTypeId). d.0 ≤ x.0) (same_some e k (sym is ∙ k-is)) (ltb-false e.0 d.0 high))

    by : (o : Option DefinedTypeId) → f d ≡ o → Way d
    by None is = stands (λ k k-is. cc (is, k-is))
    by (Some e) is = at e is (nat_lt e.0 d.0) refl

  low-first : (d : DefinedTypeId) → d.0 ≤ 0 → IsFirst f d
  low-first d a e is = omega (arith, a)

  enough_step : (n m : ℕ) (d : DefinedTypeId) → d.0 ≤ suc n → d.0 ≤ suc m → Way d → ((e : DefinedTypeId) → e.0 ≤ n → e.0 ≤ m → back f n e ≡ back f m e) → back f (suc n) d ≡ back f (suc m) d
  enough_step n m d a b (stands h) rec = stops (suc n) d h ∙ sym (stops (suc m) d h)
  enough_step n m d a b (leads e at low) rec = goes n d e at low ∙ rec e (omega (arith, a, low)) (omega (arith, b, low)) ∙ sym (goes m d e at low)

  -- more steps change nothing
  pub enough : (n m : ℕ) (d : DefinedTypeId) → d.0 ≤ n → d.0 ≤ m → back f n d ≡ back f m d
  enough zero m d a b = stops zero d (low-first d a) ∙ sym (stops m d (low-first d a))
  enough (suc n) zero d a b = stops (suc n) d (low-first d b) ∙ sym (stops zero d (low-first d b))
  enough (suc n) (suc m) d a b = enough_step n m d a b (way d) (λ e p q. enough n m e p q)

  -- one step back
  pub first-goes : (d e : DefinedTypeId) → f d ≡ Some e → e.0 < d.0 → first f d ≡ first f e
  first-goes d e at low = by d.0 refl where
    by : (n : ℕ) → d.0 ≡ n → back f n d ≡ first f e
    by zero is = absurd (omega (arith, is, low))
    by (suc n) is = goes n d e at low ∙ enough n e.0 e (omega (arith, is, low)) (omega arith)

  pub first-stops : (d : DefinedTypeId) → IsFirst f d → first f d ≡ d
  first-stops d h = stops d.0 d h

  reach_first : (d : DefinedTypeId) → IsFirst f d → IsFirst f (first f d) × ((first f d).0 ≤ d.0)
  reach_first d h = (subst (IsFirst f) (sym (first-stops d h)) h, subst (λ (x : DefinedTypeId). x.0 ≤ d.0) (sym (first-stops d h)) (omega arith))

  reach_step : (n : ℕ) (d : DefinedTypeId) → d.0 ≤ suc n → Way d → ((e : DefinedTypeId) → e.0 ≤ n → IsFirst f (first f e) × ((first f e).0 ≤ e.0)) → IsFirst f (first f d) × ((first f d).0 ≤ d.0)
  reach_step n d a (stands h) rec = reach_first d h
  reach_step n d a (leads e at low) rec =
      let (p, q) = rec e (omega (arith, a, low)) in
      let same = sym (first-goes d e at low) in
      (subst (IsFirst f) same p, subst (λ (x : DefinedTypeId). x.0 ≤ d.0) same (omega (arith, q, low)))

  -- where it leads is the first
  reach : (n : ℕ) (d : DefinedTypeId) → d.0 ≤ n → IsFirst f (first f d) × ((first f d).0 ≤ d.0)
  reach zero d a = reach_first d (low-first d a)
  reach (suc n) d a = reach_step n d a (way d) (λ e p. reach n e p)

  pub is-first : (d : DefinedTypeId) → IsFirst f (first f d)
  is-first d = (reach d.0 d (omega arith)).0

  pub is-low : (d : DefinedTypeId) → (first f d).0 ≤ d.0
  is-low d = (reach d.0 d (omega arith)).1

  pub first-again : (d : DefinedTypeId) → first f (first f d) ≡ first f d
  first-again d = first-stops (first f d) (is-first d)

-- what does not lead to a lower one is the first
pub one-there : (f : Links) (d e : DefinedTypeId) → f d ≡ Some e → d.0 ≤ e.0 → IsFirst f d
one-there f d e at high k is = subst (λ (x : DefinedTypeId). d.0 ≤ x.0) (same_some e k (sym at ∙ is)) high

-- ---- one definition is put before another

module _ (f g : Links) (p z : DefinedTypeId) (put : (d : DefinedTypeId) → g d ≡ cond (nat_eq p.0 d.0) (Some z) (f d)) (low : z.0 ≤ p.0) (z-first : first f z ≡ z) where
  z-stands : IsFirst f z
  z-stands = subst (IsFirst f) z-first (is-first f z)

  g-there : g p ≡ Some z
  g-there = put p ∙ ap (λ b. cond b (Some z) (f p)) (eq-eqb p.0 p.0 refl)

  g-else : (d : DefinedTypeId) → nat_eq p.0 d.0 ≡ false → g d ≡ f d
  g-else d e = put d ∙ ap (λ b. cond b (Some z) (f d)) e

  g-stands : IsFirst g z
  g-stands e is = elim (cases_Bool (nat_eq p.0 z.0)) [
    | inl same ↦ subst (λ (x : DefinedTypeId). z.0 ≤ x.0) (same_some z e (sym g-there ∙ ap g (same_id p z same) ∙ is)) (omega arith)
    | inr other ↦ z-stands e (sym (g-else z other) ∙ is)
  ]

  g-z : first g z ≡ z
  g-z = first-stops g z g-stands

  g-p : first g p ≡ z
  g-p = elim (cases_Bool (nat_lt z.0 p.0)) [
    | inl less ↦ first-goes g p z g-there (ltb-true z.0 p.0 less) ∙ g-z
    | inr more ↦ ap (first g) (id_eq p z (omega (arith, low, ltb-false z.0 p.0 more))) ∙ g-z
  ]

  module _ (r : (first f p ≡ p) ⊎ (first f p ≡ z)) where
    -- what is else the first stays
    kept : (d : DefinedTypeId) → nat_eq p.0 d.0 ≡ false → d ≡ cond (nat_eq d.0 (first f p).0) z d
    kept d other = elim (cases_Bool (nat_eq d.0 (first f p).0)) [
      | inl same ↦ elim r [
        | inl own ↦ cc (other, eq-eqb p.0 d.0 (ap (λ x. x.0) (sym (same_id d (first f p) same ∙ own))))
        | inr end ↦ same_id d (first f p) same ∙ end ∙ sym (ap (λ b. cond b z d) same)
      ]
      | inr apart ↦ sym (ap (λ b. cond b z d) apart)
    ]

    abbrev Moves : DefinedTypeId → Type 0
    Moves d = first g d ≡ cond (nat_eq (first f d).0 (first f p).0) z (first f d)

    moves-p : (d : DefinedTypeId) → nat_eq p.0 d.0 ≡ true → Moves d
    moves-p d same =
        ap (first g) (sym (same_id p d same)) ∙ g-p
        ∙ sym (ap (λ b. cond b z (first f d)) (eq-eqb (first f d).0 (first f p).0 (ap (λ x. (first f x).0) (sym (same_id p d same)))))

    moves-first : (d : DefinedTypeId) → nat_eq p.0 d.0 ≡ false → IsFirst f d → Moves d
    moves-first d other h =
        first-stops g d (λ e is. h e (sym (g-else d other) ∙ is)) ∙ kept d other
        ∙ ap (λ x. cond (nat_eq x.0 (first f p).0) z x) (sym (first-stops f d h))

    moves-step : (n : ℕ) (d : DefinedTypeId) → d.0 ≤ suc n → nat_eq p.0 d.0 ≡ false → Way f d → ((e : DefinedTypeId) → e.0 ≤ n → Moves e) → Moves d
    moves-step n d a other (stands h) rec = moves-first d other h
    moves-step n d a other (leads e at less) rec =
        first-goes g d e (g-else d other ∙ at) less ∙ rec e (omega (arith, a, less))
        ∙ ap (λ x. cond (nat_eq x.0 (first f p).0) z x) (sym (first-goes f d e at less))

    by_steps : (n : ℕ) (d : DefinedTypeId) → d.0 ≤ n → Moves d
    by_steps zero d a = elim (cases_Bool (nat_eq p.0 d.0)) [
      | inl same ↦ moves-p d same
      | inr other ↦ moves-first d other (low-first f d a)
    ]
    by_steps (suc n) d a = elim (cases_Bool (nat_eq p.0 d.0)) [
      | inl same ↦ moves-p d same
      | inr other ↦ moves-step n d a other (way f d) (λ e q. by_steps n e q)
    ]

    pub put-first : (d : DefinedTypeId) → first g d ≡ cond (nat_eq (first f d).0 (first f p).0) z (first f d)
    put-first d = by_steps d.0 d (omega arith)

-- ---- two definitions are joined

cond-same : (b : Bool) (z w : DefinedTypeId) → w ≡ z → cond b z w ≡ z
cond-same true z w e = refl
cond-same false z w e = e

cond-own : (w z : DefinedTypeId) → cond (nat_eq w.0 z.0) z w ≡ w
cond-own w z = elim (cases_Bool (nat_eq w.0 z.0)) [
  | inl same ↦ ap (λ b. cond b z w) same ∙ sym (same_id w z same)
  | inr apart ↦ ap (λ b. cond b z w) apart
]

lower-low : (x y : DefinedTypeId) → ((lower x y).0 ≤ x.0) × ((lower x y).0 ≤ y.0)
lower-low x y = elim (cases_Bool (nat_lt y.0 x.0)) [
  | inl less ↦
      let is : lower x y ≡ y = ap (λ b. cond b y x) less in
      let low = ltb-true y.0 x.0 less in
      (rw is (omega (arith, low)), rw is (omega arith))
  | inr more ↦
      let is : lower x y ≡ x = ap (λ b. cond b y x) more in
      let low = ltb-false y.0 x.0 more in
      (rw is (omega arith), rw is low)
]

pub lower-one : (x y : DefinedTypeId) → (lower x y ≡ x) ⊎ (lower x y ≡ y)
lower-one x y = elim (cases_Bool (nat_lt y.0 x.0)) [
  | inl less ↦ inr (ap (λ b. cond b y x) less)
  | inr more ↦ inl (ap (λ b. cond b y x) more)
]

-- what is put under a definition
abbrev pub Puts : Links → DefinedTypeId → DefinedTypeId → Links → Type 0
Puts f p z g = (d : DefinedTypeId) → g d ≡ cond (nat_eq p.0 d.0) (Some z) (f d)

module _ (f0 f1 f2 f3 f4 : Links) (a b : DefinedTypeId) (put1 : Puts f0 (first f0 a) (lower (first f0 a) (first f0 b)) f1) (put2 : Puts f1 (first f0 b) (lower (first f0 a) (first f0 b)) f2) (put3 : Puts f2 a (lower (first f0 a) (first f0 b)) f3) (put4 : Puts f3 b (lower (first f0 a) (first f0 b)) f4) where
  abbrev pub x : DefinedTypeId
  x = first f0 a

  abbrev pub y : DefinedTypeId
  y = first f0 b

  abbrev pub z : DefinedTypeId
  z = lower (first f0 a) (first f0 b)

  z0 : first f0 z ≡ z
  z0 = elim (lower-one x y) [
    | inl e ↦ ap (first f0) e ∙ first-again f0 a ∙ sym e
    | inr e ↦ ap (first f0) e ∙ first-again f0 b ∙ sym e
  ]

  one : (d : DefinedTypeId) → first f1 d ≡ cond (nat_eq (first f0 d).0 x.0) z (first f0 d)
  one d =
      put-first f0 f1 x z put1 (lower-low x y).0 z0 (inl (first-again f0 a)) d
      ∙ ap (λ w. cond (nat_eq (first f0 d).0 w.0) z (first f0 d)) (first-again f0 a)

  z1 : first f1 z ≡ z
  z1 = one z ∙ cond-same _ z (first f0 z) z0

  y1 : first f1 y ≡ cond (nat_eq y.0 x.0) z y
  y1 = one y ∙ ap (λ w. cond (nat_eq w.0 x.0) z w) (first-again f0 b)

  r2 : (first f1 y ≡ y) ⊎ (first f1 y ≡ z)
  r2 = elim (cases_Bool (nat_eq y.0 x.0)) [
    | inl same ↦ inr (y1 ∙ ap (λ c. cond c z y) same)
    | inr other ↦ inl (y1 ∙ ap (λ c. cond c z y) other)
  ]

  two : (d : DefinedTypeId) → first f2 d ≡ cond (nat_eq (first f1 d).0 (first f1 y).0) z (first f1 d)
  two d = put-first f1 f2 y z put2 (lower-low x y).1 z1 r2 d

  z2 : first f2 z ≡ z
  z2 = two z ∙ cond-same _ z (first f1 z) z1

  a1 : first f1 a ≡ z
  a1 = one a ∙ ap (λ c. cond c z x) (eq-eqb x.0 x.0 refl)

  a2 : first f2 a ≡ z
  a2 = two a ∙ cond-same _ z (first f1 a) a1

  b2 : first f2 b ≡ z
  b2 = two b ∙ ap (λ c. cond c z (first f1 b)) (eq-eqb (first f1 b).0 (first f1 y).0 (ap (λ w. w.0) (one b ∙ sym y1)))

  three : (d : DefinedTypeId) → first f3 d ≡ first f2 d
  three d =
      put-first f2 f3 a z put3 (omega (arith, (lower-low x y).0, is-low f0 a)) z2 (inr a2) d
      ∙ ap (λ w. cond (nat_eq (first f2 d).0 w.0) z (first f2 d)) a2 ∙ cond-own (first f2 d) z

  four : (d : DefinedTypeId) → first f4 d ≡ first f3 d
  four d =
      put-first f3 f4 b z put4 (omega (arith, (lower-low x y).1, is-low f0 b)) (three z ∙ z2) (inr (three b ∙ b2)) d
      ∙ ap (λ w. cond (nat_eq (first f3 d).0 w.0) z (first f3 d)) (three b ∙ b2) ∙ cond-own (first f3 d) z

  pub joined : (d : DefinedTypeId) → first f4 d ≡ cond (nat_eq (first f0 d).0 x.0 || nat_eq (first f0 d).0 y.0) z (first f0 d)
  joined d = four d ∙ three d ∙ two d ∙ last where
    u : DefinedTypeId
    u = first f0 d

    apart : nat_eq u.0 x.0 ≡ false → nat_eq u.0 (first f1 y).0 ≡ nat_eq u.0 y.0
    apart differ = elim (cases_Bool (nat_eq y.0 x.0)) [
      | inl same ↦
          let yx = same_id y x same in
          let zx : z ≡ x = elim (lower-one x y) [
            | inl e ↦ e
            | inr e ↦ e ∙ yx
          ] in
          ap (λ w. nat_eq u.0 w.0) (y1 ∙ ap (λ c. cond c z y) same ∙ zx ∙ sym yx)
      | inr other ↦ ap (λ w. nat_eq u.0 w.0) (y1 ∙ ap (λ c. cond c z y) other)
    ]

    last : cond (nat_eq (first f1 d).0 (first f1 y).0) z (first f1 d) ≡ cond (nat_eq u.0 x.0 || nat_eq u.0 y.0) z u
    last = elim (cases_Bool (nat_eq u.0 x.0)) [
      | inl same ↦
          cond-same _ z (first f1 d) (one d ∙ ap (λ c. cond c z u) same)
          ∙ sym (ap (λ c. cond (c || nat_eq u.0 y.0) z u) same)
      | inr other ↦
          ap (λ w. cond (nat_eq w.0 (first f1 y).0) z w) (one d ∙ ap (λ c. cond c z u) other)
          ∙ ap (λ c. cond c z u) (apart other)
          ∙ sym (ap (λ c. cond (c || nat_eq u.0 y.0) z u) other)
    ]

-- ---- names

-- what is one named type, by what stands before definitions
abbrev pub name_in : Links → DefinedTypeId → Option DefinedTypeId
name_in f d = cond (is_some (f d)) (Some (first f d)) None

abbrev pub Same : Links → DefinedTypeId → DefinedTypeId → Type 0
Same f a b = (r : DefinedTypeId) × (name_in f a ≡ Some r) × (name_in f b ≡ Some r)

named-there : (f : Links) (d r : DefinedTypeId) → is_some (f d) ≡ true → first f d ≡ r → name_in f d ≡ Some r
named-there f d r s e = ap (λ b. cond b (Some (first f d)) None) s ∙ ap Some e

pub there-named : (f : Links) (d r : DefinedTypeId) → name_in f d ≡ Some r → (is_some (f d) ≡ true) × (first f d ≡ r)
there-named f d r e = by (is_some (f d)) e where
  by : (b : Bool) → cond b (Some (first f d)) None ≡ Some r → (b ≡ true) × (first f d ≡ r)
  by true e = (refl, same_some (first f d) r e)
  by false e = cc e

puts-some : (f g : Links) (p z : DefinedTypeId) → Puts f p z g → (d : DefinedTypeId) → is_some (f d) ≡ true → is_some (g d) ≡ true
puts-some f g p z put d s = elim (cases_Bool (nat_eq p.0 d.0)) [
  | inl e ↦ ap is_some (put d ∙ ap (λ b. cond b (Some z) (f d)) e)
  | inr e ↦ ap is_some (put d ∙ ap (λ b. cond b (Some z) (f d)) e) ∙ s
]

puts-there : (f g : Links) (p z : DefinedTypeId) → Puts f p z g → is_some (g p) ≡ true
puts-there f g p z put = ap is_some (put p ∙ ap (λ b. cond b (Some z) (f p)) (eq-eqb p.0 p.0 refl))

module _ (f0 f1 f2 f3 f4 : Links) (a b : DefinedTypeId) (put1 : Puts f0 (first f0 a) (lower (first f0 a) (first f0 b)) f1) (put2 : Puts f1 (first f0 b) (lower (first f0 a) (first f0 b)) f2) (put3 : Puts f2 a (lower (first f0 a) (first f0 b)) f3) (put4 : Puts f3 b (lower (first f0 a) (first f0 b)) f4) where
  far : (d : DefinedTypeId) → first f4 d ≡ cond (nat_eq (first f0 d).0 (first f0 a).0 || nat_eq (first f0 d).0 (first f0 b).0) (lower (first f0 a) (first f0 b)) (first f0 d)
  far d = joined f0 f1 f2 f3 f4 a b put1 put2 put3 put4 d

  some_far : (d : DefinedTypeId) → is_some (f0 d) ≡ true → is_some (f4 d) ≡ true
  some_far d s = puts-some f3 f4 _ _ put4 d (puts-some f2 f3 _ _ put3 d (puts-some f1 f2 _ _ put2 d (puts-some f0 f1 _ _ put1 d s)))

  pub joined-stay : (c d : DefinedTypeId) → Same f0 c d → Same f4 c d
  joined-stay c d (r, p, q) =
      let (s, e) = there-named f0 c r p in
      let (t, h) = there-named f0 d r q in (
        first f4 c,
        named-there f4 c (first f4 c) (some_far c s) refl,
        named-there f4 d (first f4 c) (some_far d t)
            (far d ∙ ap (λ u. cond (nat_eq u.0 (first f0 a).0 || nat_eq u.0 (first f0 b).0) (lower (first f0 a) (first f0 b)) u) (h ∙ sym e) ∙ sym (far c)),
      )

  or-true : (c : Bool) → c || true ≡ true
  or-true true = refl
  or-true false = refl

  pub joined-one : Same f4 a b
  joined-one = (
    lower (first f0 a) (first f0 b),
    named-there f4 a _ (puts-some f3 f4 _ _ put4 a (puts-there f2 f3 _ _ put3))
        (far a ∙ ap (λ c. cond (c || nat_eq (first f0 a).0 (first f0 b).0) (lower (first f0 a) (first f0 b)) (first f0 a)) (eq-eqb (first f0 a).0 (first f0 a).0 refl)),
    named-there f4 b _ (puts-there f3 f4 _ _ put4)
        (far b ∙ ap (λ c. cond (nat_eq (first f0 b).0 (first f0 a).0 || c) (lower (first f0 a) (first f0 b)) (first f0 b)) (eq-eqb (first f0 b).0 (first f0 b).0 refl)
        ∙ ap (λ c. cond c (lower (first f0 a) (first f0 b)) (first f0 b)) (or-true (nat_eq (first f0 b).0 (first f0 a).0))),
  )

-- three facts of a join
pub record Joins (f0 f4 : Links) (a b : DefinedTypeId) : Type 0 where
  pub joined : (d : DefinedTypeId) → first f4 d ≡ cond (nat_eq (first f0 d).0 (first f0 a).0 || nat_eq (first f0 d).0 (first f0 b).0) (lower (first f0 a) (first f0 b)) (first f0 d)
  pub one : Same f4 a b
  pub stay : (c d : DefinedTypeId) → Same f0 c d → Same f4 c d

puts-along : (f g : Links) (p q z w : DefinedTypeId) → p ≡ q → z ≡ w → Puts f p z g → Puts f q w g
puts-along f g p q z w e h put = subst (λ v. Puts f v w g) e (subst (λ v. Puts f p v g) h put)

pub joins : (f0 f1 f2 f3 f4 : Links) (a b x y z : DefinedTypeId) → x ≡ first f0 a → y ≡ first f0 b → z ≡ lower x y → Puts f0 x z f1 → Puts f1 y z f2 → Puts f2 a z f3 → Puts f3 b z f4 → Joins f0 f4 a b
joins f0 f1 f2 f3 f4 a b x y z ex ey ez put1 put2 put3 put4 =
    let e : z ≡ lower (first f0 a) (first f0 b) = ez ∙ ap (λ v. lower v y) ex ∙ ap (lower (first f0 a)) ey in
    let p1 = puts-along f0 f1 x (first f0 a) z _ ex e put1 in
    let p2 = puts-along f1 f2 y (first f0 b) z _ ey e put2 in
    let p3 = puts-along f2 f3 a a z _ refl e put3 in
    let p4 = puts-along f3 f4 b b z _ refl e put4 in
    record {
      joined = joined f0 f1 f2 f3 f4 a b p1 p2 p3 p4;
      one = joined-one f0 f1 f2 f3 f4 a b p1 p2 p3 p4;
      stay = joined-stay f0 f1 f2 f3 f4 a b p1 p2 p3 p4;
    }

puts-else : (f g : Links) (p z : DefinedTypeId) → Puts f p z g → (d : DefinedTypeId) → is_some (g d) ≡ true → (d ≡ p) ⊎ (is_some (f d) ≡ true)
puts-else f g p z put d s = elim (cases_Bool (nat_eq p.0 d.0)) [
  | inl e ↦ inl (sym (same_id p d e))
  | inr e ↦ inr (sym (ap is_some (put d ∙ ap (λ b. cond b (Some z) (f d)) e)) ∙ s)
]

-- what stands under a name after four puts
pub data FourPut (f : Links) (p q a b d : DefinedTypeId) : Type 0 where
  p1 : d ≡ p → FourPut f p q a b d
  p2 : d ≡ q → FourPut f p q a b d
  p3 : d ≡ a → FourPut f p q a b d
  p4 : d ≡ b → FourPut f p q a b d
  p0 : is_some (f d) ≡ true → FourPut f p q a b d

pub four-put : (f0 f1 f2 f3 f4 : Links) (p q a b z : DefinedTypeId) → Puts f0 p z f1 → Puts f1 q z f2 → Puts f2 a z f3 → Puts f3 b z f4 → (d : DefinedTypeId) → is_some (f4 d) ≡ true → FourPut f0 p q a b d
four-put f0 f1 f2 f3 f4 p q a b z put1 put2 put3 put4 d s = elim (puts-else f3 f4 b z put4 d s) [
  | inl e ↦ p4 e
  | inr s3 ↦ elim (puts-else f2 f3 a z put3 d s3) [
    | inl e ↦ p3 e
    | inr s2 ↦ elim (puts-else f1 f2 q z put2 d s2) [
      | inl e ↦ p2 e
      | inr s1 ↦ elim (puts-else f0 f1 p z put1 d s1) [
        | inl e ↦ p1 e
        | inr s0 ↦ p0 s0
      ]
    ]
  ]
]
