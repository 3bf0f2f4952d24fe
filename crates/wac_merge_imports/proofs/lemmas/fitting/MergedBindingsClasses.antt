-- The classes of entries no two of which are of one class, and which of them binds a resource.
use Rattle.std.proofs.Common.{◌≡◌, ℕ, zero, suc, ◌+◌, Bool, true, false, not, cond, ◌==◌, List, [], ◌∷◌, filter, map, slice_get, Option, Some, None, refl, sym, ap, ◌∙◌, inl, inr, arith}
use Rattle.std.proofs.lemmas.Bool.{cases_Bool, eqb-true, eq-eqb, false_from_ne_true}
use Rattle.wac_types_shapes.specs.primitives.Name.{Name, option_case}
use Rattle.wac_types_shapes.specs.primitives.Tree.{Place}
use Rattle.wac_types_collection.specs.collection.Collection.{Collection}
use Rattle.wac_types_shapes.specs.declared.shapes.component.ResourceId.{ResourceId}
use Rattle.wac_merge_classes.specs.entries.Binding.{binding_from, class_binds, first_binds, kind_binds}
use Rattle.wac_merge_classes.specs.entries.Classes.{Entry, NameRules, by_names, class_names, names_of_classes, newest, same_class}
use Rattle.wac_merge_classes.specs.terms.Merge.{position_in}
use Rattle.wac_merge_classes.proofs.lemmas.entries.ClassFacts.{class-refl}
use Rattle.wac_merge_classes.proofs.lemmas.terms.Found.{no_some, some_same}
use Rattle.wac_merge_imports.proofs.lemmas.fitting.FittingSteps.{bound}
use Rattle.wac_merge_classes.proofs.lemmas.entries.Places.{first-none}

-- ---- filters

module _ {X : Type 0} (f : X → Bool) where
  pub filter-all : (xs : List X) → ((i : ℕ) (x : X) → slice_get xs i ≡ Some x → f x ≡ true) → filter f xs ≡ xs
  filter-all [] all = refl
  filter-all (x ∷ xs) all = ap (λ b. cond b (x ∷ filter f xs) (filter f xs)) (all 0 x refl) ∙ ap (λ l. x ∷ l) (filter-all xs (λ i y at. all (suc i) y at))

  pub filter-none : (xs : List X) → ((i : ℕ) (x : X) → slice_get xs i ≡ Some x → f x ≡ true → ⊥) → filter f xs ≡ []
  filter-none [] never = refl
  filter-none (x ∷ xs) never = ap (λ b. cond b (x ∷ filter f xs) (filter f xs)) (false_from_ne_true (f x) (never 0 x refl)) ∙ filter-none xs (λ i y at. never (suc i) y at)

  -- the one that passes
  pub filter-one : (xs : List X) (i : ℕ) (x : X) → slice_get xs i ≡ Some x → f x ≡ true → ((j : ℕ) (y : X) → slice_get xs j ≡ Some y → f y ≡ true → j ≡ i) → filter f xs ≡ x ∷ []
  filter-one [] i x at t one = absurd (no_some x at)
  filter-one (y ∷ xs) zero x at t one =
      let same : y ≡ x = some_same y x at in
      ap (λ b. cond b (y ∷ filter f xs) (filter f xs)) (ap f same ∙ t)
      ∙ ap (λ l. y ∷ l) (filter-none xs (λ j z there h. let e = one (suc j) z there h in omega (arith, e))) ∙ ap (λ z. z ∷ []) same
  filter-one (y ∷ xs) (suc i) x at t one =
      ap (λ b. cond b (y ∷ filter f xs) (filter f xs)) (false_from_ne_true (f y) (λ h. let e = one 0 y refl h in omega (arith, e)))
      ∙ filter-one xs i x at t (λ j z there h. let e = one (suc j) z there h in omega (arith, e))

  -- what a filter leaves was there, and passes
  pub filter-at : (xs : List X) (j : ℕ) (x : X) → slice_get (filter f xs) j ≡ Some x → (f x ≡ true) × (i : ℕ) × (slice_get xs i ≡ Some x)
  filter-at [] j x at = absurd (no_some x at)
  filter-at (y ∷ xs) j x at = elim (cases_Bool (f y)) [
    | inl t ↦ kept j t (ap (λ b. slice_get (cond b (y ∷ filter f xs) (filter f xs)) j) (sym t) ∙ at) (λ k h. filter-at xs k x h)
    | inr n ↦
        let w = filter-at xs j x (ap (λ b. slice_get (cond b (y ∷ filter f xs) (filter f xs)) j) (sym n) ∙ at) in
        (w.0, suc w.1, w.2)
  ]
    where
      kept : (j : ℕ) → f y ≡ true → slice_get (y ∷ filter f xs) j ≡ Some x → ((k : ℕ) → slice_get (filter f xs) k ≡ Some x → (f x ≡ true) × (i : ℕ) × (slice_get xs i ≡ Some x))
          → (f x ≡ true) × (i : ℕ) × (slice_get (y ∷ xs) i ≡ Some x)
      kept zero t at later = (ap f (sym (some_same y x at)) ∙ t, 0, at)
      kept (suc k) t at later = let w = later k at in (w.0, suc w.1, w.2)

  -- and what was there and passes is left
  pub filter-has : (xs : List X) (i : ℕ) (x : X) → slice_get xs i ≡ Some x → f x ≡ true → (j : ℕ) × (slice_get (filter f xs) j ≡ Some x)
  filter-has [] i x at t = absurd (no_some x at)
  filter-has (y ∷ xs) zero x at t =
      let same : y ≡ x = some_same y x at in
      (0, ap (λ b. slice_get (cond b (y ∷ filter f xs) (filter f xs)) 0) (ap f same ∙ t) ∙ at)
  filter-has (y ∷ xs) (suc i) x at t =
      let w = filter-has xs i x at t in
      elim (cases_Bool (f y)) [
        | inl h ↦ (suc w.0, ap (λ b. slice_get (cond b (y ∷ filter f xs) (filter f xs)) (suc w.0)) h ∙ w.1)
        | inr n ↦ (w.0, ap (λ b. slice_get (cond b (y ∷ filter f xs) (filter f xs)) w.0) n ∙ w.1)
      ]

-- ---- the newest of names

-- what holds of a name and of each that is seen holds of the newest
pub newest-has : (P : Name → Type 0) (n : Name) (xs : List Entry) → P n → ((j : ℕ) (e : Entry) → slice_get xs j ≡ Some e → P e.name) → P (newest by_names n xs)
newest-has P n [] first each = first
newest-has P n (e ∷ xs) first each = newest-has P (cond (by_names.is_newer e.name n) e.name n) xs (by (by_names.is_newer e.name n)) (λ j x at. each (suc j) x at) where
  by : (b : Bool) → P (cond b e.name n)
  by true = each 0 e refl
  by false = first

-- ---- positions

pub position-is : (order : List ℕ) (p k : ℕ) → slice_get order p ≡ Some k → ((i j : ℕ) → slice_get order i ≡ Some k → slice_get order j ≡ Some k → i ≡ j) → position_in order k ≡ p
position-is [] p k at once = absurd (no_some k at)
position-is (x ∷ order) zero k at once = ap (λ b. cond b 0 (suc (position_in order k))) (eq-eqb x k (some_same x k at))
position-is (x ∷ order) (suc p) k at once = elim (cases_Bool (x == k)) [
  | inl t ↦ let e = once 0 (suc p) (ap Some (eqb-true x k t)) at in absurd (omega (arith, e))
  | inr f ↦ ap (λ b. cond b 0 (suc (position_in order k))) f ∙ ap suc (position-is order p k at (λ i j a b. let e = once (suc i) (suc j) a b in omega (arith, e)))
]

-- ---- the first class that binds a resource

module _ (rules : NameRules) (c : Collection) (es : List Entry) (t : ResourceId) where
  -- the only one
  pub only-binding : (i : ℕ) (classes : List Name) (j : ℕ) (class : Name) (path : List Place) → slice_get classes j ≡ Some class → class_binds rules c es class t ≡ Some path
      → ((l : ℕ) (other : Name) (q : List Place) → slice_get classes l ≡ Some other → class_binds rules c es other t ≡ Some q → l ≡ j)
      → binding_from rules c es i classes t ≡ Some (bound (i + j) path)
  only-binding i [] j class path at binds only = absurd (no_some class at)
  only-binding i (x ∷ classes) zero class path at binds only =
      let count : i ≡ i + 0 = omega arith in
      ap (λ (o : Option (List Place)). option_case o (binding_from rules c es (suc i) classes t) (λ p. Some (bound i p))) (ap (λ n. class_binds rules c es n t) (some_same x class at) ∙ binds)
      ∙ ap (λ k. Some (bound k path)) count
  only-binding i (x ∷ classes) (suc j) class path at binds only = by (class_binds rules c es x t) refl
      (only-binding (suc i) classes j class path at binds (λ l other q there h. let e = only (suc l) other q there h in omega (arith, e)))
    where
      by : (o : Option (List Place)) → class_binds rules c es x t ≡ o → binding_from rules c es (suc i) classes t ≡ Some (bound (suc i + j) path)
          → option_case o (binding_from rules c es (suc i) classes t) (λ p. Some (bound i p)) ≡ Some (bound (i + suc j) path)
      by None is h = let count : suc i + j ≡ i + suc j = omega arith in h ∙ ap (λ k. Some (bound k path)) count
      by (Some q) is h = let e = only 0 x q refl is in absurd (omega (arith, e))

  pub no-binding : (i : ℕ) (classes : List Name) → ((l : ℕ) (other : Name) (q : List Place) → slice_get classes l ≡ Some other → class_binds rules c es other t ≡ Some q → ⊥) → binding_from rules c es i classes t ≡ None
  no-binding i [] never = refl
  no-binding i (x ∷ classes) never = by (class_binds rules c es x t) refl (no-binding (suc i) classes (λ l other q there h. never (suc l) other q there h)) where
    by : (o : Option (List Place)) → class_binds rules c es x t ≡ o → binding_from rules c es (suc i) classes t ≡ None → option_case o (binding_from rules c es (suc i) classes t) (λ p. Some (bound i p)) ≡ None
    by None is h = h
    by (Some q) is h = absurd (never 0 x q refl is)

-- ---- entries of which each is a class

module _ (rules : NameRules) (all : List Entry) where
  -- no two are of one class
  abbrev pub AreApart : List Entry → Type 0
  AreApart xs = (i j : ℕ) (a b : Entry) → slice_get xs i ≡ Some a → slice_get xs j ≡ Some b → same_class rules all a.name b.name ≡ true → i ≡ j

  name-at : (xs : List Entry) (i : ℕ) (n : Name) → slice_get (map (λ e. e.name) xs) i ≡ Some n → (e : Entry) × (slice_get xs i ≡ Some e) × (e.name ≡ n)
  name-at [] i n at = absurd (no_some n at)
  name-at (x ∷ xs) zero n at = (x, refl, some_same x.name n at)
  name-at (x ∷ xs) (suc i) n at = name-at xs i n at

  at-name : (xs : List Entry) (i : ℕ) (e : Entry) → slice_get xs i ≡ Some e → slice_get (map (λ e. e.name) xs) i ≡ Some e.name
  at-name [] i e at = absurd (no_some e at)
  at-name (x ∷ xs) zero e at = ap (λ (y : Entry). Some y.name) (some_same x e at)
  at-name (x ∷ xs) (suc i) e at = at-name xs i e at

  -- the class names are their names
  names-apart : (xs : List Entry) → AreApart xs → names_of_classes rules all xs ≡ map (λ e. e.name) xs
  names-apart [] apart = refl
  names-apart (x ∷ xs) apart =
      ap (λ l. x.name ∷ filter (λ n. not (same_class rules all x.name n)) l) (names-apart xs (λ i j a b at there one. let e = apart (suc i) (suc j) a b at there one in omega (arith, e)))
      ∙ ap (λ l. x.name ∷ l) (filter-all (λ n. not (same_class rules all x.name n)) (map (λ e. e.name) xs) other)
    where
      other : (i : ℕ) (n : Name) → slice_get (map (λ e. e.name) xs) i ≡ Some n → not (same_class rules all x.name n) ≡ true
      other i n at =
          let w = name-at xs i n at in
          ap not (false_from_ne_true (same_class rules all x.name n) (λ one.
          let e = apart 0 (suc i) x w.0 refl w.1 (ap (same_class rules all x.name) w.2 ∙ one) in
          omega (arith, e)))

module _ (rules : NameRules) (all : List Entry) (apart : AreApart rules all all) where
  pub class-at : (p : ℕ) (n : Name) → slice_get (class_names rules all) p ≡ Some n → (e : Entry) × (slice_get all p ≡ Some e) × (e.name ≡ n)
  class-at p n at = name-at rules all all p n (ap (λ l. slice_get l p) (sym (names-apart rules all all apart)) ∙ at)

  pub at-class : (p : ℕ) (e : Entry) → slice_get all p ≡ Some e → slice_get (class_names rules all) p ≡ Some e.name
  at-class p e at = ap (λ l. slice_get l p) (names-apart rules all all apart) ∙ at-name rules all all p e at

  -- and each is the only member
  pub alone-binds : (c : Collection) (p : ℕ) (e : Entry) → slice_get all p ≡ Some e → (t : ResourceId) → class_binds rules c all e.name t ≡ kind_binds rules c e.name e.kind t
  alone-binds c p e at t =
      ap (λ xs. first_binds rules c e.name xs t) (filter-one (λ (x : Entry). same_class rules all e.name x.name) all p e at (class-refl rules all e.name) (λ j y there one. sym (apart p j e y at there one)))
      ∙ first-none (kind_binds rules c e.name e.kind t)
