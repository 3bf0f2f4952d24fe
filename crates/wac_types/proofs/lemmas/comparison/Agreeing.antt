-- Lists that agree so far, and what is asked of their parts.
use Rattle.std.proofs.Common.{ℕ, zero, suc, Bool, true, List, [], ◌∷◌, map, ◌≡◌, ◌+◌, ◌<◌, ◌≤◌, length, refl, ap, sym, ◌∙◌, subst, Option, Some, None, arith, slice_get, option_map, below_more, Result, Ok, Err}
use Rattle.std.proofs.lemmas.List.{length-map}
use Rattle.std.proofs.lemmas.Option.{same_Some, slice_get-map}
use Rattle.std.specs.Result.{IsErrAnd}
use Rattle.std.specs.List.{AllByRecursion}
use Rattle.wac_types_shapes.specs.primitives.Name.{Name}
use Rattle.wac_types_shapes.specs.declared.shapes.component.ValueType.{ValueType}
use Rattle.wac_types_shapes.specs.declared.shapes.component.«Type».{«Type» as AnyType}
use Rattle.wac_types_shapes.specs.declared.shapes.component.«Type».TheVariants as ty
use Rattle.wac_types_shapes.proofs.lemmas.shapes.Loops.{same_lists}
use Rattle.wac_types_collection.specs.collection.Collection.{Collection, and_maybe, seconds, case_values, value_types, holds_value, holds_type}
use Rattle.wac_types.specs.declared.comparison.questions.Asked.{Asked}
use Rattle.wac_types.specs.private.comparison.Questions.{AreHeld}
use Rattle.wac_types.specs.private.comparison.Settling.{Asks}
use Rattle.wac_types.proofs.lemmas.comparison.Values.{asks_now, asks_iff, asks_then}

-- two lists agree so far
abbrev pub AgreeBelow : {A : Type 0} → ℕ → List A → List A → Type 0
AgreeBelow i xs ys = (k : ℕ) → k < i → slice_get xs k ≡ slice_get ys k

-- the error that a `?` hands on
pub handed_on : {A : Type 0} {E : Type 0} (r : Result A E) (e x : E) → IsErrAnd r (λ y. y ≡ e) → r ≡ Err x → (let s : Result A E = Err e in s ≡ Err x)
handed_on (Ok a) e x h is = absurd h
handed_on (Err y) e x h is = sym (ap Err h) ∙ is

pub get_map : {A B : Type 0} (f : A → B) (xs : List A) (i : ℕ) (v : A) → slice_get xs i ≡ Some v → slice_get (map f xs) i ≡ Some (f v)
get_map f xs i v h = slice_get-map f xs i ∙ ap (option_map f) h

-- lists under two maps that agree at each position
pub maps_agree : {A B C : Type 0} (f : A → C) (g : B → C) (i : ℕ) (xs : List A) (ys : List B) → length xs ≡ length ys → length xs ≤ i → AgreeBelow i (map f xs) (map g ys) → map f xs ≡ map g ys
maps_agree f g i xs ys e le h = let l = length-map xs f in same_lists (map f xs) (map g ys) (l ∙ e ∙ sym (length-map ys g)) (λ k lt. h k (omega (arith, lt, l, le)))

module _ (P : AnyType → Type 0) where
  -- what is mentioned one by one
  pub among : {A : Type 0} (all : List A → List AnyType) (one : A → AnyType) → ((x : A) (xs : List A) → all (x ∷ xs) ≡ one x ∷ all xs) → (xs : List A) (i : ℕ) (x : A) → slice_get xs i ≡ Some x → AllByRecursion P (all xs) → AllByRecursion P (one x ∷ [])
  among all one step [] i x e h = cc
  among {A = A} all one step (y ∷ ys) zero x e h = let Q : A → Type 0 = λ z. P (one z) in (subst Q (same_Some y x e) (rw (step y ys) at h).0, tt)
  among all one step (y ∷ ys) (suc i) x e h = among all one step ys i x e (rw (step y ys) at h).1

  pub maybe_first : (o : Option ValueType) (vs : List ValueType) → AllByRecursion P (value_types (and_maybe o vs)) → AllByRecursion P (value_types (and_maybe o []))
  maybe_first None vs h = tt
  maybe_first (Some v) vs h = (h.0, tt)

  pub maybe_rest : (o : Option ValueType) (vs : List ValueType) → AllByRecursion P (value_types (and_maybe o vs)) → AllByRecursion P (value_types vs)
  maybe_rest None vs h = h
  maybe_rest (Some v) vs h = h.1

  pub case_among : (es : List (Name × Option ValueType)) (i : ℕ) (n : Name) (v : Option ValueType) → slice_get es i ≡ Some (n, v) → AllByRecursion P (value_types (case_values es)) → AllByRecursion P (value_types (and_maybe v []))
  case_among [] i n v e h = cc
  case_among (w ∷ es) zero n v e h = let Q : Name × Option ValueType → Type 0 = λ u. AllByRecursion P (value_types (and_maybe u.1 [])) in subst Q (same_Some w (n, v) e) (maybe_first w.1 (case_values es) h)
  case_among (w ∷ es) (suc i) n v e h = case_among es i n v e (maybe_rest w.1 (case_values es) h)

-- each value type of a list, and each field, is held where all are
pub value_held : (c : Collection) (vs : List ValueType) (i : ℕ) (v : ValueType) → slice_get vs i ≡ Some v → AreHeld c (value_types vs) → holds_value c v ≡ true
value_held c vs i v at h = (among (λ t. holds_type c t ≡ true) value_types (λ u. ty.Value u) (λ _ _. refl) vs i v at h).0

pub field_held : (c : Collection) (es : List (Name × ValueType)) (i : ℕ) (n : Name) (v : ValueType) → slice_get es i ≡ Some (n, v) → AreHeld c (value_types (seconds es)) → holds_value c v ≡ true
field_held c es i n v at h = (among (λ t. holds_type c t ≡ true) (λ xs. value_types (seconds xs)) (λ e. ty.Value e.1) (λ _ _. refl) es i (n, v) at h).0

pub case_held : (c : Collection) (es : List (Name × Option ValueType)) (i : ℕ) (n : Name) (v : Option ValueType) → slice_get es i ≡ Some (n, v) → AreHeld c (value_types (case_values es)) → AreHeld c (value_types (and_maybe v []))
case_held c es i n v at h = case_among (λ t. holds_type c t ≡ true) es i n v at h

module _ {t : Bool} {x y : Collection} {ps qs : List AnyType} where
  pub agree_none : {A : Type 0} (xs ys : List A) {o : Asked} → Asks t x y ps qs o o (AgreeBelow 0 xs ys)
  agree_none xs ys = asks_now (λ k lt. absurd (omega (arith, lt)))

  module _ {A B C : Type 0} (f : A → C) (g : B → C) (i : ℕ) (xs : List A) (ys : List B) where
    -- one position more
    pub agree_more : (a : A) (b : B) {o l k : Asked} → slice_get xs i ≡ Some a → slice_get ys i ≡ Some b → Asks t x y ps qs o l (AgreeBelow i (map f xs) (map g ys)) → Asks t x y ps qs l k (f a ≡ g b)
        → Asks t x y ps qs o k (AgreeBelow (i + 1) (map f xs) (map g ys))
    agree_more a b sa sb s r =
        let left = get_map f xs i a sa in
        let right = get_map g ys i b sb in
        asks_iff (λ e. below_more _ _ e.0 (left ∙ ap Some e.1 ∙ sym right)) (λ h. ((λ k lt. h k (omega (arith, lt))), same_Some _ _ (sym left ∙ h i (omega arith) ∙ right))) (asks_then s r)

    -- all of them
    pub agree_maps : {o k : Asked} → length xs ≡ length ys → length xs ≤ i → Asks t x y ps qs o k (AgreeBelow i (map f xs) (map g ys)) → Asks t x y ps qs o k (map f xs ≡ map g ys)
    agree_maps e le s = asks_iff (maps_agree f g i xs ys e le) (λ h k lt. ap (λ l. slice_get l k) h) s

  -- under the same name
  pub under_name : {A : Type 0} (m n : Name) (a b : A) {o k : Asked} → m ≡ n → Asks t x y ps qs o k (a ≡ b) → Asks t x y ps qs o k (let u : Name × A = (m, a) in u ≡ (n, b))
  under_name m n a b e s = asks_iff (λ p i. (e i, p i)) (λ p. ap (λ u. u.1) p) s

module _ {A B C : Type 0} (f : A → C) (g : B → C) (xs : List A) (ys : List B) where
  pub differ_at : (i : ℕ) (a : A) (b : B) → slice_get xs i ≡ Some a → slice_get ys i ≡ Some b → (f a ≡ g b → ⊥) → map f xs ≡ map g ys → ⊥
  differ_at i a b sa sb n e = n (same_Some _ _ (sym (get_map f xs i a sa) ∙ ap (λ l. slice_get l i) e ∙ get_map g ys i b sb))
