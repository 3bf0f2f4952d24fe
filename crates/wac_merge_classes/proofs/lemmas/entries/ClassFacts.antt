-- One class is an equivalence of names, and what class names are.
use Rattle.std.proofs.Common.{◌≡◌, ℕ, zero, suc, Bool, true, false, not, cond, ◌&&◌, ◌||◌, ◌==◌, List, [], ◌∷◌, ◌++◌, filter, slice_get, Some, refl, sym, ap, ◌∙◌, subst, inl, inr, ◌⊎◌}
use Rattle.std.specs.List.{list_any}
use Rattle.std.proofs.lemmas.Bool.{and_from, and_parts, or_cases, or_left, or_right, or_from, cases_Bool, eqb-true, eq-eqb, false≢true, false_from_ne_true}
use Rattle.std.proofs.lemmas.List.Elements.{filter-append}
use Rattle.wac_names.specs.Track.{Track, whole, major, minor, patch}
use Rattle.wac_types_shapes.specs.primitives.Name.{Name, same_name}
use Rattle.wac_types_shapes.proofs.lemmas.shapes.Names.{same_name-true, same_name-refl, same_name-from}
use Rattle.wac_merge_classes.proofs.lemmas.entries.Lists.{none-at, none-filtered}
use Rattle.wac_merge_classes.specs.entries.Classes.{Entry, NameRules, same_track, names_instance, same_class, names_of_classes}

-- tracks that pass the test are the same
numbered-true : (a b : Name) (i j : ℕ) → (same_name a b && (i == j)) ≡ true → (a ≡ b) × (i ≡ j)
numbered-true a b i j e = let p = and_parts (same_name a b) (i == j) e in (same_name-true a b p.0, eqb-true i j p.1)

pub same_track-true : (t u : Track) → same_track t u ≡ true → t ≡ u
same_track-true (whole a) (whole b) e = ap whole (same_name-true a b e)
same_track-true (major a i) (major b j) e = let p = numbered-true a b i j e in λ k. major (p.0 k) (p.1 k)
same_track-true (minor a i) (minor b j) e = let p = numbered-true a b i j e in λ k. minor (p.0 k) (p.1 k)
same_track-true (patch a i) (patch b j) e = let p = numbered-true a b i j e in λ k. patch (p.0 k) (p.1 k)
same_track-true _ _ e = absurd (false≢true e)

pub same_track-refl : (t : Track) → same_track t t ≡ true
same_track-refl (whole a) = same_name-refl a
same_track-refl (major a i) = and_from (same_name a a) (i == i) (same_name-refl a) (eq-eqb i i refl)
same_track-refl (minor a i) = and_from (same_name a a) (i == i) (same_name-refl a) (eq-eqb i i refl)
same_track-refl (patch a i) = and_from (same_name a a) (i == i) (same_name-refl a) (eq-eqb i i refl)

pub same_track-from : (t u : Track) → t ≡ u → same_track t u ≡ true
same_track-from t u e = subst (λ (v : Track). same_track t v ≡ true) e (same_track-refl t)

-- a name, where it is new
abbrev pub added : Bool → Name → List Name
added true n = []
added false n = n ∷ []

module _ (rules : NameRules) (es : List Entry) where
  -- both are names of instances and on one track
  pub record IsOneTrack (a b : Name) : Type 0 where
    pub track : rules.track a ≡ rules.track b
    pub first : names_instance es a ≡ true
    pub second : names_instance es b ≡ true

  pub class-parts : (a b : Name) → same_class rules es a b ≡ true → (a ≡ b) ⊎ IsOneTrack a b
  class-parts a b e = elim (or_cases _ _ e) [
    | inl s ↦ inl (same_name-true a b s)
    | inr t ↦
        let p = and_parts (same_track (rules.track a) (rules.track b)) _ t in
        let q = and_parts (names_instance es a) (names_instance es b) p.1 in
        inr (record { track = same_track-true (rules.track a) (rules.track b) p.0; first = q.0; second = q.1 })
  ]

  pub class-from : (a b : Name) → IsOneTrack a b → same_class rules es a b ≡ true
  class-from a b o =
      or_right (same_name a b) _ (and_from (same_track (rules.track a) (rules.track b)) _ (same_track-from _ _ o.track) (and_from (names_instance es a) (names_instance es b) o.first o.second))

  pub class-refl : (a : Name) → same_class rules es a a ≡ true
  class-refl a = or_left (same_name a a) _ (same_name-refl a)

  pub class-of_same : (a b : Name) → a ≡ b → same_class rules es a b ≡ true
  class-of_same a b e = or_left (same_name a b) _ (same_name-from a b e)

  pub class-sym : (a b : Name) → same_class rules es a b ≡ true → same_class rules es b a ≡ true
  class-sym a b e = elim (class-parts a b e) [
    | inl s ↦ class-of_same b a (sym s)
    | inr o ↦ class-from b a (record { track = sym o.track; first = o.second; second = o.first })
  ]

  pub class-trans : (a b c : Name) → same_class rules es a b ≡ true → same_class rules es b c ≡ true → same_class rules es a c ≡ true
  class-trans a b c e f = elim (class-parts a b e) [
    | inl s ↦ subst (λ (n : Name). same_class rules es n c ≡ true) (sym s) f
    | inr o ↦ elim (class-parts b c f) [
      | inl t ↦ subst (λ (n : Name). same_class rules es a n ≡ true) t e
      | inr p ↦ class-from a c (record { track = o.track ∙ p.track; first = o.first; second = p.second })
    ]
  ]

  -- the two sides of a test that fails
  pub class-sym-false : (a b : Name) → same_class rules es a b ≡ false → same_class rules es b a ≡ false
  class-sym-false a b e = false_from_ne_true _ (λ t. let s = class-sym b a t in false≢true (sym e ∙ s))

  -- ---- one more entry

  -- has one of these names the class of n
  abbrev pub has_class : List Name → Name → Bool
  has_class ms n = list_any (λ m. same_class rules es m n) ms

  -- a filter that leaves out the class of a first name leaves those of the class of another
  kept : (a n : Name) (ms : List Name) → same_class rules es a n ≡ false → has_class (filter (λ m. not (same_class rules es a m)) ms) n ≡ has_class ms n
  kept a n [] other = refl
  kept a n (m ∷ ms) other = elim (cases_Bool (same_class rules es a m)) [
    | inl t ↦
        let apart : same_class rules es m n ≡ false = false_from_ne_true _ (λ h. false≢true (sym other ∙ class-trans a m n t h)) in
        ap (λ b. has_class (cond (not b) (m ∷ filter (λ x. not (same_class rules es a x)) ms) (filter (λ x. not (same_class rules es a x)) ms)) n) t
        ∙ kept a n ms other ∙ sym (ap (λ b. b || has_class ms n) apart)
    | inr f ↦
        ap (λ b. has_class (cond (not b) (m ∷ filter (λ x. not (same_class rules es a x)) ms) (filter (λ x. not (same_class rules es a x)) ms)) n) f
        ∙ ap (λ b. same_class rules es m n || b) (kept a n ms other)
  ]

  -- what one more entry adds to the class names: its name, where no class has it
  filtered_tail : (a n : Name) (ms : List Name) → filter (λ m. not (same_class rules es a m)) (added (has_class ms n) n)
      ≡ added (same_class rules es a n || has_class (filter (λ m. not (same_class rules es a m)) ms) n) n
  filtered_tail a n ms = elim (cases_Bool (same_class rules es a n)) [
    | inl t ↦ dropped (has_class ms n) t ∙ sym (ap (λ b. added (b || has_class (filter (λ m. not (same_class rules es a m)) ms) n) n) t)
    | inr f ↦ left_in (has_class ms n) f ∙ sym (ap (λ b. added b n) (kept a n ms f)) ∙ sym (ap (λ b. added (b || has_class (filter (λ m. not (same_class rules es a m)) ms) n) n) f)
  ]
    where
      dropped : (b : Bool) → same_class rules es a n ≡ true → filter (λ m. not (same_class rules es a m)) (added b n) ≡ []
      dropped true t = refl
      dropped false t = ap (λ b. cond (not b) (n ∷ []) []) t

      left_in : (b : Bool) → same_class rules es a n ≡ false → filter (λ m. not (same_class rules es a m)) (added b n) ≡ added b n
      left_in true f = refl
      left_in false f = ap (λ b. cond (not b) (n ∷ []) []) f

  pub names_of_classes-push : (xs : List Entry) (e : Entry) → names_of_classes rules es (xs ++ e ∷ []) ≡ names_of_classes rules es xs ++ added (has_class (names_of_classes rules es xs) e.name) e.name
  names_of_classes-push [] e = refl
  names_of_classes-push (x ∷ xs) e =
      let p : Name → Bool = λ n. not (same_class rules es x.name n) in
      let ms = names_of_classes rules es xs in
      ap (λ l. x.name ∷ filter p l) (names_of_classes-push xs e)
      ∙ ap (λ l. x.name ∷ l) (filter-append p ms (added (has_class ms e.name) e.name) ∙ ap (λ l. filter p ms ++ l) (filtered_tail x.name e.name ms))

  -- ---- no two class names are of one class

  Apart : List Name → Type 0
  Apart [] = Unit {0}
  Apart (m ∷ ms) = (list_any (λ n. same_class rules es m n) ms ≡ false) × Apart ms

  apart-filter : (p : Name → Bool) (ms : List Name) → Apart ms → Apart (filter p ms)
  unfolding Apart
  apart-filter p [] a = tt
  apart-filter p (m ∷ ms) a = elim (cases_Bool (p m)) [
    | inl t ↦ subst (λ (b : Bool). Apart (cond b (m ∷ filter p ms) (filter p ms))) (sym t) (none-filtered (λ n. same_class rules es m n) p ms a.0, apart-filter p ms a.1)
    | inr f ↦ subst (λ (b : Bool). Apart (cond b (m ∷ filter p ms) (filter p ms))) (sym f) (apart-filter p ms a.1)
  ]

  left_out : (a : Name) (ms : List Name) → list_any (λ n. same_class rules es a n) (filter (λ m. not (same_class rules es a m)) ms) ≡ false
  left_out a [] = refl
  left_out a (m ∷ ms) = elim (cases_Bool (same_class rules es a m)) [
    | inl t ↦ ap (λ b. list_any (λ n. same_class rules es a n) (cond (not b) (m ∷ filter (λ x. not (same_class rules es a x)) ms) (filter (λ x. not (same_class rules es a x)) ms))) t ∙ left_out a ms
    | inr f ↦ ap (λ b. list_any (λ n. same_class rules es a n) (cond (not b) (m ∷ filter (λ x. not (same_class rules es a x)) ms) (filter (λ x. not (same_class rules es a x)) ms))) f
        ∙ or_from (same_class rules es a m) _ f (left_out a ms)
  ]

  class_names-apart : (xs : List Entry) → Apart (names_of_classes rules es xs)
  unfolding Apart
  class_names-apart [] = tt
  class_names-apart (x ∷ xs) = (left_out x.name (names_of_classes rules es xs), apart-filter (λ n. not (same_class rules es x.name n)) (names_of_classes rules es xs) (class_names-apart xs))

  apart-at : (ms : List Name) (k l : ℕ) (m n : Name) → Apart ms → slice_get ms k ≡ Some m → slice_get ms l ≡ Some n → same_class rules es m n ≡ true → k ≡ l
  unfolding Apart
  apart-at [] k l m n a mt nt t = cc
  apart-at (x ∷ ms) zero zero m n a mt nt t = refl
  apart-at (x ∷ ms) zero (suc l) m n a mt nt t =
      let same : x ≡ m = cc in
      let f = none-at (λ y. same_class rules es x y) ms l n a.0 nt in
      absurd (false≢true (sym f ∙ ap (λ y. same_class rules es y n) same ∙ t))
  apart-at (x ∷ ms) (suc k) zero m n a mt nt t =
      let same : x ≡ n = cc in
      let f = none-at (λ y. same_class rules es x y) ms k m a.0 mt in
      absurd (false≢true (sym f ∙ ap (λ y. same_class rules es y m) same ∙ class-sym m n t))
  apart-at (x ∷ ms) (suc k) (suc l) m n a mt nt t = ap suc (apart-at ms k l m n a.1 mt nt t)

  -- class names of one class are one
  pub one-position : (xs : List Entry) (k l : ℕ) (m n : Name) → slice_get (names_of_classes rules es xs) k ≡ Some m → slice_get (names_of_classes rules es xs) l ≡ Some n
      → same_class rules es m n ≡ true → k ≡ l
  one-position xs k l m n mt nt t = apart-at (names_of_classes rules es xs) k l m n (class_names-apart xs) mt nt t
