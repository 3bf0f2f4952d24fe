-- Where each class has one entry, no two entries are of one class, so none disagree.
use Rattle.std.proofs.Common.{◌≡◌, ℕ, zero, suc, ◌<◌, ◌≤◌, Bool, true, false, not, cond, List, [], ◌∷◌, length, filter, slice_get, Some, None, refl, ap, sym, ◌∙◌, subst, inl, inr, arith}
use Rattle.std.specs.Ordering.{nat_cmp}
use Rattle.std.specs.declared.cmp.Ordering.{Ordering}
use Rattle.std.specs.declared.cmp.Ordering.TheVariants.{Less, Equal, Greater}
use Rattle.std.proofs.lemmas.Bool.{cases_Bool, false≢true}
use Rattle.std.proofs.lemmas.Cmp.{ranked}
use Rattle.wac_types_shapes.specs.primitives.Name.{Name}
use Rattle.wac_types_collection.specs.collection.Collection.{Collection}
use Rattle.wac_merge_classes.specs.entries.Agreement.{Agree, AllMembersAgree, compared}
use Rattle.wac_merge_classes.specs.entries.Classes.{Entry, NameRules, by_names, class_names, names_of_classes, same_class}
use Rattle.wac_merge_classes.specs.terms.NoDisagreement.{HasNoDisagreement}
use Rattle.wac_merge_classes.proofs.lemmas.entries.ClassFacts.{class-sym, class-trans}
use Rattle.wac_merge_classes.proofs.lemmas.terms.Alike.{agree_itself}

-- ---- a filter that leaves all there is
module _ {X : Type 0} (f : X → Bool) where
  fewer : (xs : List X) → length (filter f xs) ≤ length xs
  fewer [] = omega arith
  fewer (x ∷ xs) =
      let rest = fewer xs in
      elim (cases_Bool (f x)) [
        | inl t ↦ subst (λ (b : Bool). length (cond b (x ∷ filter f xs) (filter f xs)) ≤ suc (length xs)) (sym t) (let kept : suc (length (filter f xs)) ≤ suc (length xs) = omega (arith, rest) in kept)
        | inr t ↦ subst (λ (b : Bool). length (cond b (x ∷ filter f xs) (filter f xs)) ≤ suc (length xs)) (sym t) (let left : length (filter f xs) ≤ suc (length xs) = omega (arith, rest) in left)
      ]

  passes : (x : X) (xs : List X) → length (filter f (x ∷ xs)) ≡ suc (length xs) → f x ≡ true
  passes x xs e = elim (cases_Bool (f x)) [
    | inl t ↦ t
    | inr t ↦
        let same : length (filter f xs) ≡ suc (length xs) = sym (ap (λ (b : Bool). length (cond b (x ∷ filter f xs) (filter f xs))) t) ∙ e in
        let less = fewer xs in
        absurd (omega (arith, same, less))
  ]

  shorter : (x : X) (xs : List X) → length (filter f (x ∷ xs)) ≡ suc (length xs) → length (filter f xs) ≡ length xs
  shorter x xs e =
      let same : suc (length (filter f xs)) ≡ suc (length xs) = sym (ap (λ (b : Bool). length (cond b (x ∷ filter f xs) (filter f xs))) (passes x xs e)) ∙ e in
      omega (arith, same)

  all-pass : (xs : List X) → length (filter f xs) ≡ length xs → (j : ℕ) (y : X) → slice_get xs j ≡ Some y → f y ≡ true
  all-pass [] e j y at = let no_some : None ≡ Some y = at in cc
  all-pass (x ∷ xs) e zero y at = let same : x ≡ y = cc in subst (λ (z : X). f z ≡ true) same (passes x xs e)
  all-pass (x ∷ xs) e (suc j) y at = all-pass xs (shorter x xs e) j y at

  all-left : (xs : List X) → length (filter f xs) ≡ length xs → filter f xs ≡ xs
  all-left [] e = refl
  all-left (x ∷ xs) e = ap (λ (b : Bool). cond b (x ∷ filter f xs) (filter f xs)) (passes x xs e) ∙ ap (λ (l : List X). x ∷ l) (all-left xs (shorter x xs e))

-- ---- as many classes as entries
module _ (rules : NameRules) (es : List Entry) where
  abbrev other_class : Name → Name → Bool
  other_class m n = not (same_class rules es m n)

  few : (xs : List Entry) → length (names_of_classes rules es xs) ≤ length xs
  few [] = omega arith
  few (x ∷ xs) =
      let left = fewer (other_class x.name) (names_of_classes rules es xs) in
      let rest = few xs in
      let all : suc (length (filter (other_class x.name) (names_of_classes rules es xs))) ≤ suc (length xs) = omega (arith, left, rest) in
      all

  record IsFull (x : Entry) (xs : List Entry) : Type 0 where
    pub left : length (filter (other_class x.name) (names_of_classes rules es xs)) ≡ length (names_of_classes rules es xs)
    pub rest : length (names_of_classes rules es xs) ≡ length xs

  full : (x : Entry) (xs : List Entry) → length (names_of_classes rules es (x ∷ xs)) ≡ suc (length xs) → IsFull x xs
  full x xs e =
      let same : suc (length (filter (other_class x.name) (names_of_classes rules es xs))) ≡ suc (length xs) = e in
      let left = fewer (other_class x.name) (names_of_classes rules es xs) in
      let rest = few xs in
      record { left = omega (arith, same, left, rest); rest = omega (arith, same, left, rest) }

  names-are : (xs : List Entry) → length (names_of_classes rules es xs) ≡ length xs → (j : ℕ) (e : Entry) → slice_get xs j ≡ Some e → slice_get (names_of_classes rules es xs) j ≡ Some e.name
  names-are [] h j e at = let no_some : None ≡ Some e = at in cc
  names-are (x ∷ xs) h zero e at = let same : x ≡ e = cc in ap (λ (y : Entry). Some y.name) same
  names-are (x ∷ xs) h (suc j) e at =
      let f = full x xs h in
      ap (λ (l : List Name). slice_get l j) (all-left (other_class x.name) (names_of_classes rules es xs) f.left) ∙ names-are xs f.rest j e at

  single : (xs : List Entry) → length (names_of_classes rules es xs) ≡ length xs → (i j : ℕ) (a b : Entry) → i < j → slice_get xs i ≡ Some a → slice_get xs j ≡ Some b → same_class rules es a.name b.name ≡ true → ⊥
  single [] h i j a b low at bt one = let no_some : None ≡ Some a = at in cc
  single (x ∷ xs) h i zero a b low at bt one = absurd (omega (arith, low))
  single (x ∷ xs) h zero (suc j) a b low at bt one =
      let f = full x xs h in
      let same : x ≡ a = cc in
      let apart : not (same_class rules es x.name b.name) ≡ true = all-pass (other_class x.name) (names_of_classes rules es xs) f.left j b.name (names-are xs f.rest j b bt) in
      let alike : same_class rules es x.name b.name ≡ true = subst (λ (y : Entry). same_class rules es y.name b.name ≡ true) (sym same) one in
      absurd (false≢true (sym (ap not alike) ∙ apart))
  single (x ∷ xs) h (suc i) (suc j) a b low at bt one = single xs (full x xs h).rest i j a b (omega (arith, low)) at bt one

module _ (c : Collection) (es : List Entry) (each : length (class_names by_names es) ≡ length es) where
  pub single-agree : HasNoDisagreement by_names c es
  single-agree i j d = single by_names es es each i j d.earlier d.later d.before d.at_first d.at_second d.one_class

  pub single-agreed : AllMembersAgree by_names c es
  single-agreed class i j e f at bt of also = split (nat_cmp i j) refl where
    one : same_class by_names es e.name f.name ≡ true
    one = class-trans by_names es e.name class f.name (class-sym by_names es class e.name of) also

    split : (o : Ordering) → o ≡ nat_cmp i j → Agree (compared by_names c es class e.kind) (compared by_names c es class f.kind)
    split Less is = absurd (single by_names es es each i j e f (ranked i j Less is) at bt one)
    split Equal is =
        let same : i ≡ j = ranked i j Equal is in
        let some : Some e ≡ Some f = sym at ∙ (ap (slice_get es) same ∙ bt) in
        let it : e ≡ f = cc in
        subst (λ (x : Entry). Agree (compared by_names c es class e.kind) (compared by_names c es class x.kind)) it (agree_itself (compared by_names c es class e.kind))
    split Greater is = absurd (single by_names es es each j i f e (ranked i j Greater is) bt at (class-sym by_names es e.name f.name one))
