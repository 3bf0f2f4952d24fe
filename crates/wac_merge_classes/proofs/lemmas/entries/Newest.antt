-- The newest name of each class, and what the classes are in the end.
use Rattle.std.proofs.Common.{◌≡◌, ◌↔◌, ℕ, zero, suc, ◌+◌, ◌<◌, Bool, true, false, cond, List, [], ◌∷◌, ◌++◌, filter, take, length, slice_get, Option, Some, is_some, IsSome, refl, sym, ap, ◌∙◌, subst, inl, inr, arith, add-one}
use Rattle.std.proofs.Math.ListN.{set}
use Rattle.std.proofs.lemmas.Bool.{cases_Bool, false≢true, or_left, or_right}
use Rattle.std.proofs.lemmas.List.{append-nil, take_all}
use Rattle.std.proofs.lemmas.List.Elements.{filter-append}
use Rattle.wac_types_shapes.specs.primitives.Name.{Name, find_name, same_name}
use Rattle.wac_types_shapes.proofs.lemmas.shapes.Names.{same_name-refl, take_at}
use Rattle.wac_merge_classes.specs.entries.Classes.{Entry, IsFirstNamed, NameRules, by_names, is_asked, same_class, class_names, names_of_classes, newest, AreClasses}
use Rattle.wac_merge_classes.specs.private.entries.Numbering.{AreFound, AreKeyed, AreNewest, HaveNumbers, IsNumbered, class_names_to, members_in}
use Rattle.wac_merge_classes.proofs.lemmas.entries.Canonical.{newest-each}
use Rattle.wac_merge_classes.proofs.lemmas.entries.Lists.{push-cases, set-cases, some-at}
use Rattle.wac_merge_classes.proofs.lemmas.entries.ClassFacts.{class-sym, class-trans, one-position}
use Rattle.wac_merge_classes.proofs.lemmas.entries.Numbers.{number-stays}

some-same : {A : Type 0} (x y : A) → Some x ≡ Some y → x ≡ y
some-same x y e = cc

-- the newest of one more
newest-push : (rules : NameRules) (n : Name) (xs : List Entry) (e : Entry) → newest rules n (xs ++ e ∷ []) ≡ cond (rules.is_newer e.name (newest rules n xs)) e.name (newest rules n xs)
newest-push rules n [] e = refl
newest-push rules n (x ∷ xs) e = newest-push rules (cond (rules.is_newer x.name n) x.name n) xs e

-- what stands before the end of the first of a list stands there
taken-at : {A : Type 0} (xs : List A) (i j : ℕ) (x : A) → j < i → slice_get xs j ≡ Some x → slice_get (take i xs) j ≡ Some x
taken-at [] i j x before at = cc
taken-at (y ∷ xs) zero j x before at = absurd (omega (arith, before))
taken-at (y ∷ xs) (suc i) zero x before at = at
taken-at (y ∷ xs) (suc i) (suc j) x before at = taken-at xs i j x (omega (arith, before)) at

-- the name of one that passes is asked for among those that pass
asked-in : (f : Entry → Bool) (xs : List Entry) (j : ℕ) (d : Entry) → slice_get xs j ≡ Some d → f d ≡ true → is_asked (filter f xs) d.name ≡ true
asked-in f [] j d at t = cc
asked-in f (x ∷ xs) zero d at t =
    let same : x ≡ d = some-same x d at in
    ap (λ b. is_asked (cond b (x ∷ filter f xs) (filter f xs)) d.name) (ap f same ∙ t) ∙ or_left (same_name x.name d.name) _ (ap (λ (y : Entry). same_name y.name d.name) same ∙ same_name-refl d.name)
asked-in f (x ∷ xs) (suc j) d at t = by (f x) (asked-in f xs j d at t) where
  by : (b : Bool) → is_asked (filter f xs) d.name ≡ true → is_asked (cond b (x ∷ filter f xs) (filter f xs)) d.name ≡ true
  by true h = or_right (same_name x.name d.name) _ h
  by false h = h

module _ (es : List Entry) where
  -- ---- the numbers of entries

  pub numbers-push : (i k : ℕ) (numbers : List ℕ) → length numbers ≡ i → HaveNumbers es (class_names_to es i) numbers
      → ((e : Entry) → slice_get es i ≡ Some e → IsNumbered es (class_names_to es (i + 1)) e.name k) → i < length es
      → HaveNumbers es (class_names_to es (i + 1)) (numbers ++ k ∷ [])
  numbers-push i k numbers count old new within j l e at h = elim (push-cases numbers k j l h) [
    | inl x ↦ let here = some-at es i within in number-stays es i l here.0 e.name here.1 (old j l e at x)
    | inr y ↦
        let same : j ≡ i = y.0 ∙ count in
        subst (λ (q : ℕ). IsNumbered es (class_names_to es (i + 1)) e.name q) (sym y.1) (new e (ap (slice_get es) (sym same) ∙ at))
  ]

  -- ---- the newest of each class

  in-class : (i : ℕ) (e : Entry) (n : Name) → slice_get es i ≡ Some e → same_class by_names es n e.name ≡ true → members_in es (take (i + 1) es) n ≡ members_in es (take i es) n ++ e ∷ []
  in-class i e n at t = rw (add-one, take_at es i e at)
      (filter-append (λ x. same_class by_names es n x.name) (take i es) (e ∷ []) ∙ ap (λ b. members_in es (take i es) n ++ cond b (e ∷ []) []) t)

  outside : (i : ℕ) (e : Entry) (n : Name) → slice_get es i ≡ Some e → same_class by_names es n e.name ≡ false → members_in es (take (i + 1) es) n ≡ members_in es (take i es) n
  outside i e n at f = rw (add-one, take_at es i e at)
      (filter-append (λ x. same_class by_names es n x.name) (take i es) (e ∷ []) ∙ (ap (λ b. members_in es (take i es) n ++ cond b (e ∷ []) []) f ∙ append-nil (members_in es (take i es) n)))

  newest-in : (i : ℕ) (e : Entry) (n m : Name) (b : Bool) → slice_get es i ≡ Some e → same_class by_names es n e.name ≡ true → m ≡ newest by_names n (members_in es (take i es) n)
      → by_names.is_newer e.name m ≡ b → newest by_names n (members_in es (take (i + 1) es) n) ≡ cond b e.name m
  newest-in i e n m b at t is new =
      ap (newest by_names n) (in-class i e n at t) ∙ (newest-push by_names n (members_in es (take i es) n) e
      ∙ (ap (λ x. cond (by_names.is_newer e.name x) e.name x) (sym is) ∙ ap (λ c. cond c e.name m) new))

  -- a class that has the entry is the one of its number
  one-number : (e : Entry) (k l : ℕ) (n : Name) → IsNumbered es (class_names by_names es) e.name k → slice_get (class_names by_names es) l ≡ Some n → same_class by_names es n e.name ≡ true → l ≡ k
  one-number e k l n w at t = one-position by_names es es l k n w.0 at w.1 (class-trans by_names es n e.name w.0 t (class-sym by_names es w.0 e.name w.2))

  of-number : (e : Entry) (k : ℕ) (n : Name) → IsNumbered es (class_names by_names es) e.name k → slice_get (class_names by_names es) k ≡ Some n → same_class by_names es n e.name ≡ true
  of-number e k n w at =
      let same : w.0 ≡ n = some-same w.0 n (sym w.1 ∙ at) in
      subst (λ (x : Name). same_class by_names es x e.name ≡ true) same w.2

  -- a name that is newer than the newest so far was not seen
  newer-first : (i : ℕ) (e : Entry) (n m : Name) → same_class by_names es n e.name ≡ true → m ≡ newest by_names n (members_in es (take i es) n) → by_names.is_newer e.name m ≡ true → IsFirstNamed es i e.name
  newer-first i e n m t is newer j d before at same =
      let inside : same_class by_names es n d.name ≡ true = ap (same_class by_names es n) same ∙ t in
      let asked = asked-in (λ (x : Entry). same_class by_names es n x.name) (take i es) j d (taken-at es i j d before at) inside in
      false≢true (sym (newest-each n (members_in es (take i es) n) d.name asked) ∙ (ap (λ x. by_names.is_newer d.name x) (sym is) ∙ (ap (λ x. by_names.is_newer x m) same ∙ newer)))

  -- the entry at i of class k, whose newest entry so far is that at p
  pub newer : (i k p : ℕ) (e a : Entry) (positions : List ℕ) → slice_get es i ≡ Some e → slice_get es p ≡ Some a → slice_get positions k ≡ Some p → IsNumbered es (class_names by_names es) e.name k
      → by_names.is_newer e.name a.name ≡ true → AreNewest es (take i es) positions → AreNewest es (take (i + 1) es) (set positions k i)
  newer i k p e a positions at pat kat w t old l q n nat qat = elim (set-cases positions k i l q qat) [
    | inl x ↦
        let here : slice_get (class_names by_names es) k ≡ Some n = ap (slice_get (class_names by_names es)) (sym x.0) ∙ nat in
        let o = old k p n here kat in
        let same : o.0 ≡ a = some-same o.0 a (sym o.1 ∙ pat) in
        let is : a.name ≡ newest by_names n (members_in es (take i es) n) = ap (λ (y : Entry). y.name) (sym same) ∙ o.2 in (
          e,
          ap (slice_get es) x.1 ∙ at,
          sym (newest-in i e n a.name true at (of-number e k n w here) is t),
          subst (λ (r : ℕ). IsFirstNamed es r e.name) (sym x.1) (newer-first i e n a.name (of-number e k n w here) is t),
        )
    | inr x ↦ elim (cases_Bool (same_class by_names es n e.name)) [
      | inl h ↦ absurd (x.0 (one-number e k l n w nat h))
      | inr f ↦ let o = old l q n nat x.1 in (o.0, o.1, o.2 ∙ sym (ap (newest by_names n) (outside i e n at f)), o.3)
    ]
  ]

  pub not-newer : (i k p : ℕ) (e a : Entry) (positions : List ℕ) → slice_get es i ≡ Some e → slice_get es p ≡ Some a → slice_get positions k ≡ Some p → IsNumbered es (class_names by_names es) e.name k
      → by_names.is_newer e.name a.name ≡ false → AreNewest es (take i es) positions → AreNewest es (take (i + 1) es) positions
  not-newer i k p e a positions at pat kat w t old l q n nat qat =
      let o = old l q n nat qat in
      elim (cases_Bool (same_class by_names es n e.name)) [
        | inl h ↦
            let one : l ≡ k = one-number e k l n w nat h in
            let here : q ≡ p = some-same q p (sym qat ∙ (ap (slice_get positions) one ∙ kat)) in
            let same : o.0 ≡ a = some-same o.0 a (sym o.1 ∙ (ap (slice_get es) here ∙ pat)) in
            (o.0, o.1, ap (λ (y : Entry). y.name) same ∙ sym (newest-in i e n a.name false at h (ap (λ (y : Entry). y.name) (sym same) ∙ o.2) t), o.3)
        | inr f ↦ (o.0, o.1, o.2 ∙ sym (ap (newest by_names n) (outside i e n at f)), o.3)
      ]

  -- ---- in the end

  all-names : class_names_to es (length es) ≡ class_names by_names es
  all-names = ap (names_of_classes by_names es) (take_all (length es) es (omega arith))

  pub numbered-all : (numbers : List ℕ) → HaveNumbers es (class_names_to es (length es)) numbers → HaveNumbers es (class_names by_names es) numbers
  numbered-all numbers h = subst (λ (ms : List Name). HaveNumbers es ms numbers) all-names h

  pub positioned-all : (firsts : List ℕ) → length firsts ≡ length (class_names_to es (length es)) → length firsts ≡ length (class_names by_names es)
  positioned-all firsts h = h ∙ ap length all-names

  pub begins-all : (keys : List (Name × Unit {0})) (firsts : List ℕ) → AreKeyed es (class_names_to es (length es)) keys firsts → AreNewest es [] firsts
  begins-all keys firsts a k p n nat pat = a.begins k p n (ap (λ ms. slice_get ms k) all-names ∙ nat) pat

  found-both : (o : Option ℕ) (b : Bool) → is_some o ≡ b → IsSome o ↔ (b ≡ true)
  found-both o b e = ((λ s. sym e ∙ s), (λ t. e ∙ t))

  pub are-classes : (numbers positions : List ℕ) (names : List (Name × ℕ)) → length numbers ≡ length es → HaveNumbers es (class_names by_names es) numbers
      → AreFound es (class_names_to es (length es)) (take (length es) es) names → length positions ≡ length (class_names by_names es) → AreNewest es es positions
      → AreClasses by_names es numbers positions names
  are-classes numbers positions names count have found positioned best = record {
    counted = count;
    numbered = λ i k e at h. have i k e at h;
    told_apart = λ i j k l a b at bt kt lt.
        let w = have i k a at kt in
        let v = have j l b bt lt in (
          (λ same.
              let one : w.0 ≡ v.0 = some-same w.0 v.0 (sym w.1 ∙ (ap (slice_get (class_names by_names es)) same ∙ v.1)) in
              class-trans by_names es a.name w.0 b.name (class-sym by_names es w.0 a.name w.2) (subst (λ (m : Name). same_class by_names es m b.name ≡ true) (sym one) v.2)),
          (λ t. one-position by_names es es k l w.0 v.0 w.1 v.1 (class-trans by_names es w.0 a.name v.0 w.2 (class-trans by_names es a.name b.name v.0 t (class-sym by_names es v.0 b.name v.2)))),
        );
    positioned = positioned;
    greatest = λ k p n nat pat. let w = best k p n nat pat in (w.0, w.1, w.2);
    first = λ k p n nat pat. let w = best k p n nat pat in subst (IsFirstNamed es p) w.2 w.3;
    found = λ n. found-both (find_name names n) (is_asked es n) (found.found n ∙ ap (λ s. is_asked s n) (take_all (length es) es (omega arith)));
    classed = λ n k h. subst (λ (ms : List Name). IsNumbered es ms n k) all-names (found.numbered n k h);
  }
