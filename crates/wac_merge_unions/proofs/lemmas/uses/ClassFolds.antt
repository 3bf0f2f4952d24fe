-- What is known of each class by its members, as far as entries were seen.
use Rattle.std.proofs.Common.{◌≡◌, ℕ, suc, true, cond, List, [], ◌∷◌, ◌++◌, map, take, zero, slice_get, Some, refl, sym, ap, ◌∙◌, subst, inl, inr}
use Rattle.std.proofs.Math.ListN.{set}
use Rattle.std.proofs.lemmas.Bool.{cases_Bool}
use Rattle.std.proofs.lemmas.List.{append-nil}
use Rattle.wac_types_shapes.specs.primitives.Name.{Name}
use Rattle.wac_merge_classes.specs.entries.Classes.{Entry, by_names, class_names, same_class}
use Rattle.wac_merge_classes.specs.private.entries.Numbering.{IsNumbered, members_in}
use Rattle.wac_merge_classes.proofs.lemmas.entries.ClassFacts.{class-sym, class-trans, one-position}
use Rattle.wac_merge_classes.proofs.lemmas.entries.ClassPaths.{members-more}
use Rattle.wac_merge_classes.proofs.lemmas.terms.Found.{no_some, some_same}
use Rattle.wac_merge_classes.proofs.lemmas.entries.Lists.{set-cases}

-- what stands in a mapped list comes from the list
pub mapped_at : {A B : Type 0} (f : A → B) (xs : List A) (i : ℕ) (y : B) → slice_get (map f xs) i ≡ Some y → (x : A) × (slice_get xs i ≡ Some x) × (f x ≡ y)
mapped_at f [] i y at = absurd (no_some y at)
mapped_at f (x ∷ xs) zero y at = (x, refl, some_same (f x) y at)
mapped_at f (x ∷ xs) (suc i) y at = mapped_at f xs i y at

module _ {A B : Type 0} (view : B → A) (F : Name → List Entry → A) (es : List Entry) where
  -- what each class has is what its members give that were seen
  abbrev pub HaveFolded : List Entry → List B → Type 0
  HaveFolded seen vs = (k : ℕ) (n : Name) (v : B) → slice_get (class_names by_names es) k ≡ Some n → slice_get vs k ≡ Some v → view v ≡ F n (members_in es seen n)

  -- the entry at i of the class with the number k, which has one more
  pub folded-more : (i k : ℕ) (e : Entry) (vs : List B) (old new : B) → slice_get es i ≡ Some e → IsNumbered es (class_names by_names es) e.name k → slice_get vs k ≡ Some old
      → ((n : Name) (xs : List Entry) → slice_get (class_names by_names es) k ≡ Some n → view old ≡ F n xs → view new ≡ F n (xs ++ e ∷ []))
      → HaveFolded (take i es) vs → HaveFolded (take (suc i) es) (set vs k new)
  folded-more i k e vs old new at w there step have l n v nat vat = elim (set-cases vs k new l v vat) [
    | inl x ↦
        let here : slice_get (class_names by_names es) k ≡ Some n = ap (slice_get (class_names by_names es)) (sym x.0) ∙ nat in
        let name : w.0 ≡ n = some_same w.0 n (sym w.1 ∙ here) in
        let inside : same_class by_names es n e.name ≡ true = subst (λ (y : Name). same_class by_names es y e.name ≡ true) name w.2 in
        ap view x.1 ∙ step n (members_in es (take i es) n) here (have k n old here there)
        ∙ sym (ap (F n) (members-more es i e n at ∙ ap (λ b. members_in es (take i es) n ++ cond b (e ∷ []) []) inside))
    | inr x ↦ elim (cases_Bool (same_class by_names es n e.name)) [
      | inl h ↦ absurd (x.0 (one-position by_names es es l k n w.0 nat w.1 (class-trans by_names es n e.name w.0 h (class-sym by_names es w.0 e.name w.2))))
      | inr f ↦ have l n v nat x.1
          ∙ sym (ap (F n) (members-more es i e n at ∙ ap (λ b. members_in es (take i es) n ++ cond b (e ∷ []) []) f ∙ append-nil (members_in es (take i es) n)))
    ]
  ]
