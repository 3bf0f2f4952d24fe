-- Where no instance has a class's name, the entry at the class's position is its first member.
use Rattle.std.proofs.Common.{◌≡◌, ℕ, zero, suc, ◌<◌, Bool, true, false, cond, List, [], ◌∷◌, filter, slice_get, Some, refl, sym, ap, ◌∙◌, inl, inr, arith}
use Rattle.std.proofs.lemmas.Bool.{false≢true, false_from_ne_true}
use Rattle.wac_types_shapes.specs.primitives.Name.{Name}
use Rattle.wac_merge_classes.specs.entries.Classes.{AreClasses, Entry, by_names, canonical, class_names, members, names_instance, same_class}
use Rattle.wac_merge_classes.proofs.lemmas.entries.ClassFacts.{class-of_same, class-parts}
use Rattle.wac_merge_classes.proofs.lemmas.terms.Found.{no_some, some_same}
use Rattle.wac_merge_imports.proofs.lemmas.fitting.MergedBindingsClasses.{filter-at, newest-has}

-- the first that passes stands first
head-passes : (f : Entry → Bool) (xs : List Entry) (p : ℕ) (x e : Entry) (more : List Entry) → slice_get xs p ≡ Some x → f x ≡ true → ((j : ℕ) (d : Entry) → j < p → slice_get xs j ≡ Some d → f d ≡ true → ⊥) → filter f xs ≡ e ∷ more → x ≡ e
head-passes f [] p x e more at t none is = absurd (no_some x at)
head-passes f (y ∷ xs) zero x e more at t none is =
    let same : y ≡ x = some_same y x at in
    let passes : y ∷ filter f xs ≡ e ∷ more = sym (ap (λ b. cond b (y ∷ filter f xs) (filter f xs)) (ap f same ∙ t)) ∙ is in
    let heads : y ≡ e = cc in
    sym same ∙ heads
head-passes f (y ∷ xs) (suc p) x e more at t none is =
    let fails : f y ≡ false = false_from_ne_true (f y) (none 0 y (omega arith) refl) in
    head-passes f xs p x e more at t (λ j d before there h. none (suc j) d (omega (arith, before)) there h)
    (sym (ap (λ b. cond b (y ∷ filter f xs) (filter f xs)) fails) ∙ is)

module _ (es : List Entry) (class : Name) (plain : names_instance es class ≡ false) where
  -- the class is of one name
  one-name : (n : Name) → same_class by_names es class n ≡ true → n ≡ class
  one-name n one = elim (class-parts by_names es class n one) [
    | inl same ↦ sym same
    | inr o ↦ absurd (false≢true (sym plain ∙ o.first))
  ]

  one-canonical : canonical by_names es class ≡ class
  one-canonical = newest-has (λ (n : Name). n ≡ class) class (members by_names es class) refl (λ j e at. one-name e.name (filter-at (λ (x : Entry). same_class by_names es class x.name) es j e at).0)

  pub first-member : (numbers positions : List ℕ) (names : List (Name × ℕ)) → AreClasses by_names es numbers positions names → (k p : ℕ) (x e : Entry) (more : List Entry)
      → slice_get (class_names by_names es) k ≡ Some class → slice_get positions k ≡ Some p → slice_get es p ≡ Some x → members by_names es class ≡ e ∷ more → x ≡ e
  first-member numbers positions names classes k p x e more numbered placed at is =
      let g = classes.greatest k p class numbered placed in
      let same : g.0 ≡ x = some_same g.0 x (sym g.1 ∙ at) in
      let name : x.name ≡ class = ap (λ (y : Entry). y.name) (sym same) ∙ (g.2 ∙ one-canonical) in
      head-passes (λ (y : Entry). same_class by_names es class y.name) es p x e more at (class-of_same by_names es class x.name (sym name))
      (λ j d before there h. classes.first k p class numbered placed j d before there (one-name d.name h ∙ sym one-canonical)) is
