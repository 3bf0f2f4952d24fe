-- Resources in parts inside others, from those in the outermost parts.
use Rattle.std.proofs.Common.{◌≡◌, ℕ, zero, suc, ◌<◌, List, Option, Some, None, slice_get, refl, ap, ◌∙◌, arith}
use Rattle.wac_types_shapes.specs.primitives.Name.{option_case}
use Rattle.wac_types_collection.specs.collection.Collection.{Collection, item_at}
use Rattle.wac_types_collection.specs.collection.Held.{Names}
use Rattle.wac_types_collection.specs.collection.Bound.{Bindings, inside_interface}
use Rattle.wac_types_shapes.specs.declared.shapes.component.Interface.{Interface}
use Rattle.wac_types_collection.specs.subtyping.Called.{Called, by_binding}
use Rattle.wac_merge_classes.specs.terms.Unions.{AreAround}
use Rattle.wac_merge_classes.specs.declared.terms.parts.Part.{Part}
use Rattle.wac_merge_trees.proofs.lemmas.trees.UnionTreesParts.{AreNested}

module _ {L : Type 0} where
  -- in a part that lies in at most so many: in an outermost one as is given, else what its interface makes of what is around
  abbrev pub names_to : ℕ → Collection → List Part → (Interface → Names L → Names L) → (Part → Names L) → ℕ → Names L
  names_to zero c ps inner outermost p = λ r. None
  names_to (suc k) c ps inner outermost p = option_case (slice_get ps p) (λ r. None) (λ x.
      option_case x.outer (outermost x) (λ o. option_case (item_at c.interfaces x.interface.0) (λ r. None) (λ it. inner it (names_to k c ps inner outermost o))))

  -- in each part
  abbrev pub names_in_parts : Collection → List Part → (Interface → Names L → Names L) → (Part → Names L) → ℕ → Names L
  names_in_parts c ps inner outermost p = names_to (suc p) c ps inner outermost p

  module _ (c : Collection) (ps : List Part) (inner : Interface → Names L → Names L) (outermost : Part → Names L) where
    pub outermost_names : (p : ℕ) (x : Part) → slice_get ps p ≡ Some x → x.outer ≡ None → names_in_parts c ps inner outermost p ≡ outermost x
    outermost_names p x at outer =
        ap (λ o. option_case o (λ r. None) (λ (y : Part). option_case y.outer (outermost y) (λ q. option_case (item_at c.interfaces y.interface.0) (λ r. None) (λ it. inner it (names_to p c ps inner outermost q))))) at
        ∙ ap (λ o. option_case o (outermost x) (λ q. option_case (item_at c.interfaces x.interface.0) (λ r. None) (λ it. inner it (names_to p c ps inner outermost q)))) outer

    -- at any two depths that are enough
    same_depth : AreAround ps → (k l p : ℕ) → p < k → p < l → names_to k c ps inner outermost p ≡ names_to l c ps inner outermost p
    same_depth around zero l p a b = absurd (omega (arith, a))
    same_depth around (suc k) zero p a b = absurd (omega (arith, b))
    same_depth around (suc k) (suc l) p a b = by (slice_get ps p) refl (λ o lt. same_depth around k l o (omega (arith, lt, a)) (omega (arith, lt, b))) where
      in_part : (x : Part) (o : Option ℕ) → ((q : ℕ) → o ≡ Some q → q < p) → ((q : ℕ) → q < p → names_to k c ps inner outermost q ≡ names_to l c ps inner outermost q)
          → option_case o (outermost x) (λ q. option_case (item_at c.interfaces x.interface.0) (λ r. None) (λ it. inner it (names_to k c ps inner outermost q)))
          ≡ option_case o (outermost x) (λ q. option_case (item_at c.interfaces x.interface.0) (λ r. None) (λ it. inner it (names_to l c ps inner outermost q)))
      in_part x None lower rest = refl
      in_part x (Some q) lower rest = ap (λ n. option_case (item_at c.interfaces x.interface.0) (λ r. None) (λ it. inner it n)) (rest q (lower q refl))

      by : (o : Option Part) → slice_get ps p ≡ o → ((q : ℕ) → q < p → names_to k c ps inner outermost q ≡ names_to l c ps inner outermost q)
          → option_case o (λ r. None) (λ x. option_case x.outer (outermost x) (λ q. option_case (item_at c.interfaces x.interface.0) (λ r. None) (λ it. inner it (names_to k c ps inner outermost q))))
          ≡ option_case o (λ r. None) (λ x. option_case x.outer (outermost x) (λ q. option_case (item_at c.interfaces x.interface.0) (λ r. None) (λ it. inner it (names_to l c ps inner outermost q))))
      by None at rest = refl
      by (Some x) at rest = in_part x x.outer (λ q is. around p q x at is) rest

    pub inner_names : AreAround ps → (p o : ℕ) (x : Part) (it : Interface) → slice_get ps p ≡ Some x → x.outer ≡ Some o → item_at c.interfaces x.interface.0 ≡ Some it
        → names_in_parts c ps inner outermost p ≡ inner it (names_in_parts c ps inner outermost o)
    inner_names around p o x it at outer is =
        ap (λ y. option_case y (λ r. None) (λ (z : Part). option_case z.outer (outermost z) (λ q. option_case (item_at c.interfaces z.interface.0) (λ r. None) (λ j. inner j (names_to p c ps inner outermost q))))) at
        ∙ (ap (λ y. option_case y (outermost x) (λ q. option_case (item_at c.interfaces x.interface.0) (λ r. None) (λ j. inner j (names_to p c ps inner outermost q)))) outer
        ∙ (ap (λ y. option_case y (λ r. None) (λ j. inner j (names_to p c ps inner outermost o))) is
        ∙ ap (inner it) (same_depth around p (suc o) o (around p o x at outer) (omega arith))))

-- where resources are bound in each part, and what they are called there
abbrev pub places_in : Collection → List Part → (Part → Bindings) → ℕ → Bindings
places_in c ps outermost = names_in_parts c ps (inside_interface c) outermost

abbrev pub calls_in : Collection → List Part → (Part → Names Called) → ℕ → Names Called
calls_in c ps outermost = names_in_parts c ps (λ it m. (by_binding c).in_instance it m) outermost

pub are_nested : (c : Collection) (ps : List Part) (placed : Part → Bindings) (named : Part → Names Called) → AreAround ps → AreNested c ps (places_in c ps placed) (calls_in c ps named)
are_nested c ps placed named around p o x it at outer is =
    (inner_names c ps (inside_interface c) placed around p o x it at outer is, inner_names c ps (λ it m. (by_binding c).in_instance it m) named around p o x it at outer is)
