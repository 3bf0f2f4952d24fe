-- When `==` on strings, names and values by name is true.
use Rattle.std.specs.Prelude.{Bool, List, ◌&&◌, nat_eq}
use Rattle.std.specs.Cmp.{IsEquivalence, IsPartialEquivalence, on_per, on_equiv, and_per, and_equiv, partial_equiv_from_equiv}
use Rattle.std.specs.Cmp.Lexicographic.{pointwise, nat_list_eq_equiv, lists_per, lists_equiv}
use Rattle.wac_types_shapes.specs.primitives.Name.{Name}

-- Strings are equal if their bytes are.
abbrev pub same_text : Name → Name → Bool
same_text = pointwise nat_eq

-- Equality of strings is an equivalence.
pub text_equiv : IsEquivalence same_text
text_equiv = nat_list_eq_equiv

-- Labels are equal if they have the same names in the same order.
abbrev pub same_labels : List Name → List Name → Bool
same_labels = pointwise same_text

-- Equality of labels is an equivalence.
pub labels_equiv : IsEquivalence same_labels
labels_equiv = lists_equiv text_equiv

module _ {V : Type 0} where
  -- Values by name are equal if they have the same names in the same order, with equal values.
  abbrev pub same_named : (V → V → Bool) → List (Name × V) → List (Name × V) → Bool
  same_named E = pointwise (λ a b. same_text a.0 b.0 && E a.1 b.1)

  -- Equality of values by name is a partial equivalence if equality of values is.
  pub named_per : {E : V → V → Bool} → IsPartialEquivalence E → IsPartialEquivalence (same_named E)
  named_per laws = lists_per (and_per (on_per (λ e. e.0) (partial_equiv_from_equiv text_equiv)) (on_per (λ e. e.1) laws))

  -- Equality of values by name is an equivalence if equality of values is.
  pub named_equiv : {E : V → V → Bool} → IsEquivalence E → IsEquivalence (same_named E)
  named_equiv laws = lists_equiv (and_equiv (on_equiv (λ e. e.0) text_equiv) (on_equiv (λ e. e.1) laws))
