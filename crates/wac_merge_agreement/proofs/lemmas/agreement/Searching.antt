-- A search in a listing that is sorted.
use Rattle.std.proofs.Common.{◌≡◌, ℕ, zero, suc, ◌+◌, ◌<◌, ◌≤◌, List, [], ◌∷◌, ◌⊎◌, inl, inr, Option, Some, None, refl, ap, sym, ◌∙◌, subst, arith}
use Rattle.std.specs.Prelude.{slice_get}
use Rattle.std.specs.Ordering.{ordering_reverse}
use Rattle.std.specs.declared.cmp.Ordering.TheVariants.{Less, Equal, Greater}
use Rattle.std.specs.Cmp.Lexicographic.{nat_list_cmp_total}
use Rattle.std.specs.FinMap.{nat_cmp-IsAntisymmetric, slice_cmp-IsAntisymmetric}
use Rattle.wac_types_shapes.specs.primitives.Name.{Name, find_name}
use Rattle.wac_merge_tables.specs.private.tables.Nodes.{Sorted}
use Rattle.wac_merge_agreement.specs.private.agreement.Shapes.{compare, AreBefore, AreBehind}
use Rattle.wac_merge_classes.proofs.lemmas.terms.Found.{less_cases}
use Rattle.wac_merge_classes.proofs.lemmas.terms.Found.{some_same, one_some, no_some, find_at}
use Rattle.wac_merge_agreement.proofs.lemmas.agreeing.Comparing.{at_find, all_at, never_less}

module _ {V : Type 0} where
  sorted_pair : (es : List (Name × V)) (k l : ℕ) (e f : Name × V) → Sorted es → k < l → slice_get es k ≡ Some e → slice_get es l ≡ Some f → compare e.0 f.0 ≡ Less
  sorted_pair [] k l e f h less at also = absurd (no_some e at)
  sorted_pair (x ∷ es) k zero e f h less at also = absurd (omega (arith, less))
  sorted_pair (x ∷ es) zero (suc l) e f h less at also =
      subst (λ (z : Name × V). compare z.0 f.0 ≡ Less) (some_same x e at) (all_at (λ (z : Name × V). compare x.0 z.0 ≡ Less) es l f h.0 also)
  sorted_pair (x ∷ es) (suc k) (suc l) e f h less at also = sorted_pair es k l e f h.1 (omega (arith, less)) at also

  pub before_more : (es : List (Name × V)) (n : Name) (m : ℕ) (e : Name × V) → Sorted es → slice_get es m ≡ Some e → compare e.0 n ≡ Less → AreBefore es n (m + 1)
  before_more es n m e h at less k f low also = go (less_cases k m low) where
    go : (k < m) ⊎ (k ≡ m) → compare f.0 n ≡ Less
    go (inl lower) = nat_list_cmp_total.trans f.0 e.0 n (sorted_pair es k m f e h lower also at) less
    go (inr same) = subst (λ (z : Name × V). compare z.0 n ≡ Less) (one_some (slice_get es m) e f at (ap (slice_get es) (sym same) ∙ also)) less

  pub behind_more : (es : List (Name × V)) (n : Name) (m : ℕ) (e : Name × V) → Sorted es → slice_get es m ≡ Some e → compare e.0 n ≡ Greater → AreBehind es n m
  behind_more es n m e h at more k f high also = go (less_cases m k (omega (arith, high))) where
    less : compare n e.0 ≡ Less
    less = nat_list_cmp_total.antisymm n e.0 ∙ ap ordering_reverse more

    go : (m < k) ⊎ (m ≡ k) → compare n f.0 ≡ Less
    go (inl higher) = nat_list_cmp_total.trans n e.0 f.0 less (sorted_pair es m k e f h higher at also)
    go (inr same) = subst (λ (z : Name × V). compare n z.0 ≡ Less) (one_some (slice_get es m) e f at (ap (slice_get es) same ∙ also)) less

  pub found_here : (es : List (Name × V)) (n : Name) (m : ℕ) (e : Name × V) → Sorted es → slice_get es m ≡ Some e → compare e.0 n ≡ Equal → find_name es n ≡ Some e.1
  found_here es n m e h at equal =
      let name : e.0 ≡ n = slice_cmp-IsAntisymmetric nat_cmp-IsAntisymmetric e.0 n equal in
      subst (λ z. find_name es z ≡ Some e.1) name (at_find es m e.0 e.1 h at)

  pub found_nowhere : (es : List (Name × V)) (n : Name) (low high : ℕ) → AreBefore es n low → AreBehind es n high → high ≤ low → find_name es n ≡ None
  found_nowhere es n low high before behind over = go (find_name es n) refl where
    at_some : (x : V) (k : ℕ) → slice_get es k ≡ Some (n, x) → (k < low) ⊎ (low ≤ k) → ⊥
    at_some x k at (inl less) = never_less n (before k (n, x) less at)
    at_some x k at (inr more) = never_less n (behind k (n, x) (omega (arith, more, over)) at)

    side : (k l : ℕ) → (k < l) ⊎ (l ≤ k)
    side k zero = inr (omega arith)
    side zero (suc l) = inl (omega arith)
    side (suc k) (suc l) = elim (side k l) [
      | inl less ↦ inl (omega (arith, less))
      | inr more ↦ inr (omega (arith, more))
    ]

    go : (o : Option V) → find_name es n ≡ o → find_name es n ≡ None
    go None is = is
    go (Some x) is = let (k, at) = find_at es n x is in absurd (at_some x k at (side k low))
