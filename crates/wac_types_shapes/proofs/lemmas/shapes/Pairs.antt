-- Values under a module and a name.
use Rattle.std.proofs.Common.{ℕ, ◌≡◌, ◌<◌, ◌∙◌, refl, sym, ap, Bool, false, ◌&&◌, cond, List, [], ◌∷◌, length, slice_get, Some, None}
use Rattle.std.proofs.lemmas.Map.Entries.{place_from_lookup, lookup_from_place}
use Rattle.std.proofs.lemmas.Option.{slice_get_within}
use Rattle.std.specs.Cmp.Lexicographic.{pointwise}
use Rattle.std.specs.declared.string.String.{String}
use Rattle.std.specs.List.{AllByRecursion, IsDistinct}
use Rattle.std.specs.Map.{lookup, keys_of}
use Rattle.std.specs.String.{string_eq}
use Rattle.wac_types_shapes.specs.primitives.Name.{same_name}
use Rattle.wac_types_shapes.specs.shapes.Imports.{Pair, same_pair, find_import, NoImportTwice, same_key, same_key-true, key_equiv, pair_of, by_pairs, same_import}
use Rattle.wac_types_shapes.proofs.lemmas.shapes.Keyed.{lookup_seen, nothing_seen}
use Rattle.wac_types_shapes.proofs.lemmas.shapes.EqualLemmas.{pointwise_seen}
use Rattle.wac_types_shapes.proofs.lemmas.shapes.Names.{both_cond, same_name-bytes_eq, passes_over}

-- keys are compared as the texts of both
same_key-is : (p q : Pair) → same_key p q ≡ same_pair p.0 p.1 q
same_key-is p q = (λ i. same_name-bytes_eq p.0 q.0 i && same_name-bytes_eq p.1 q.1 i) ∙ both_cond (same_name p.0 q.0) (same_name p.1 q.1)

module _ {V : Type 0} where
  -- what stands under a module and a name is what a look-up of the key finds
  found_by_key : (es : List (Pair × V)) (p : Pair) → lookup (same_key p) es ≡ find_import es p.0 p.1
  found_by_key [] p = refl
  found_by_key (e ∷ es) p = (λ i. cond (same_key-is p e.0 i) (Some e.1) (found_by_key es p i))

  pub found_by_pairs : {A : Type 0} (p : Pair) (es : List ((String A × String A) × V)) → lookup (λ k. same_key p (pair_of k)) es ≡ find_import (by_pairs es) p.0 p.1
  found_by_pairs p es = lookup_seen pair_of _ (same_key p) (λ k. refl) es ∙ found_by_key (by_pairs es) p

  -- where no key of a map stands twice, no name of a module does
  pub once_by_pairs : {A : Type 0} (es : List ((String A × String A) × V)) → IsDistinct (λ x y. string_eq x.0 y.0 && string_eq x.1 y.1) (keys_of es) → NoImportTwice (by_pairs es)
  unfolding IsDistinct
  once_by_pairs [] d = tt
  once_by_pairs (e ∷ es) d =
      (sym (found_by_key (by_pairs es) (pair_of e.0)) ∙ nothing_seen pair_of _ (same_key (pair_of e.0)) (λ k. refl) es d.0, once_by_pairs es d.1)

  -- a comparison of maps is one of what stands in them
  pub compared_by_pairs : {A : Type 0} (E : V → V → Bool) (es gs : List ((String A × String A) × V)) → pointwise (λ p q. (string_eq p.0.0 q.0.0 && string_eq p.0.1 q.0.1) && E p.1 q.1) es gs ≡ pointwise (same_import E) (by_pairs es) (by_pairs gs)
  compared_by_pairs E es gs = pointwise_seen (λ e. (pair_of e.0, e.1)) _ (same_import E) (λ a b. refl) es gs

  -- where no name of a module stands twice, no key does
  apart : (test : Pair → Bool) (es : List (Pair × V)) → lookup test es ≡ None → AllByRecursion (λ k. test k ≡ false) (keys_of es)
  apart test [] h = tt
  apart test (e ∷ es) h = let b = passes_over (test e.0) e.1 (lookup test es) h in (b.0, apart test es b.1)

  distinct : (es : List (Pair × V)) → NoImportTwice es → IsDistinct same_key (keys_of es)
  unfolding IsDistinct
  distinct [] once = tt
  distinct (e ∷ es) once = (apart (same_key e.0) es (found_by_key es e.0 ∙ once.0), distinct es once.1)

  -- where no name of a module stands twice, the entry at a position is the one under its names
  pub import_at : (es : List (Pair × V)) (j : ℕ) (p : Pair) (v : V) → NoImportTwice es → slice_get es j ≡ Some (p, v) → find_import es p.0 p.1 ≡ Some v
  import_at es j p v once h = sym (found_by_key es p) ∙ lookup_from_place key_equiv es j p v (distinct es once) h

  -- where what is found under a module and a name stands
  pub import_position : (es : List (Pair × V)) (p : Pair) (v : V) → find_import es p.0 p.1 ≡ Some v → (j : ℕ) × (j < length es) × (slice_get es j ≡ Some (p, v))
  import_position es p v h =
      let r = place_from_lookup (same_key p) es v (found_by_key es p ∙ h) in
      (r.0, slice_get_within es r.0 (r.1, v) r.2, r.2 ∙ ap (λ q. Some (q, v)) (sym (same_key-true p r.1 r.3)))
