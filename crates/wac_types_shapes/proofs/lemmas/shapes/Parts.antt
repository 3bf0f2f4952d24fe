-- Values under names in two lists, of which the second goes behind the first.
use Rattle.std.proofs.Common.{ℕ, suc, Bool, true, false, cond, ◌≡◌, ◌+◌, refl, sym, ap, ◌∙◌, subst, arith, List, [], ◌∷◌, ◌++◌, length, slice_get, drop, Option, Some, None, string_bytes}
use Rattle.std.proofs.lemmas.List.{length-map}
use Rattle.std.specs.declared.string.String.{String}
use Rattle.std.specs.List.{AllZip}
use Rattle.std.specs.Option.{option_map}
use Rattle.std.specs.Str.{bytes_eq}
use Rattle.wac_types_shapes.specs.primitives.Name.{Name, same_name, find_name, first_some}
use Rattle.wac_types_shapes.specs.shapes.Named.{by_bytes, named_at, NoNameTwice}
use Rattle.wac_types_shapes.proofs.lemmas.shapes.Loops.{drop_at}
use Rattle.wac_types_shapes.proofs.lemmas.shapes.Names.{NoNameTwice-push, same_name-bytes_eq}

-- clones of both lists
pub both_cloned : {A : Type 0} (R : A → A → Type 0) (xs us ys vs : List A) → AllZip R xs us → AllZip R ys vs → AllZip R (xs ++ ys) (us ++ vs)
both_cloned R [] [] ys vs h k = k
both_cloned R (x ∷ xs) (u ∷ us) ys vs h k = (h.0, both_cloned R xs us ys vs h.1 k)
both_cloned R _ _ ys vs h k = absurd h

abbrev at : {V : Type 0} → ℕ → V → Option (ℕ × V)
at i v = Some (i, v)

module _ {V : Type 0} where
  -- what stands under a name is what stands at its position
  pub found_from : (es : List (Name × V)) (i : ℕ) (n : Name) → find_name es n ≡ option_map (λ p. p.1) (named_at i n es)
  found_from [] i n = refl
  found_from (e ∷ es) i n = by (same_name n e.0) (found_from es (suc i) n)
    where
      by : (b : Bool) → find_name es n ≡ option_map (λ p. p.1) (named_at (suc i) n es) → cond b (Some e.1) (find_name es n) ≡ option_map (λ p. p.1) (cond b (at i e.1) (named_at (suc i) n es))
      by true later = refl
      by false later = later

  pub found_named : (es : List (Name × V)) (n : Name) → find_name es n ≡ option_map (λ p. p.1) (named_at 0 n es)
  found_named es n = found_from es 0 n

  -- a name is sought in the first list, and then in the second
  sought : (es rest : List (Name × V)) (i : ℕ) (n : Name) → named_at i n (es ++ rest) ≡ first_some (named_at i n es) (named_at (i + length es) n rest)
  sought [] rest i n = let start : i ≡ i + 0 = omega arith in ap (λ k. named_at k n rest) start
  sought (e ∷ es) rest i n = by (same_name n e.0) (sought es rest (suc i) n)
    where
      by : (b : Bool) → named_at (suc i) n (es ++ rest) ≡ first_some (named_at (suc i) n es) (named_at (suc i + length es) n rest)
          → cond b (at i e.1) (named_at (suc i) n (es ++ rest)) ≡ first_some (cond b (at i e.1) (named_at (suc i) n es)) (named_at (i + suc (length es)) n rest)
      by true later = refl
      by false later = let end : suc i + length es ≡ i + suc (length es) = omega arith in later ∙ ap (λ k. first_some (named_at (suc i) n es) (named_at k n rest)) end

  -- counted on from further on
  counted_on : (es : List (Name × V)) (i k : ℕ) (n : Name) → named_at (i + k) n es ≡ option_map (λ p. (k + p.0, p.1)) (named_at i n es)
  counted_on [] i k n = refl
  counted_on (e ∷ es) i k n = by (same_name n e.0) (counted_on es (suc i) k n)
    where
      by : (b : Bool) → named_at (suc i + k) n es ≡ option_map (λ p. (k + p.0, p.1)) (named_at (suc i) n es)
          → cond b (at (i + k) e.1) (named_at (suc (i + k)) n es) ≡ option_map (λ p. (k + p.0, p.1)) (cond b (at i e.1) (named_at (suc i) n es))
      by true later = let index : i + k ≡ k + i = omega arith in ap (λ j. at j e.1) index
      by false later = let next : suc (i + k) ≡ suc i + k = omega arith in ap (λ j. named_at j n es) next ∙ later

  pub named_in_both : {A : Type 0} (es : List (String A × V)) (rest : List (Name × V)) (n : Name) → named_at 0 n (by_bytes es ++ rest) ≡ first_some (named_at 0 n (by_bytes es)) (option_map (λ p. (length es + p.0, p.1)) (named_at 0 n rest))
  named_in_both es rest n =
      sought (by_bytes es) rest 0 n ∙ ap (λ k. first_some (named_at 0 n (by_bytes es)) (named_at (0 + k) n rest)) (length-map es (λ e. (string_bytes e.0, e.1)))
      ∙ ap (first_some (named_at 0 n (by_bytes es))) (counted_on rest 0 (length es) n)

  pub found_in_both : (es rest : List (Name × V)) (n : Name) → find_name (es ++ rest) n ≡ first_some (find_name es n) (find_name rest n)
  found_in_both [] rest n = refl
  found_in_both (e ∷ es) rest n = by (same_name n e.0) (found_in_both es rest n)
    where
      by : (b : Bool) → find_name (es ++ rest) n ≡ first_some (find_name es n) (find_name rest n) → cond b (Some e.1) (find_name (es ++ rest) n) ≡ first_some (cond b (Some e.1) (find_name es n)) (find_name rest n)
      by true later = refl
      by false later = later

  -- a new name behind both lists
  pub once_behind : (both old new : List (Name × V)) (n : Name) (v : V) → both ≡ old → NoNameTwice both → find_name old n ≡ None → new ≡ old ++ (n, v) ∷ [] → NoNameTwice new
  once_behind both old new n v all once none is =
      let P : List (Name × V) → Type 0 = λ es. NoNameTwice es in
      subst P (sym is) (NoNameTwice-push old n v (subst P all once) none)

  -- the search of a list, one further on
  pub search_more : (all : List (Name × V)) (i : ℕ) (n k : Name) (v : V) (b : Bool) → slice_get all i ≡ Some (k, v) → bytes_eq n k ≡ b → named_at i n (drop i all) ≡ named_at 0 n all
      → cond b (Some (i, v)) (named_at (suc i) n (drop (suc i) all)) ≡ named_at 0 n all
  search_more all i n k v b there is so_far =
      ap (λ c. cond c (Some (i, v)) (named_at (suc i) n (drop (suc i) all))) (sym is ∙ same_name-bytes_eq n k) ∙ sym (ap (named_at i n) (drop_at all i (k, v) there)) ∙ so_far
