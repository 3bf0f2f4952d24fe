-- Names that are joined.
use Rattle.std.proofs.Common.{◌≡◌, ℕ, zero, suc, ◌+◌, ◌<◌, List, [], ◌∷◌, ◌++◌, ◌⊎◌, inl, inr, length, map, slice_get, Some, refl, sym, ap, ◌∙◌, take, add-one, string_bytes, Global, append_assoc, arith}
use Rattle.std.proofs.lemmas.List.{map-append}
use Rattle.std.specs.declared.string.String.{String}
use Rattle.wac_types_shapes.specs.primitives.Name.{Name}
use Rattle.wac_types_shapes.proofs.lemmas.shapes.Names.{take_at}
use Rattle.wac_merge_classes.specs.entries.Agreement.{joined}
use Rattle.wac_merge_classes.proofs.lemmas.terms.Found.{no_some}

-- one more name
pub joined_more : (names : List Name) (n : Name) → 0 < length names → joined (names ++ n ∷ []) ≡ joined names ++ 47 ∷ n
joined_more [] n some = absurd (omega (arith, some))
joined_more (m ∷ []) n some = refl
joined_more (m ∷ l ∷ names) n some = ap (λ r. m ++ 47 ∷ r) (joined_more (l ∷ names) n (omega arith)) ∙ sym (append_assoc m (47 ∷ joined (l ∷ names)) (47 ∷ n))

names_next : (names : List Name) (n old mid : Name) → old ≡ joined names → ((0 < length names) × (mid ≡ old ++ 47 ∷ [])) ⊎ ((names ≡ []) × (mid ≡ old)) → mid ++ n ≡ joined (names ++ n ∷ [])
names_next names n old mid e (inl h) =
    ap (λ m. m ++ n) (h.1 ∙ ap (λ o. o ++ 47 ∷ []) e) ∙ (append_assoc (joined names) (47 ∷ []) n ∙ sym (joined_more names n h.0))
names_next names n old mid e (inr h) = ap (λ m. m ++ n) (h.1 ∙ e ∙ ap joined h.0) ∙ sym (ap (λ ns. joined (ns ++ n ∷ [])) h.0)

taken_some : (xs : List (String Global)) (i : ℕ) (x : String Global) → slice_get xs i ≡ Some x → 0 < i → 0 < length (map string_bytes (take i xs))
taken_some [] i x at some = absurd (no_some x at)
taken_some (y ∷ xs) zero x at some = absurd (omega (arith, some))
taken_some (y ∷ xs) (suc i) x at some = omega arith

taken_none : (xs : List (String Global)) (i : ℕ) → i ≡ 0 → map string_bytes (take i xs) ≡ []
taken_none [] zero e = refl
taken_none (y ∷ xs) zero e = refl
taken_none xs (suc i) e = absurd (omega (arith, e))

-- the next of several texts
pub joined_next : (xs : List (String Global)) (i : ℕ) (x : String Global) (old mid : Name) → slice_get xs i ≡ Some x → old ≡ joined (map string_bytes (take i xs)) → ((0 < i) × (mid ≡ old ++ 47 ∷ [])) ⊎ ((i ≡ 0) × (mid ≡ old))
    → mid ++ string_bytes x ≡ joined (map string_bytes (take (i + 1) xs))
joined_next xs i x old mid at e way = rw (add-one, take_at xs i x at, map-append string_bytes (take i xs) (x ∷ [])) (names_next (map string_bytes (take i xs)) (string_bytes x) old mid e (on way)) where
  on : ((0 < i) × (mid ≡ old ++ 47 ∷ [])) ⊎ ((i ≡ 0) × (mid ≡ old)) → ((0 < length (map string_bytes (take i xs))) × (mid ≡ old ++ 47 ∷ [])) ⊎ ((map string_bytes (take i xs) ≡ []) × (mid ≡ old))
  on (inl h) = inl (taken_some xs i x at h.0, h.1)
  on (inr h) = inr (taken_none xs i h.0, h.1)
