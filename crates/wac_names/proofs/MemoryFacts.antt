-- A part of a text without a byte has none either.
use Rattle.std.proofs.Common.{◌≡◌, ℕ, ◌==◌, false, List, [], ◌∷◌, None, refl, inl, inr}
use Rattle.std.proofs.lemmas.Bool.{cases_Bool, or_from, or_parts}
use Rattle.wac_names.specs.Text.{before, behind, front, has}
use Rattle.wac_names.specs.Reading.{version_piece}

pub has_behind : (c : ℕ) (start text : List ℕ) → has c text ≡ false → has c (behind start text) ≡ false
unfolding has
has_behind c [] text h = h
has_behind c (s ∷ start) [] h = refl
has_behind c (s ∷ start) (b ∷ rest) h = has_behind c start rest (or_parts (b == c) (has c rest) h).1

pub has_front : (c : ℕ) (text : List ℕ) → has c text ≡ false → has c (front text) ≡ false
unfolding has front
has_front c [] h = refl
has_front c (b ∷ []) h = refl
has_front c (b ∷ d ∷ rest) h = let p = or_parts (b == c) (has c (d ∷ rest)) h in or_from (b == c) _ p.0 (has_front c (d ∷ rest) p.1)

pub has_part : (c d : ℕ) (text : List ℕ) → has c text ≡ false → has c (before d text) ≡ false
unfolding has before
has_part c d [] h = refl
has_part c d (b ∷ rest) h =
    let p = or_parts (b == c) (has c rest) h in
    elim (cases_Bool (b == d)) [
      | inl same ↦ rw same refl
      | inr other ↦ rw other (or_from (b == c) _ p.0 (has_part c d rest p.1))
    ]

pub no_piece : (text : List ℕ) → has 64 text ≡ false → version_piece text ≡ None
unfolding version_piece
no_piece text h = rw h refl
