-- Labels: fragments joined by `-`, which is byte 45.
use Rattle.std.specs.Prelude.{◌≡◌, ℕ, ◌<◌, Bool, false, ◌||◌, not, List, [], ◌∷◌, length, IsTrue, ◌⊎◌}
use Rattle.std.specs.Char.{is_ascii_alphabetic, is_ascii_digit, is_ascii_lowercase, is_ascii_uppercase}
use Rattle.std.specs.List.{AllByRecursion, join_with_byte, list_all}

-- The byte is a lower-case letter or a digit.
abbrev pub is_lower_or_digit : ℕ → Bool
is_lower_or_digit b = is_ascii_lowercase b || is_ascii_digit b

-- The byte is an upper-case letter or a digit.
abbrev pub is_upper_or_digit : ℕ → Bool
is_upper_or_digit b = is_ascii_uppercase b || is_ascii_digit b

-- The byte is not an upper-case letter.
abbrev pub not_upper : ℕ → Bool
not_upper b = not (is_ascii_uppercase b)

-- The text is one or more bytes that pass a test.
abbrev pub IsSomeOf : (ℕ → Bool) → List ℕ → Type 0
IsSomeOf test text = (0 < length text) × IsTrue (list_all test text)

-- A fragment is one or more of `a` to `z` and digits, or one or more of `A` to `Z` and digits.
abbrev pub IsFragment : List ℕ → Type 0
IsFragment text = IsSomeOf is_lower_or_digit text ⊎ IsSomeOf is_upper_or_digit text

-- The text begins with a letter.
abbrev pub begins_with_letter : List ℕ → Bool
begins_with_letter [] = false
begins_with_letter (b ∷ rest) = is_ascii_alphabetic b

-- A label is fragments joined by `-`, the first beginning with a letter.
abbrev pub IsLabel : List ℕ → Type 0
IsLabel text = (first : List ℕ) × (others : List (List ℕ)) × IsFragment first × IsTrue (begins_with_letter first)
    × AllByRecursion IsFragment others × (text ≡ join_with_byte 45 (first ∷ others))

-- A lower-case label is a label without upper-case letters.
abbrev pub IsLowerLabel : List ℕ → Type 0
IsLowerLabel text = IsLabel text × IsTrue (list_all not_upper text)
