-- The printed lines.
use Rattle.std.specs.Prelude.{◌≡◌, ℕ, List, [], ◌∷◌, ◌++◌, codes, Option, ◌⊎◌}
use Rattle.std.specs.Io.KnownBytes.{Appends}
use Rattle.hex.specs.Hex.{encode_lower}
use Rattle.wac_demo.specs.Composed.{AreDefault, Compose, IsComposed, IsPrecedence, precedence_word}

-- A text with a newline.
abbrev pub line_of : List ℕ → List ℕ
line_of text = text ++ 10 ∷ []

-- Bytes in lower-case hexadecimal with a newline.
abbrev pub hex_line : List ℕ → List ℕ
hex_line bytes = line_of (encode_lower bytes)

-- The line for the match of `precedence` that is passed over.
abbrev pub passed_line : List ℕ
passed_line = line_of (codes "passed over: my:second a a")

-- The text is the line of the word's composition. For `precedence` the match that is passed over follows.
pub data IsPrinted (word text : List ℕ) : Type 0 where
  one_line : (bytes : List ℕ) → IsComposed word bytes → text ≡ hex_line bytes → IsPrinted word text
  of_precedence : (bytes : List ℕ) → word ≡ precedence_word → Compose bytes AreDefault IsPrecedence → text ≡ hex_line bytes ++ passed_line → IsPrinted word text

-- The line for a word without a composition.
abbrev pub unknown_line : List ℕ
unknown_line = line_of (codes "unknown composition")

-- The status is 3, or it is the given one and the text was printed.
abbrev pub Prints : List ℕ → ℕ → ℕ → Option (List ℕ) → Option (List ℕ) → Type 0
Prints text wanted status old new = (status ≡ 3) ⊎ ((status ≡ wanted) × Appends old new text)
