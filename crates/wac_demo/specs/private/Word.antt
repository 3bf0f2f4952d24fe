-- The word given by the program's arguments.
use Rattle.std.specs.Prelude.{ℕ, List, [], ◌∷◌, codes, string_bytes}
use Rattle.std.specs.declared.string.String.{String}

-- The second argument, after the program's name; `readme` if there is none, and the empty text if there are more.
abbrev pub word_of : {A : Type 0} → List (String A) → List ℕ
word_of [] = codes "readme"
word_of (program ∷ []) = codes "readme"
word_of (program ∷ word ∷ []) = string_bytes word
word_of _ = []
