-- Texts as lists of bytes.
use Rattle.std.specs.Prelude.{ℕ, Bool, true, false, ◌==◌, ◌&&◌, ◌||◌, if◌then◌else◌, List, [], ◌∷◌, length, drop}

-- The byte is in the text.
unfoldable pub has : ℕ → List ℕ → Bool
has c [] = false
has c (b ∷ rest) = (b == c) || has c rest

-- The text before the first such byte; the whole text if there is none.
unfoldable pub before : ℕ → List ℕ → List ℕ
before c [] = []
before c (b ∷ rest) = if b == c then [] else b ∷ before c rest

-- The text after the first such byte; nothing if there is none.
unfoldable pub after : ℕ → List ℕ → List ℕ
after c [] = []
after c (b ∷ rest) = if b == c then rest else after c rest

-- The text begins with another.
unfoldable pub begins : List ℕ → List ℕ → Bool
begins [] text = true
begins (p ∷ front) [] = false
begins (p ∷ front) (b ∷ rest) = (b == p) && begins front rest

-- The text after that with which it begins.
abbrev pub behind : List ℕ → List ℕ → List ℕ
behind front text = drop (length front) text

-- The text ends with the byte.
unfoldable pub ends : ℕ → List ℕ → Bool
ends c [] = false
ends c (b ∷ []) = b == c
ends c (b ∷ d ∷ rest) = ends c (d ∷ rest)

-- The text without its last byte.
unfoldable pub front : List ℕ → List ℕ
front [] = []
front (b ∷ []) = []
front (b ∷ d ∷ rest) = b ∷ front (d ∷ rest)

-- The text is empty.
abbrev pub is_empty : List ℕ → Bool
is_empty [] = true
is_empty (b ∷ rest) = false
