-- The words of a line, as texts of bytes.
use Rattle.std.specs.Prelude.{◌≡◌, ◌<◌, ◌≢◌, ◌⊎◌, ℕ, List, [], ◌∷◌, ◌++◌, map, length}
use Rattle.std.specs.Borrow.{Bor}
use Rattle.std.specs.List.{AllByRecursion}
use Rattle.std.specs.Char.{is_whitespace, is_not_whitespace}
use Rattle.std.specs.Str.{NoCharPasses, EmptyOrStartsWithPassing}
use Rattle.std.specs.Str.Iter.{LacksByte}

-- A word, as its bytes.
abbrev pub Word : Type 0
Word = List ℕ

-- Borrowed words as their bytes.
abbrev pub spelled : List (Bor (List ℕ)) → List Word
spelled words = map (λ w. w.now) words

-- The text is white space, then this word, then the rest, which is empty or begins with white space.
pub record IsFirstWord (text gap word rest : List ℕ) : Type 0 where
  pub split : text ≡ gap ++ (word ++ rest)
  pub some : 0 < length word
  pub white : NoCharPasses is_not_whitespace gap
  pub dark : NoCharPasses is_whitespace word
  pub ends : (more : List ℕ) × EmptyOrStartsWithPassing is_whitespace rest more

-- The word begins a comment: its first byte is `#`.
abbrev pub BeginsComment : Word → Type 0
BeginsComment word = (rest : List ℕ) × (word ≡ 35 ∷ rest)

-- The words of a text, up to a comment.
pub data AreWords : List ℕ → List Word → Type 0 where
  none : (text : List ℕ) → NoCharPasses is_not_whitespace text → AreWords text []
  comment : (text gap word rest : List ℕ) → IsFirstWord text gap word rest → BeginsComment word → AreWords text []
  more : (text gap word rest : List ℕ) (words : List Word) → IsFirstWord text gap word rest → (BeginsComment word → ⊥) → AreWords rest words → AreWords text (word ∷ words)

-- The word is split at the first of a byte.
abbrev pub IsSplitAt : ℕ → Word → List ℕ → List ℕ → Type 0
IsSplitAt byte word before after = (word ≡ before ++ byte ∷ after) × LacksByte byte before

-- The word is `NAME=WORD`: it is split at its first `=` (61).
abbrev pub IsPair : Word → List ℕ → List ℕ → Type 0
IsPair word name value = IsSplitAt 61 word name value

-- The word has no `=`.
abbrev pub HasNoPair : Word → Type 0
HasNoPair word = LacksByte 61 word

-- The word is `LABEL.NAME`: it is split at its first `.` (46).
abbrev pub IsDotted : Word → List ℕ → List ℕ → Type 0
IsDotted word label name = IsSplitAt 46 word label name

-- The word has no `.`.
abbrev pub HasNoDot : Word → Type 0
HasNoDot word = LacksByte 46 word

-- The word does not begin with the prefix.
abbrev pub HasNoPrefix : List ℕ → Word → Type 0
HasNoPrefix prefix word = (rest : List ℕ) → word ≢ prefix ++ rest

-- The words are split at the first that is the mark; all are before it if none is.
abbrev pub AreHalves : List Word → Word → List Word → List Word → Type 0
AreHalves words mark before after =
    AllByRecursion (λ word. word ≢ mark) before × ((words ≡ before ++ mark ∷ after) ⊎ ((words ≡ before) × (after ≡ [])))

-- The words take the old value to the new one, each by a step, in order.
abbrev pub WordByWord : {S : Type 0} → (Word → S → S → Type 0) → List Word → S → S → Type 0
WordByWord Step [] old new = new ≡ old
WordByWord {S = S} Step (word ∷ words) old new = (mid : S) × Step word old mid × WordByWord Step words mid new
