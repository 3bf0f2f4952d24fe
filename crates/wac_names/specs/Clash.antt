-- Which two names clash (Explainer.md, "Import and Export Definitions").
use Rattle.std.specs.Prelude.{◌≡◌, ◌⊎◌, ℕ, List, ◌∷◌, ◌++◌, map, Option, Some, None}
use Rattle.std.specs.Char.{to_ascii_lowercase}
use Rattle.wac_names.specs.Kind.{Kind, constructor, hash, interface, joined, label, locked, method, static, unlocked, url}
use Rattle.wac_names.specs.Grammar.{HasKind}

-- A plain name without its bracketed prefix: labels, constructors, methods and static functions are plain.
unfoldable pub plain : Kind → Option (List ℕ)
plain (label l) = Some l
plain (constructor r) = Some r
plain (method r n) = Some (r ++ 46 ∷ n)
plain (static r n) = Some (r ++ 46 ∷ n)
plain (interface p i v) = None
plain (unlocked p r) = None
plain (locked p v h) = None
plain (url u h) = None
plain (hash h) = None

-- A text in lower case.
abbrev pub lowered : List ℕ → List ℕ
lowered text = map to_ascii_lowercase text

-- A label, and the constructor of the same label.
abbrev pub IsItsConstructor : Kind → Kind → Type 0
IsItsConstructor j k = (l : List ℕ) × (j ≡ label l) × (k ≡ constructor l)

-- P of two plain names, and Q of any others.
abbrev pub BothPlain : Option (List ℕ) → Option (List ℕ) → (List ℕ → List ℕ → Type 0) → Type 0 → Type 0
BothPlain (Some x) (Some y) P Q = P x y
BothPlain (Some x) None P Q = Q
BothPlain None y P Q = Q

-- Two plain names clash if they are equal without prefixes and in lower case, unless they are a label and its own
-- constructor. Other names clash if their texts are equal.
abbrev pub KindsClash : Kind → Kind → Type 0
KindsClash j k =
    BothPlain (plain j) (plain k)
    (λ x y. (lowered x ≡ lowered y) × ¬ (IsItsConstructor j k ⊎ IsItsConstructor k j))
    (joined j ≡ joined k)

-- Both texts are names, and they clash.
pub record Clash (s t : List ℕ) : Type 0 where
  pub one : Kind
  pub other : Kind
  pub of_one : HasKind s one
  pub of_other : HasKind t other
  pub clash : KindsClash one other
