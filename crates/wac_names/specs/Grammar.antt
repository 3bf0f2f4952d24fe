-- The grammar of component names. A text has a kind if the grammar allows pieces that make the text
-- (Explainer.md, "Import and Export Definitions").
-- Bytes: 32 is a space, 43 is `+`, 47 is `/`, 60 is `<`, 61 is `=`, 62 is `>`, 63 is `?`.
use Rattle.std.specs.Prelude.{◌≡◌, ◌==◌, ℕ, ◌≤◌, Bool, false, ◌&&◌, ◌||◌, not, is_ok, List, [], ◌∷◌, ◌++◌, codes, IsTrue, IfSome, ◌⊎◌, replicate}
use Rattle.std.specs.Char.{is_ascii_alphanumeric, is_ascii_graphic}
use Rattle.std.specs.List.{AllByRecursion, join_with_byte, list_all}
use Rattle.semver.specs.Parse.{version_parts}
use Rattle.wac_names.specs.Label.{IsLabel, IsLowerLabel, IsSomeOf}
use Rattle.wac_names.specs.Text.{has}
use Rattle.wac_names.specs.Kind.{Kind, Package, Range, any, at_least, below, between, constructor, hash, interface, joined, label, locked, method, static, unlocked, url}

-- The text is a semantic version.
abbrev pub is_version : List ℕ → Bool
is_version text = is_ok (version_parts text)

-- The text is a semantic version, as a proposition.
abbrev pub IsVersion : List ℕ → Type 0
IsVersion text = IsTrue (is_version text)

-- A package is two lower-case labels.
abbrev pub IsPackage : Package → Type 0
IsPackage p = IsLowerLabel p.namespace × IsLowerLabel p.name

-- The bounds of a range are semantic versions.
abbrev pub IsRange : Range → Type 0
IsRange any = Unit {0}
IsRange (at_least low) = IsVersion low
IsRange (below high) = IsVersion high
IsRange (between low high) = IsVersion low × IsVersion high

-- The byte is a letter, a digit, `+` or `/`.
abbrev pub is_base64 : ℕ → Bool
is_base64 b = is_ascii_alphanumeric b || ((b == 43) || (b == 47))

-- The byte is one of `!` to `~`, except `<` and `>`.
abbrev pub is_option_byte : ℕ → Bool
is_option_byte b = is_ascii_graphic b && (not (b == 60) && not (b == 62))

-- The options of a hash item: nothing, or `?` and any bytes from `!` to `~` except `<` and `>`.
abbrev pub IsOptions : List ℕ → Type 0
IsOptions text = (text ≡ []) ⊎ ((rest : List ℕ) × (text ≡ 63 ∷ rest) × IsTrue (list_all is_option_byte rest))

-- One of the three algorithms of a hash, with its dash.
abbrev pub IsAlgorithm : List ℕ → Type 0
IsAlgorithm text = (text ≡ codes "sha256-") ⊎ ((text ≡ codes "sha384-") ⊎ (text ≡ codes "sha512-"))

-- A hash item: the algorithm, one or more letters, digits, `+` and `/`, at most two `=`, and options.
pub record IsHashItem (text : List ℕ) : Type 0 where
  pub algorithm : List ℕ
  pub digest : List ℕ
  pub padding : ℕ
  pub options : List ℕ
  pub known : IsAlgorithm algorithm
  pub encoded : IsSomeOf is_base64 digest
  pub padded : padding ≤ 2
  pub optional : IsOptions options
  pub makes : algorithm ++ (digest ++ (replicate padding 61 ++ options)) ≡ text

-- A hash is one or more items, separated by one space.
abbrev pub IsHash : List ℕ → Type 0
IsHash text = (first : List ℕ) × (others : List (List ℕ)) × IsHashItem first × AllByRecursion IsHashItem others
    × (text ≡ join_with_byte 32 (first ∷ others))

-- A location is any text without `<` and `>`.
abbrev pub IsUrl : List ℕ → Type 0
IsUrl text = (has 60 text ≡ false) × (has 62 text ≡ false)

-- The grammar allows the pieces of the kind.
unfoldable pub IsKind : Kind → Type 0
IsKind (label l) = IsLabel l
IsKind (constructor r) = IsLabel r
IsKind (method r n) = IsLabel r × IsLabel n
IsKind (static r n) = IsLabel r × IsLabel n
IsKind (interface p i v) = IsPackage p × IsLabel i × IfSome v IsVersion
IsKind (unlocked p r) = IsPackage p × IfSome r IsRange
IsKind (locked p v h) = IsPackage p × IfSome v IsVersion × IfSome h IsHash
IsKind (url u h) = IsUrl u × IfSome h IsHash
IsKind (hash h) = IsHash h

-- The text has the kind: the grammar allows its pieces, and they make the text.
pub record HasKind (text : List ℕ) (kind : Kind) : Type 0 where
  pub allowed : IsKind kind
  pub makes : joined kind ≡ text
