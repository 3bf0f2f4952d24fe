-- When the outer names of a component are valid.
use Rattle.std.specs.Prelude.{ℕ, ◌<◌, List, [], length, slice_index_or}
use Rattle.wac_names.specs.Clash.{Clash}
use Rattle.wac_names.specs.Grammar.{HasKind}
use Rattle.wac_names.specs.Kind.{Kind, IsExportable}

-- A text as its bytes.
abbrev pub Text : Type 0
Text = List ℕ

-- The text at a position of a list, in written order.
abbrev pub at : List Text → ℕ → Text
at names i = slice_index_or names i []

-- The text is a component name.
abbrev pub IsName : Text → Type 0
IsName text = (k : Kind) × HasKind text k

-- The text is a component name that can be exported: not a hash, a URL or a dependency.
abbrev pub IsExportName : Text → Type 0
IsExportName text = (k : Kind) × HasKind text k × IsExportable k

-- Each text of the list has the property P.
abbrev pub Each : (Text → Type 0) → List Text → Type 0
Each P names = (i : ℕ) → i < length names → P (at names i)

-- No two of the first n names clash.
abbrev pub AreApartTo : List Text → ℕ → Type 0
AreApartTo names n = (i j : ℕ) → i < j → j < n → ¬ Clash (at names i) (at names j)

-- No two names of the list clash.
abbrev pub AreApart : List Text → Type 0
AreApart names = AreApartTo names (length names)

-- All are component names, and no two clash.
pub record AreNames (names : List Text) : Type 0 where
  pub named : Each IsName names
  pub apart : AreApart names

-- A component can have these imports and exports.
pub record AreValid (imports exports : List Text) : Type 0 where
  pub imported : AreNames imports
  pub exported : AreNames exports
  pub exportable : Each IsExportName exports
