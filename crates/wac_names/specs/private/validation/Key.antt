-- The key of a name. Names that clash have the same key, and of three names with the same key two clash.
-- Bytes: 46 is `.`, 61 is `=`.
use Rattle.std.specs.Prelude.{◌≡◌, ◌∷◌, Option, Some, None}
use Rattle.wac_names.specs.Clash.{lowered, plain}
use Rattle.wac_names.specs.Grammar.{HasKind}
use Rattle.wac_names.specs.Kind.{Kind}
use Rattle.wac_names.specs.validation.Valid.{Text}

-- The key of a plain name is `.` and the name in lower case; the key of any other name is `=` and its text.
abbrev pub keyed : Option Text → Text → Text
keyed (Some said) text = 46 ∷ lowered said
keyed None text = 61 ∷ text

-- The text is a name with this key.
pub record HasKey (text key : Text) : Type 0 where
  pub kind : Kind
  pub named : HasKind text kind
  pub is : keyed (plain kind) text ≡ key
