-- Decimal numbers.
use Rattle.std.specs.Prelude.{◌≡◌, ◌<◌, ◌^◌, ℕ}
use Rattle.std.specs.Str.Parse.{IsNumeral, digits_value, without_leading_plus}
use Rattle.wac_script.specs.lines.Words.{Word}

-- The word is the number, which has at most so many bits: decimal digits, before which may be a `+`.
abbrev pub IsNumber : ℕ → Word → ℕ → Type 0
IsNumber bits word n = IsNumeral 10 (without_leading_plus word) × (n ≡ digits_value 10 (without_leading_plus word)) × (n < 2 ^ bits)
