-- Worked examples: which items fit 32-bit sizes.
use Rattle.std.specs.Prelude.{ℕ, ◌<◌, ◌≤◌, ◌^◌, List, [], ◌∷◌, length}
use Rattle.std.proofs.Common.{arith}
use Rattle.wac_binary.specs.Fits.{Fits}
use Rattle.wac_binary.specs.Items.{Item, nested}

-- where items fit, the bytes of a package that they begin with do
nested_fits : (bytes : List ℕ) (items : List Item) → Fits (nested bytes ∷ items) → length bytes < 2 ^ 32
nested_fits bytes [] fits = fits.sections_fit.0.size
nested_fits bytes (i ∷ items) fits = fits.sections_fit.0.size

-- a package of 2 ^ 32 bytes or more does not fit, whatever is written after it
no_large_package : (bytes : List ℕ) (items : List Item) → 2 ^ 32 ≤ length bytes → Fits (nested bytes ∷ items) → ⊥
no_large_package bytes items large fits = let small = nested_fits bytes items fits in absurd (omega (arith, large, small))
