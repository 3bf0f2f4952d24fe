-- A map from positions to numbers. Only contracts inside the merge cite this file.
use Rattle.std.specs.Prelude.{ℕ, ◌≡◌, ◌<◌, ◌≤◌, cond, nat_eq, List, Option, Some, None, slice_get}
use Rattle.wac_types_shapes.specs.primitives.Name.{option_case}
use Rattle.wac_merge_tables.specs.declared.tables.rounds.Put.{Put}

-- The number at a position.
abbrev pub number_at : List (Option ℕ) → ℕ → Option ℕ
number_at ns k = option_case (slice_get ns k) None (λ o. o)

-- A number that was put in this round.
abbrev pub number_in : ℕ → Put → Option ℕ
number_in round p = cond (nat_eq p.round round) (Some p.number) None

-- The round is at least 1, and no number is of a later round.
pub record IsTimely (puts : List Put) (round : ℕ) : Type 0 where
  pub begun : 0 < round
  pub past : (k : ℕ) (p : Put) → slice_get puts k ≡ Some p → p.round ≤ round
