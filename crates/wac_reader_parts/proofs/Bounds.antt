-- Bounds of numbers.
use Rattle.std.proofs.Common.{◌≡◌, ℕ, zero, suc, ◌-◌, ◌*◌, ◌<◌, ◌≤◌, ap, arith}
use Rattle.wac_reader_parts.specs.private.Gives.{bound}

pub bound_low : (last k : ℕ) → 1 ≤ last → 1 ≤ bound last k
bound_low last zero h = h
bound_low last (suc k) h = omega (arith, bound_low last k h)

pub bound_high : (last k : ℕ) → 1 ≤ last → 0 < k → 128 ≤ bound last k
bound_high last zero h lt = absurd (omega arith)
bound_high last (suc k) h lt = omega (arith, bound_low last k h)

pub bound_down : (last k : ℕ) → 0 < k → bound last k ≡ 128 * bound last (k - 1)
bound_down last zero h = absurd (omega arith)
bound_down last (suc k) h = let e : k ≡ suc k - 1 = omega arith in ap (λ (j : ℕ). 128 * bound last j) e
