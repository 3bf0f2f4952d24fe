-- What a function returns, against what reading the bytes gives.
use Rattle.std.specs.Prelude.{◌≡◌, ℕ, zero, suc, ◌*◌, Result, Ok, Err}
use Rattle.wac_component.specs.declared.fault.TextFault.{TextFault}
use Rattle.wac_reader_parts.specs.declared.fault.ReadFault.{ReadFault}
use Rattle.wac_reader_parts.specs.declared.fault.ReadFault.TheVariants as errors

-- The fault is that of reading, unless memory ran out.
abbrev pub Fails : {Y : Type 0} → ReadFault → Result Y TextFault → Type 0
Fails errors.Memory read = Unit {0}
Fails (errors.Text f left) read = read ≡ Err f

-- What was returned, seen by a view, is what reading gives, unless memory ran out.
abbrev pub Gives : {X Y : Type 0} → (X → Y) → Result X ReadFault → Result Y TextFault → Type 0
Gives view (Ok x) read = read ≡ Ok (view x)
Gives view (Err e) read = Fails e read

-- What a number is below that has at most this many bytes before its last, which is below `last`.
abbrev pub bound : (last : ℕ) → ℕ → ℕ
bound last zero = last
bound last (suc k) = 128 * bound last k
