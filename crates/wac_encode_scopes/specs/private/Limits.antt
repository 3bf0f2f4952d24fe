-- What does not fit 32 bits. Only contracts inside the encoder cite this file.
use Rattle.std.specs.Prelude.{◌^◌, ◌<◌, Option, Some, Result, Ok, Err}
use Rattle.wac_binary.specs.declared.fault.BinaryFault.{BinaryFault}
use Rattle.wac_binary.specs.declared.fault.BinaryFault.TheVariants.{TooLarge, OutOfMemory}
use Rattle.wac_encode_stacks.specs.Scopes.{Where, at_export}

-- The index of the instance fits in 32 bits, if the place is an export.
abbrev pub IsShortPlace : Option Where → Type 0
IsShortPlace (Some (at_export j n)) = j < 2 ^ 32
IsShortPlace w = Unit {0}

-- The fault is `TooLarge`; then the answer of a call.
abbrev pub IsLarge : BinaryFault → Type 0
IsLarge TooLarge = Unit {0}
IsLarge OutOfMemory = ⊥

abbrev pub IsTooLarge : {T : Type 0} → Result T BinaryFault → Type 0
IsTooLarge (Ok x) = ⊥
IsTooLarge (Err e) = IsLarge e
