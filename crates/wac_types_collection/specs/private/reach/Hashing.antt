-- What the hasher of types computes. No public contract cites it.
use Rattle.std.specs.Prelude.{ℕ, ◌*◌, ◌%◌, ◌^◌, List, length, fold, nat_eq, if◌then◌else◌, bit_xor}
use Rattle.std.specs.Int.{w64, from_le_bytes, rotate_left, rotate_right}
use Rattle.wac_types_collection.specs.declared.reach.hasher.TypeHasher.{TypeHasher}

-- The state after a number is written.
abbrev pub step : TypeHasher → ℕ → TypeHasher
step h n = record { 0 = (bit_xor (rotate_left w64 h.0 32) (rotate_right w64 n 2) * 0x9e37_79b9_7f4a_7c15) % 2 ^ 64 }

-- The state after bytes are written: eight bytes are one number; otherwise each byte is one.
abbrev pub fed : TypeHasher → List ℕ → TypeHasher
fed h bytes = if nat_eq (length bytes) 8 then step h (from_le_bytes w64 bytes) else fold step h bytes
