-- Printed by print_parts.py.
use Rattle.std.proofs.Common.{◌≡◌, ℕ, List, [], ◌∷◌, None, Ok, codes, refl, false}
use Rattle.wac_binary.specs.declared.sorts.Description.TheVariants as e
use Rattle.wac_binary.specs.Items.{func_def}
use Rattle.wac_component.specs.Parts.{type_part, import_part, parts}
use Rattle.wac_component.specs.Reading.{parts_of}
use Rattle.wac_component.proofs.Computing.{read}

-- padded.wasm: 33 bytes
abbrev pub padded_bytes : List ℕ
padded_bytes = (codes "\0asm\r\0\u{1}\0\u{7}\u{87}\0\u{81}\0@\u{80}\0\u{1}\0\u{7}\u{5}\u{1}@\0\u{1}\0\n\u{6}\u{1}\0\u{1}x\u{1}\u{1}")

pub padded_parts : parts_of padded_bytes ≡ Ok (parts ((type_part (func_def false [] None)) ∷ (type_part (func_def false [] None)) ∷ (import_part (codes "x") (e.Func 1)) ∷ []))
unfolding read
padded_parts = refl
