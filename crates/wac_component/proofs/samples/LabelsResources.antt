-- Printed by print_parts.py.
use Rattle.std.proofs.Common.{◌≡◌, ℕ, List, [], ◌∷◌, Ok, codes, refl}
use Rattle.wac_binary.specs.declared.sorts.Description.TheVariants as e
use Rattle.wac_binary.specs.Items.{instance_def, decls, export_decl}
use Rattle.wac_component.specs.Parts.{type_part, import_part, parts}
use Rattle.wac_component.specs.Reading.{parts_of}
use Rattle.wac_component.proofs.Computing.{read}

-- labels-resources.wasm: 46 bytes
abbrev pub labels_resources_bytes : List ℕ
labels_resources_bytes = (codes "\0asm\r\0\u{1}\0\u{7}\t\u{1}B\u{1}\u{4}\0\u{1}r\u{3}\u{1}\n\u{19}\u{2}\0\u{7}primary\u{5}\0\0\tsecondary\u{5}\0")

pub labels_resources_parts : parts_of labels_resources_bytes ≡ Ok (parts ((type_part (instance_def (decls ((export_decl (codes "r") e.Fresh) ∷ [])))) ∷ (import_part (codes "primary") (e.Instance 0)) ∷ (import_part (codes "secondary") (e.Instance 0)) ∷ []))
unfolding read
labels_resources_parts = refl
