-- Printed by print_parts.py.
use Rattle.std.proofs.Common.{◌≡◌, ℕ, List, [], ◌∷◌, None, Ok, codes, refl, false}
use Rattle.wac_binary.specs.declared.types.ComponentValType.TheVariants.{Index}
use Rattle.wac_binary.specs.declared.sorts.Sort.TheVariants as s
use Rattle.wac_binary.specs.declared.sorts.Description.TheVariants as e
use Rattle.wac_binary.specs.Items.{own_def, export_alias, value_def, func_def, instance_def, decls, type_decl, export_decl}
use Rattle.wac_component.specs.Parts.{component_alias, alias_part, type_part, import_part, export_part, parts}
use Rattle.wac_component.specs.Reading.{parts_of}
use Rattle.wac_component.proofs.Computing.{read}

-- reexport.wasm: 78 bytes
abbrev pub reexport_bytes : List ℕ
reexport_bytes = (codes "\0asm\r\0\u{1}\0\u{7}\u{1a}\u{1}B\u{4}\u{4}\0\u{1}r\u{3}\u{1}\u{1}i\0\u{1}@\u{1}\u{1}x\u{1}\u{1}\0\u{4}\0\u{1}f\u{1}\u{2}\n\n\u{1}\0\u{5}n:p/i\u{5}\0\u{b}\u{b}\u{1}\0\u{5}n:p/i\u{5}\0\0\u{6}\u{6}\u{1}\u{3}\0\0\u{1}r\u{b}\u{7}\u{1}\0\u{1}r\u{3}\u{1}\0")

pub reexport_parts : parts_of reexport_bytes ≡ Ok (parts ((type_part (instance_def (decls ((export_decl (codes "r") e.Fresh) ∷ (type_decl (value_def (own_def 0))) ∷ (type_decl (func_def false (((codes "x"), (Index 1)) ∷ []) None)) ∷ (export_decl (codes "f") (e.Func 2)) ∷ [])))) ∷ (import_part (codes "n:p/i") (e.Instance 0)) ∷ (export_part (codes "n:p/i") s.Instance 0 None) ∷ (alias_part (component_alias (export_alias s.«Type» 0 (codes "r")))) ∷ (export_part (codes "r") s.«Type» 1 None) ∷ []))
unfolding read
reexport_parts = refl
