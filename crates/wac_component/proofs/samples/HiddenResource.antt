-- Printed by print_parts.py.
use Rattle.std.proofs.Common.{◌≡◌, ℕ, List, [], ◌∷◌, None, Ok, codes, refl, false}
use Rattle.wac_types_shapes.specs.declared.primitives.core_types.CoreType.TheVariants as c
use Rattle.wac_binary.specs.declared.types.ComponentValType.TheVariants.{Index}
use Rattle.wac_binary.specs.declared.sorts.Sort.TheVariants as s
use Rattle.wac_binary.specs.Items.{own_def, value_def, func_def}
use Rattle.wac_component.specs.Parts.{func_sort, lift, core_instantiate, resource_def, core_export_alias, module_part, core_instance_part, alias_part, type_part, resource_part, canon_part, export_part, parts}
use Rattle.wac_component.specs.Reading.{parts_of}
use Rattle.wac_component.proofs.Computing.{read}

-- hidden-resource.wasm: 110 bytes
abbrev hidden_resource_bytes : List ℕ
hidden_resource_bytes = (codes "\0asm\r\0\u{1}\0\u{7}\u{4}\u{1}?\u{7f}\0\u{1}/\0asm\u{1}\0\0\0\u{1}\u{5}\u{1}`\u{1}\u{7f}\0\u{3}\u{2}\u{1}\0\u{5}\u{3}\u{1}\0\u{1}\u{7}\u{e}\u{2}\u{1}x\0\0\u{6}memory\u{2}\0\n\u{5}\u{1}\u{3}\0\0\u{b}\u{2}\u{4}\u{1}\0\0\0\u{7}\u{3}\u{1}i\0\u{6}\u{7}\u{1}\0\0\u{1}\0\u{1}x\u{7}\u{8}\u{1}@\u{1}\u{1}x\u{1}\u{1}\0\u{8}\u{6}\u{1}\0\0\0\0\u{2}\u{b}\u{7}\u{1}\0\u{1}f\u{1}\0\0")

pub hidden_resource_parts : parts_of hidden_resource_bytes ≡ Ok (parts ((resource_part (resource_def c.I32 None)) ∷ (module_part (codes "\0asm\u{1}\0\0\0\u{1}\u{5}\u{1}`\u{1}\u{7f}\0\u{3}\u{2}\u{1}\0\u{5}\u{3}\u{1}\0\u{1}\u{7}\u{e}\u{2}\u{1}x\0\0\u{6}memory\u{2}\0\n\u{5}\u{1}\u{3}\0\0\u{b}")) ∷ (core_instance_part (core_instantiate 0 [])) ∷ (type_part (value_def (own_def 0))) ∷ (alias_part (core_export_alias func_sort 0 (codes "x"))) ∷ (type_part (func_def false (((codes "x"), (Index 1)) ∷ []) None)) ∷ (canon_part (lift 0 [] 2)) ∷ (export_part (codes "f") s.Func 0 None) ∷ []))
unfolding read
hidden_resource_parts = refl
