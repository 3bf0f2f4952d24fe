-- Printed by print_parts.py.
use Rattle.std.proofs.Common.{◌≡◌, ℕ, List, [], ◌∷◌, None, Ok, codes, refl, false}
use Rattle.wac_binary.specs.declared.sorts.Sort.TheVariants as s
use Rattle.wac_binary.specs.Items.{func_def}
use Rattle.wac_component.specs.Parts.{func_sort, memory_sort, utf8, memory, realloc, lift, core_instantiate, core_export_alias, custom_part, module_part, core_instance_part, alias_part, type_part, canon_part, export_part, parts}
use Rattle.wac_component.specs.Reading.{parts_of}
use Rattle.wac_component.proofs.Computing.{read}

-- func.wasm: 238 bytes
abbrev pub func_bytes : List ℕ
func_bytes = (codes "\0asm\r\0\u{1}\0\u{1}d\0asm\u{1}\0\0\0\u{1}\u{11}\u{3}`\u{1}\u{7f}\u{1}\u{7f}`\u{4}\u{7f}\u{7f}\u{7f}\u{7f}\u{1}\u{7f}`\0\0\u{3}\u{4}\u{3}\0\u{1}\u{2}\u{5}\u{3}\u{1}\0\u{1}\u{7}-\u{4}\u{3}run\0\0\u{c}cabi_realloc\0\u{1}\u{b}_initialize\0\u{2}\u{6}memory\u{2}\0\n\r\u{3}\u{3}\0\0\u{b}\u{3}\0\0\u{b}\u{3}\0\0\u{b}\u{2}\u{4}\u{1}\0\0\0\u{6}\u{1d}\u{2}\0\u{2}\u{1}\0\u{6}memory\0\0\u{1}\0\u{c}cabi_realloc\u{7}\u{5}\u{1}@\0\u{1}\0\u{6}\t\u{1}\0\0\u{1}\0\u{3}run\u{8}\u{b}\u{1}\0\0\u{1}\u{3}\u{3}\0\u{4}\0\0\0\u{b}\t\u{1}\0\u{3}run\u{1}\0\0\0/\tproducers\u{1}\u{c}processed-by\u{1}\rwit-component\u{7}0.200.0")

pub func_parts : parts_of func_bytes ≡ Ok (parts ((module_part (codes "\0asm\u{1}\0\0\0\u{1}\u{11}\u{3}`\u{1}\u{7f}\u{1}\u{7f}`\u{4}\u{7f}\u{7f}\u{7f}\u{7f}\u{1}\u{7f}`\0\0\u{3}\u{4}\u{3}\0\u{1}\u{2}\u{5}\u{3}\u{1}\0\u{1}\u{7}-\u{4}\u{3}run\0\0\u{c}cabi_realloc\0\u{1}\u{b}_initialize\0\u{2}\u{6}memory\u{2}\0\n\r\u{3}\u{3}\0\0\u{b}\u{3}\0\0\u{b}\u{3}\0\0\u{b}")) ∷ (core_instance_part (core_instantiate 0 [])) ∷ (alias_part (core_export_alias memory_sort 0 (codes "memory"))) ∷ (alias_part (core_export_alias func_sort 0 (codes "cabi_realloc"))) ∷ (type_part (func_def false [] None)) ∷ (alias_part (core_export_alias func_sort 0 (codes "run"))) ∷ (canon_part (lift 1 ((memory 0) ∷ (realloc 0) ∷ utf8 ∷ []) 0)) ∷ (export_part (codes "run") s.Func 0 None) ∷ (custom_part (codes "producers") (codes "\u{1}\u{c}processed-by\u{1}\rwit-component\u{7}0.200.0")) ∷ []))
unfolding read
func_parts = refl
