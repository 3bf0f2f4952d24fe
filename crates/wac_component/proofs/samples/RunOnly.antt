-- Printed by print_parts.py.
use Rattle.std.proofs.Common.{◌≡◌, ℕ, List, [], ◌∷◌, Some, None, Ok, codes, refl, false}
use Rattle.wac_binary.specs.declared.types.ComponentValType.TheVariants.{Index}
use Rattle.wac_binary.specs.declared.sorts.Sort.TheVariants as s
use Rattle.wac_binary.specs.declared.sorts.Description.TheVariants as e
use Rattle.wac_binary.specs.Items.{result_def, value_def, func_def}
use Rattle.wac_component.specs.Parts.{func_sort, memory_sort, utf8, memory, realloc, lift, core_instantiate, core_export_alias, custom_part, module_part, core_instance_part, component_part, instantiate_part, alias_part, type_part, canon_part, import_part, export_part, parts}
use Rattle.wac_component.specs.Reading.{parts_of}
use Rattle.wac_component.proofs.Computing.{read}

-- run-only.wasm: 383 bytes
abbrev pub run_only_bytes : List ℕ
run_only_bytes = (codes "\0asm\r\0\u{1}\0\u{1}w\0asm\u{1}\0\0\0\u{1}\u{11}\u{3}`\u{1}\u{7f}\u{1}\u{7f}`\u{4}\u{7f}\u{7f}\u{7f}\u{7f}\u{1}\u{7f}`\0\0\u{3}\u{4}\u{3}\0\u{1}\u{2}\u{5}\u{3}\u{1}\0\u{1}\u{7}@\u{4}\u{16}wasi:cli/run@0.2.0#run\0\0\u{c}cabi_realloc\0\u{1}\u{b}_initialize\0\u{2}\u{6}memory\u{2}\0\n\r\u{3}\u{3}\0\0\u{b}\u{3}\0\0\u{b}\u{3}\0\0\u{b}\u{2}\u{4}\u{1}\0\0\0\u{6}\u{1d}\u{2}\0\u{2}\u{1}\0\u{6}memory\0\0\u{1}\0\u{c}cabi_realloc\u{7}\u{8}\u{2}j\0\0@\0\0\0\u{6}\u{1c}\u{1}\0\0\u{1}\0\u{16}wasi:cli/run@0.2.0#run\u{8}\u{b}\u{1}\0\0\u{1}\u{3}\u{3}\0\u{4}\0\0\u{1}\u{4}?\0asm\r\0\u{1}\0\u{7}\u{8}\u{2}j\0\0@\0\0\0\n\u{14}\u{1}\0\u{f}import-func-run\u{1}\u{1}\u{7}\u{8}\u{2}j\0\0@\0\0\u{2}\u{b}\u{b}\u{1}\0\u{3}run\u{1}\0\u{1}\u{1}\u{3}\u{5}\u{16}\u{1}\0\0\u{1}\u{f}import-func-run\u{1}\0\u{b}\u{18}\u{1}\0\u{12}wasi:cli/run@0.2.0\u{5}\0\0\0/\tproducers\u{1}\u{c}processed-by\u{1}\rwit-component\u{7}0.200.0")

pub run_only_parts : parts_of run_only_bytes ≡ Ok (parts ((module_part (codes "\0asm\u{1}\0\0\0\u{1}\u{11}\u{3}`\u{1}\u{7f}\u{1}\u{7f}`\u{4}\u{7f}\u{7f}\u{7f}\u{7f}\u{1}\u{7f}`\0\0\u{3}\u{4}\u{3}\0\u{1}\u{2}\u{5}\u{3}\u{1}\0\u{1}\u{7}@\u{4}\u{16}wasi:cli/run@0.2.0#run\0\0\u{c}cabi_realloc\0\u{1}\u{b}_initialize\0\u{2}\u{6}memory\u{2}\0\n\r\u{3}\u{3}\0\0\u{b}\u{3}\0\0\u{b}\u{3}\0\0\u{b}")) ∷ (core_instance_part (core_instantiate 0 [])) ∷ (alias_part (core_export_alias memory_sort 0 (codes "memory"))) ∷ (alias_part (core_export_alias func_sort 0 (codes "cabi_realloc"))) ∷ (type_part (value_def (result_def None None))) ∷ (type_part (func_def false [] (Some (Index 0)))) ∷ (alias_part (core_export_alias func_sort 0 (codes "wasi:cli/run@0.2.0#run"))) ∷ (canon_part (lift 1 ((memory 0) ∷ (realloc 0) ∷ utf8 ∷ []) 1)) ∷ (component_part (parts ((type_part (value_def (result_def None None))) ∷ (type_part (func_def false [] (Some (Index 0)))) ∷ (import_part (codes "import-func-run") (e.Func 1)) ∷ (type_part (value_def (result_def None None))) ∷ (type_part (func_def false [] (Some (Index 2)))) ∷ (export_part (codes "run") s.Func 0 (Some (e.Func 3))) ∷ []))) ∷ (instantiate_part 0 (((codes "import-func-run"), s.Func, 0) ∷ [])) ∷ (export_part (codes "wasi:cli/run@0.2.0") s.Instance 0 None) ∷ (custom_part (codes "producers") (codes "\u{1}\u{c}processed-by\u{1}\rwit-component\u{7}0.200.0")) ∷ []))
unfolding read
run_only_parts = refl
