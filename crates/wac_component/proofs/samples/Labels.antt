-- Printed by print_parts.py.
use Rattle.std.proofs.Common.{◌≡◌, ℕ, List, [], ◌∷◌, None, Ok, codes, refl, false}
use Rattle.wac_binary.specs.declared.types.ComponentValType.TheVariants.{Index}
use Rattle.wac_binary.specs.declared.sorts.Sort.TheVariants as s
use Rattle.wac_binary.specs.declared.sorts.Description.TheVariants as e
use Rattle.wac_binary.specs.Items.{enum_def, export_alias, value_def, func_def, instance_def, decls, type_decl, export_decl}
use Rattle.wac_component.specs.Parts.{func_sort, table_sort, memory_sort, utf8, memory, realloc, lower, core_instantiate, core_exports, component_alias, core_export_alias, custom_part, module_part, core_instance_part, alias_part, type_part, canon_part, import_part, parts}
use Rattle.wac_component.specs.Reading.{parts_of}
use Rattle.wac_component.proofs.Computing.{read}

-- labels.wasm: 608 bytes
abbrev pub labels_bytes : List ℕ
labels_bytes = (codes "\0asm\r\0\u{1}\0\u{7},\u{1}B\u{4}\u{1}m\u{2}\u{5}debug\u{4}info\u{4}\0\u{5}level\u{3}\0\0\u{1}@\u{1}\u{1}l\u{1}\u{1}\0\u{4}\0\u{3}log\u{1}\u{2}\n\u{c}\u{1}\0\u{7}primary\u{5}\0\u{7},\u{1}B\u{4}\u{1}m\u{2}\u{5}debug\u{4}info\u{4}\0\u{5}level\u{3}\0\0\u{1}@\u{1}\u{1}l\u{1}\u{1}\0\u{4}\0\u{3}log\u{1}\u{2}\n\u{e}\u{1}\0\tsecondary\u{5}\u{1}\u{1}z\0asm\u{1}\0\0\0\u{1}\u{11}\u{3}`\u{2}\u{7f}\u{7f}\0`\u{4}\u{7f}\u{7f}\u{7f}\u{7f}\u{1}\u{7f}`\0\0\u{2}\u{1f}\u{2}\u{7}primary\u{3}log\0\0\tsecondary\u{3}log\0\0\u{3}\u{3}\u{2}\u{1}\u{2}\u{5}\u{3}\u{1}\0\u{1}\u{7}'\u{3}\u{c}cabi_realloc\0\u{2}\u{b}_initialize\0\u{3}\u{6}memory\u{2}\0\n\t\u{2}\u{3}\0\0\u{b}\u{3}\0\0\u{b}\u{1}=\0asm\u{1}\0\0\0\u{1}\u{6}\u{1}`\u{2}\u{7f}\u{7f}\0\u{3}\u{3}\u{2}\0\0\u{4}\u{5}\u{1}p\u{1}\u{2}\u{2}\u{7}\u{14}\u{3}\u{1}0\0\0\u{1}1\0\u{1}\u{8}$imports\u{1}\0\n\t\u{2}\u{3}\0\0\u{b}\u{3}\0\0\u{b}\u{1}6\0asm\u{1}\0\0\0\u{1}\u{6}\u{1}`\u{2}\u{7f}\u{7f}\0\u{2}\u{1a}\u{3}\0\u{1}0\0\0\0\u{1}1\0\0\0\u{8}$imports\u{1}p\u{1}\u{2}\u{2}\t\u{8}\u{1}\0A\0\u{b}\u{2}\0\u{1}\u{2}\u{4}\u{1}\0\u{1}\0\u{6}\u{7}\u{1}\0\0\u{1}\0\u{1}0\u{2}\t\u{1}\u{1}\u{1}\u{3}log\0\0\u{6}\u{7}\u{1}\0\0\u{1}\0\u{1}1\u{2}\"\u{2}\u{1}\u{1}\u{3}log\0\u{1}\0\0\u{2}\u{7}primary\u{12}\u{1}\tsecondary\u{12}\u{2}\u{6}1\u{4}\0\u{2}\u{1}\u{3}\u{6}memory\0\0\u{1}\u{3}\u{c}cabi_realloc\0\u{1}\u{1}\0\u{8}$imports\u{1}\0\0\u{3}log\u{8}\n\u{1}\u{1}\0\0\u{3}\u{3}\0\u{4}\u{2}\0\u{6}\u{8}\u{1}\u{1}\0\u{1}\u{3}log\u{8}\n\u{1}\u{1}\0\u{1}\u{3}\u{3}\0\u{4}\u{2}\0\u{2}\u{1c}\u{2}\u{1}\u{3}\u{8}$imports\u{1}\0\u{1}0\0\u{3}\u{1}1\0\u{4}\0\u{2}\u{1}\0\u{12}\u{4}\0/\tproducers\u{1}\u{c}processed-by\u{1}\rwit-component\u{7}0.200.0")

pub labels_parts : parts_of labels_bytes ≡ Ok (parts ((type_part (instance_def (decls ((type_decl (value_def (enum_def ((codes "debug") ∷ (codes "info") ∷ [])))) ∷ (export_decl (codes "level") (e.Equal 0)) ∷ (type_decl (func_def false (((codes "l"), (Index 1)) ∷ []) None)) ∷ (export_decl (codes "log") (e.Func 2)) ∷ [])))) ∷ (import_part (codes "primary") (e.Instance 0)) ∷ (type_part (instance_def (decls ((type_decl (value_def (enum_def ((codes "debug") ∷ (codes "info") ∷ [])))) ∷ (export_decl (codes "level") (e.Equal 0)) ∷ (type_decl (func_def false (((codes "l"), (Index 1)) ∷ []) None)) ∷ (export_decl (codes "log") (e.Func 2)) ∷ [])))) ∷ (import_part (codes "secondary") (e.Instance 1)) ∷ (module_part (codes "\0asm\u{1}\0\0\0\u{1}\u{11}\u{3}`\u{2}\u{7f}\u{7f}\0`\u{4}\u{7f}\u{7f}\u{7f}\u{7f}\u{1}\u{7f}`\0\0\u{2}\u{1f}\u{2}\u{7}primary\u{3}log\0\0\tsecondary\u{3}log\0\0\u{3}\u{3}\u{2}\u{1}\u{2}\u{5}\u{3}\u{1}\0\u{1}\u{7}'\u{3}\u{c}cabi_realloc\0\u{2}\u{b}_initialize\0\u{3}\u{6}memory\u{2}\0\n\t\u{2}\u{3}\0\0\u{b}\u{3}\0\0\u{b}")) ∷ (module_part (codes "\0asm\u{1}\0\0\0\u{1}\u{6}\u{1}`\u{2}\u{7f}\u{7f}\0\u{3}\u{3}\u{2}\0\0\u{4}\u{5}\u{1}p\u{1}\u{2}\u{2}\u{7}\u{14}\u{3}\u{1}0\0\0\u{1}1\0\u{1}\u{8}$imports\u{1}\0\n\t\u{2}\u{3}\0\0\u{b}\u{3}\0\0\u{b}")) ∷ (module_part (codes "\0asm\u{1}\0\0\0\u{1}\u{6}\u{1}`\u{2}\u{7f}\u{7f}\0\u{2}\u{1a}\u{3}\0\u{1}0\0\0\0\u{1}1\0\0\0\u{8}$imports\u{1}p\u{1}\u{2}\u{2}\t\u{8}\u{1}\0A\0\u{b}\u{2}\0\u{1}")) ∷ (core_instance_part (core_instantiate 1 [])) ∷ (alias_part (core_export_alias func_sort 0 (codes "0"))) ∷ (core_instance_part (core_exports (((codes "log"), func_sort, 0) ∷ []))) ∷ (alias_part (core_export_alias func_sort 0 (codes "1"))) ∷ (core_instance_part (core_exports (((codes "log"), func_sort, 1) ∷ []))) ∷ (core_instance_part (core_instantiate 0 (((codes "primary"), 1) ∷ ((codes "secondary"), 2) ∷ []))) ∷ (alias_part (core_export_alias memory_sort 3 (codes "memory"))) ∷ (alias_part (core_export_alias func_sort 3 (codes "cabi_realloc"))) ∷ (alias_part (core_export_alias table_sort 0 (codes "$imports"))) ∷ (alias_part (component_alias (export_alias s.Func 0 (codes "log")))) ∷ (canon_part (lower 0 ((memory 0) ∷ (realloc 2) ∷ utf8 ∷ []))) ∷ (alias_part (component_alias (export_alias s.Func 1 (codes "log")))) ∷ (canon_part (lower 1 ((memory 0) ∷ (realloc 2) ∷ utf8 ∷ []))) ∷ (core_instance_part (core_exports (((codes "$imports"), table_sort, 0) ∷ ((codes "0"), func_sort, 3) ∷ ((codes "1"), func_sort, 4) ∷ []))) ∷ (core_instance_part (core_instantiate 2 (([], 4) ∷ []))) ∷ (custom_part (codes "producers") (codes "\u{1}\u{c}processed-by\u{1}\rwit-component\u{7}0.200.0")) ∷ []))
unfolding read
labels_parts = refl
