-- Printed by print_parts.py.
use Rattle.std.proofs.Common.{◌≡◌, ℕ, List, [], ◌∷◌, Some, None, Ok, codes, refl, false}
use Rattle.wac_types_shapes.specs.declared.primitives.component.PrimitiveType.TheVariants as p
use Rattle.wac_binary.specs.declared.types.ComponentValType.TheVariants.{Primitive, Index}
use Rattle.wac_binary.specs.declared.sorts.Sort.TheVariants as s
use Rattle.wac_binary.specs.declared.sorts.Description.TheVariants as e
use Rattle.wac_binary.specs.Items.{primitive_def, record_def, variant_def, list_def, result_def, own_def, borrow_def, export_alias, value_def, func_def, instance_def, decls, type_decl, export_decl}
use Rattle.wac_component.specs.Parts.{func_sort, table_sort, memory_sort, utf8, memory, realloc, type_operand, lift, lower, builtin, core_instantiate, core_exports, component_alias, core_export_alias, custom_part, module_part, core_instance_part, component_part, instantiate_part, alias_part, type_part, canon_part, import_part, export_part, parts}
use Rattle.wac_component.specs.Reading.{parts_of}
use Rattle.wac_component.proofs.Computing.{read}

-- export-uses-import.wasm: 1721 bytes
abbrev export_uses_import_bytes : List ℕ
export_uses_import_bytes = (codes "\0asm\r\0\u{1}\0\u{7}á\u{1}\u{1}B\u{14}\u{1}s\u{4}\0\u{3}key\u{3}\0\0\u{1}p}\u{1}r\u{2}\u{3}key\u{1}\u{5}value\u{2}\u{4}\0\u{5}entry\u{3}\0\u{3}\u{1}q\u{2}\u{7}missing\0\0\u{5}other\u{1}s\0\u{4}\0\u{7}failure\u{3}\0\u{5}\u{4}\0\u{6}bucket\u{3}\u{1}\u{1}i\u{7}\u{1}@\u{1}\u{4}names\0\u{8}\u{4}\0\u{13}[constructor]bucket\u{1}\t\u{1}h\u{7}\u{1}j\u{1}\u{4}\u{1}\u{6}\u{1}@\u{2}\u{4}self\n\u{1}k\u{1}\0\u{b}\u{4}\0\u{12}[method]bucket.get\u{1}\u{c}\u{1}p\u{8}\u{1}@\0\0\r\u{4}\0\u{12}[static]bucket.all\u{1}\u{e}\u{1}@\u{1}\u{1}b\u{8}\u{1}\0\u{4}\0\u{8}drop-all\u{1}\u{f}\n\u{16}\u{1}\0\u{11}my:kv/store@1.2.0\u{5}\0\u{1}¼\u{2}\0asm\u{1}\0\0\0\u{1}\u{16}\u{4}`\u{2}\u{7f}\u{7f}\0`\u{1}\u{7f}\u{1}\u{7f}`\u{4}\u{7f}\u{7f}\u{7f}\u{7f}\u{1}\u{7f}`\0\0\u{2}¾\u{1}\u{5}\u{11}my:kv/store@1.2.0\u{13}[constructor]bucket\0\0\u{11}my:kv/store@1.2.0\u{12}[method]bucket.get\0\0\u{11}my:kv/store@1.2.0\u{12}[static]bucket.all\0\0\u{11}my:kv/store@1.2.0\u{8}drop-all\0\0\u{11}my:kv/store@1.2.0\u{15}[resource-drop]bucket\0\0\u{3}\u{4}\u{3}\u{1}\u{2}\u{3}\u{5}\u{3}\u{1}\0\u{1}\u{7}?\u{4}\u{15}my:kv/cache@1.0.0#put\0\u{5}\u{c}cabi_realloc\0\u{6}\u{b}_initialize\0\u{7}\u{6}memory\u{2}\0\n\r\u{3}\u{3}\0\0\u{b}\u{3}\0\0\u{b}\u{3}\0\0\u{b}\u{1}O\0asm\u{1}\0\0\0\u{1}\u{6}\u{1}`\u{2}\u{7f}\u{7f}\0\u{3}\u{5}\u{4}\0\0\0\0\u{4}\u{5}\u{1}p\u{1}\u{4}\u{4}\u{7}\u{1c}\u{5}\u{1}0\0\0\u{1}1\0\u{1}\u{1}2\0\u{2}\u{1}3\0\u{3}\u{8}$imports\u{1}\0\n\u{11}\u{4}\u{3}\0\0\u{b}\u{3}\0\0\u{b}\u{3}\0\0\u{b}\u{3}\0\0\u{b}\u{1}B\0asm\u{1}\0\0\0\u{1}\u{6}\u{1}`\u{2}\u{7f}\u{7f}\0\u{2}$\u{5}\0\u{1}0\0\0\0\u{1}1\0\0\0\u{1}2\0\0\0\u{1}3\0\0\0\u{8}$imports\u{1}p\u{1}\u{4}\u{4}\t\n\u{1}\0A\0\u{b}\u{4}\0\u{1}\u{2}\u{3}\u{2}\u{4}\u{1}\0\u{1}\0\u{6}#\u{5}\0\0\u{1}\0\u{1}0\0\0\u{1}\0\u{1}1\0\0\u{1}\0\u{1}2\0\0\u{1}\0\u{1}3\u{3}\0\0\u{6}bucket\u{8}\u{3}\u{1}\u{3}\u{1}\u{2}}\u{2}\u{1}\u{5}\u{13}[constructor]bucket\0\0\u{12}[method]bucket.get\0\u{1}\u{12}[static]bucket.all\0\u{2}\u{8}drop-all\0\u{3}\u{15}[resource-drop]bucket\0\u{4}\0\0\u{1}\u{11}my:kv/store@1.2.0\u{12}\u{1}\u{6}A\u{4}\0\u{2}\u{1}\u{2}\u{6}memory\0\0\u{1}\u{2}\u{c}cabi_realloc\0\u{1}\u{1}\0\u{8}$imports\u{1}\0\0\u{13}[constructor]bucket\u{8}\n\u{1}\u{1}\0\0\u{3}\u{3}\0\u{4}\u{5}\0\u{6}\u{17}\u{1}\u{1}\0\0\u{12}[method]bucket.get\u{8}\n\u{1}\u{1}\0\u{1}\u{3}\u{3}\0\u{4}\u{5}\0\u{6}\u{17}\u{1}\u{1}\0\0\u{12}[static]bucket.all\u{8}\n\u{1}\u{1}\0\u{2}\u{3}\u{3}\0\u{4}\u{5}\0\u{6}\r\u{1}\u{1}\0\0\u{8}drop-all\u{8}\n\u{1}\u{1}\0\u{3}\u{3}\u{3}\0\u{4}\u{5}\0\u{2}$\u{2}\u{1}\u{5}\u{8}$imports\u{1}\0\u{1}0\0\u{6}\u{1}1\0\u{7}\u{1}2\0\u{8}\u{1}3\0\t\0\u{2}\u{1}\0\u{12}\u{3}\u{7}\u{3}\u{1}h\u{1}\u{6}\n\u{1}\u{3}\0\0\u{5}entry\u{7}\u{10}\u{2}r\u{1}\u{1}e\u{3}@\u{2}\u{1}b\u{2}\u{1}f\u{4}\u{1}\0\u{6}\u{1b}\u{1}\0\0\u{1}\u{2}\u{15}my:kv/cache@1.0.0#put\u{8}\u{b}\u{1}\0\0\n\u{3}\u{3}\0\u{4}\u{5}\0\u{5}\u{6}\u{8}\u{1}\u{3}\0\0\u{3}key\u{4}¥\u{2}\0asm\r\0\u{1}\0\n\u{17}\u{1}\0\u{12}import-type-bucket\u{3}\u{1}\u{7}\u{2}\u{1}s\n\u{15}\u{1}\0\u{f}import-type-key\u{3}\0\u{1}\u{7}\u{11}\u{2}p}r\u{2}\u{3}key\u{2}\u{5}value\u{3}\n/\u{2}\0\u{11}import-type-entry\u{3}\0\u{4}\0\u{13}import-type-bucket0\u{3}\0\0\u{7}\u{3}\u{1}h\u{6}\n\u{14}\u{1}\0\u{e}import-type-e2\u{3}\0\u{5}\u{7}\u{6}\u{1}r\u{1}\u{1}e\u{8}\n\u{17}\u{1}\0\u{11}import-type-fancy\u{3}\0\t\u{7}\u{b}\u{1}@\u{2}\u{1}b\u{7}\u{1}f\n\u{1}\0\n\u{14}\u{1}\0\u{f}import-func-put\u{1}\u{b}\u{b}\u{13}\u{2}\0\u{6}bucket\u{3}\0\0\0\u{2}e2\u{3}\u{5}\0\u{7}\u{6}\u{1}r\u{1}\u{1}e\r\u{b}\u{b}\u{1}\0\u{5}fancy\u{3}\u{e}\0\u{7}\r\u{2}h\u{c}@\u{2}\u{1}b\u{10}\u{1}f\u{f}\u{1}\0\u{b}\u{b}\u{1}\0\u{3}put\u{1}\0\u{1}\u{1}\u{11}\u{5}\u{8c}\u{1}\u{1}\0\0\u{7}\u{f}import-func-put\u{1}\u{4}\u{12}import-type-bucket\u{3}\u{1}\u{f}import-type-key\u{3}\u{6}\u{11}import-type-entry\u{3}\u{3}\u{13}import-type-bucket0\u{3}\u{1}\u{e}import-type-e2\u{3}\u{3}\u{11}import-type-fancy\u{3}\u{4}\u{b}\u{17}\u{1}\0\u{11}my:kv/cache@1.0.0\u{5}\u{1}\0\0/\tproducers\u{1}\u{c}processed-by\u{1}\rwit-component\u{7}0.200.0")

pub export_uses_import_parts : parts_of export_uses_import_bytes ≡ Ok (parts ((type_part (instance_def (decls ((type_decl (value_def (primitive_def p.String))) ∷ (export_decl (codes "key") (e.Equal 0)) ∷ (type_decl (value_def (list_def (Primitive p.U8)))) ∷ (type_decl (value_def (record_def (((codes "key"), (Index 1)) ∷ ((codes "value"), (Index 2)) ∷ [])))) ∷ (export_decl (codes "entry") (e.Equal 3)) ∷ (type_decl (value_def (variant_def (((codes "missing"), None) ∷ ((codes "other"), (Some (Primitive p.String))) ∷ [])))) ∷ (export_decl (codes "failure") (e.Equal 5)) ∷ (export_decl (codes "bucket") e.Fresh) ∷ (type_decl (value_def (own_def 7))) ∷ (type_decl (func_def false (((codes "name"), (Primitive p.String)) ∷ []) (Some (Index 8)))) ∷ (export_decl (codes "[constructor]bucket") (e.Func 9)) ∷ (type_decl (value_def (borrow_def 7))) ∷ (type_decl (value_def (result_def (Some (Index 4)) (Some (Index 6))))) ∷ (type_decl (func_def false (((codes "self"), (Index 10)) ∷ ((codes "k"), (Index 1)) ∷ []) (Some (Index 11)))) ∷ (export_decl (codes "[method]bucket.get") (e.Func 12)) ∷ (type_decl (value_def (list_def (Index 8)))) ∷ (type_decl (func_def false [] (Some (Index 13)))) ∷ (export_decl (codes "[static]bucket.all") (e.Func 14)) ∷ (type_decl (func_def false (((codes "b"), (Index 8)) ∷ []) None)) ∷ (export_decl (codes "drop-all") (e.Func 15)) ∷ [])))) ∷ (import_part (codes "my:kv/store@1.2.0") (e.Instance 0)) ∷ (module_part (codes "\0asm\u{1}\0\0\0\u{1}\u{16}\u{4}`\u{2}\u{7f}\u{7f}\0`\u{1}\u{7f}\u{1}\u{7f}`\u{4}\u{7f}\u{7f}\u{7f}\u{7f}\u{1}\u{7f}`\0\0\u{2}¾\u{1}\u{5}\u{11}my:kv/store@1.2.0\u{13}[constructor]bucket\0\0\u{11}my:kv/store@1.2.0\u{12}[method]bucket.get\0\0\u{11}my:kv/store@1.2.0\u{12}[static]bucket.all\0\0\u{11}my:kv/store@1.2.0\u{8}drop-all\0\0\u{11}my:kv/store@1.2.0\u{15}[resource-drop]bucket\0\0\u{3}\u{4}\u{3}\u{1}\u{2}\u{3}\u{5}\u{3}\u{1}\0\u{1}\u{7}?\u{4}\u{15}my:kv/cache@1.0.0#put\0\u{5}\u{c}cabi_realloc\0\u{6}\u{b}_initialize\0\u{7}\u{6}memory\u{2}\0\n\r\u{3}\u{3}\0\0\u{b}\u{3}\0\0\u{b}\u{3}\0\0\u{b}")) ∷ (module_part (codes "\0asm\u{1}\0\0\0\u{1}\u{6}\u{1}`\u{2}\u{7f}\u{7f}\0\u{3}\u{5}\u{4}\0\0\0\0\u{4}\u{5}\u{1}p\u{1}\u{4}\u{4}\u{7}\u{1c}\u{5}\u{1}0\0\0\u{1}1\0\u{1}\u{1}2\0\u{2}\u{1}3\0\u{3}\u{8}$imports\u{1}\0\n\u{11}\u{4}\u{3}\0\0\u{b}\u{3}\0\0\u{b}\u{3}\0\0\u{b}\u{3}\0\0\u{b}")) ∷ (module_part (codes "\0asm\u{1}\0\0\0\u{1}\u{6}\u{1}`\u{2}\u{7f}\u{7f}\0\u{2}$\u{5}\0\u{1}0\0\0\0\u{1}1\0\0\0\u{1}2\0\0\0\u{1}3\0\0\0\u{8}$imports\u{1}p\u{1}\u{4}\u{4}\t\n\u{1}\0A\0\u{b}\u{4}\0\u{1}\u{2}\u{3}")) ∷ (core_instance_part (core_instantiate 1 [])) ∷ (alias_part (core_export_alias func_sort 0 (codes "0"))) ∷ (alias_part (core_export_alias func_sort 0 (codes "1"))) ∷ (alias_part (core_export_alias func_sort 0 (codes "2"))) ∷ (alias_part (core_export_alias func_sort 0 (codes "3"))) ∷ (alias_part (component_alias (export_alias s.«Type» 0 (codes "bucket")))) ∷ (canon_part (builtin 3 ((type_operand 1) ∷ []))) ∷ (core_instance_part (core_exports (((codes "[constructor]bucket"), func_sort, 0) ∷ ((codes "[method]bucket.get"), func_sort, 1) ∷ ((codes "[static]bucket.all"), func_sort, 2) ∷ ((codes "drop-all"), func_sort, 3) ∷ ((codes "[resource-drop]bucket"), func_sort, 4) ∷ []))) ∷ (core_instance_part (core_instantiate 0 (((codes "my:kv/store@1.2.0"), 1) ∷ []))) ∷ (alias_part (core_export_alias memory_sort 2 (codes "memory"))) ∷ (alias_part (core_export_alias func_sort 2 (codes "cabi_realloc"))) ∷ (alias_part (core_export_alias table_sort 0 (codes "$imports"))) ∷ (alias_part (component_alias (export_alias s.Func 0 (codes "[constructor]bucket")))) ∷ (canon_part (lower 0 ((memory 0) ∷ (realloc 5) ∷ utf8 ∷ []))) ∷ (alias_part (component_alias (export_alias s.Func 0 (codes "[method]bucket.get")))) ∷ (canon_part (lower 1 ((memory 0) ∷ (realloc 5) ∷ utf8 ∷ []))) ∷ (alias_part (component_alias (export_alias s.Func 0 (codes "[static]bucket.all")))) ∷ (canon_part (lower 2 ((memory 0) ∷ (realloc 5) ∷ utf8 ∷ []))) ∷ (alias_part (component_alias (export_alias s.Func 0 (codes "drop-all")))) ∷ (canon_part (lower 3 ((memory 0) ∷ (realloc 5) ∷ utf8 ∷ []))) ∷ (core_instance_part (core_exports (((codes "$imports"), table_sort, 0) ∷ ((codes "0"), func_sort, 6) ∷ ((codes "1"), func_sort, 7) ∷ ((codes "2"), func_sort, 8) ∷ ((codes "3"), func_sort, 9) ∷ []))) ∷ (core_instance_part (core_instantiate 2 (([], 3) ∷ []))) ∷ (type_part (value_def (borrow_def 1))) ∷ (alias_part (component_alias (export_alias s.«Type» 0 (codes "entry")))) ∷ (type_part (value_def (record_def (((codes "e"), (Index 3)) ∷ [])))) ∷ (type_part (func_def false (((codes "b"), (Index 2)) ∷ ((codes "f"), (Index 4)) ∷ []) None)) ∷ (alias_part (core_export_alias func_sort 2 (codes "my:kv/cache@1.0.0#put"))) ∷ (canon_part (lift 10 ((memory 0) ∷ (realloc 5) ∷ utf8 ∷ []) 5)) ∷ (alias_part (component_alias (export_alias s.«Type» 0 (codes "key")))) ∷ (component_part (parts ((import_part (codes "import-type-bucket") e.Fresh) ∷ (type_part (value_def (primitive_def p.String))) ∷ (import_part (codes "import-type-key") (e.Equal 1)) ∷ (type_part (value_def (list_def (Primitive p.U8)))) ∷ (type_part (value_def (record_def (((codes "key"), (Index 2)) ∷ ((codes "value"), (Index 3)) ∷ [])))) ∷ (import_part (codes "import-type-entry") (e.Equal 4)) ∷ (import_part (codes "import-type-bucket0") (e.Equal 0)) ∷ (type_part (value_def (borrow_def 6))) ∷ (import_part (codes "import-type-e2") (e.Equal 5)) ∷ (type_part (value_def (record_def (((codes "e"), (Index 8)) ∷ [])))) ∷ (import_part (codes "import-type-fancy") (e.Equal 9)) ∷ (type_part (func_def false (((codes "b"), (Index 7)) ∷ ((codes "f"), (Index 10)) ∷ []) None)) ∷ (import_part (codes "import-func-put") (e.Func 11)) ∷ (export_part (codes "bucket") s.«Type» 0 None) ∷ (export_part (codes "e2") s.«Type» 5 None) ∷ (type_part (value_def (record_def (((codes "e"), (Index 13)) ∷ [])))) ∷ (export_part (codes "fancy") s.«Type» 14 None) ∷ (type_part (value_def (borrow_def 12))) ∷ (type_part (func_def false (((codes "b"), (Index 16)) ∷ ((codes "f"), (Index 15)) ∷ []) None)) ∷ (export_part (codes "put") s.Func 0 (Some (e.Func 17))) ∷ []))) ∷ (instantiate_part 0 (((codes "import-func-put"), s.Func, 4) ∷ ((codes "import-type-bucket"), s.«Type», 1) ∷ ((codes "import-type-key"), s.«Type», 6) ∷ ((codes "import-type-entry"), s.«Type», 3) ∷ ((codes "import-type-bucket0"), s.«Type», 1) ∷ ((codes "import-type-e2"), s.«Type», 3) ∷ ((codes "import-type-fancy"), s.«Type», 4) ∷ [])) ∷ (export_part (codes "my:kv/cache@1.0.0") s.Instance 1 None) ∷ (custom_part (codes "producers") (codes "\u{1}\u{c}processed-by\u{1}\rwit-component\u{7}0.200.0")) ∷ []))
unfolding read
export_uses_import_parts = refl
