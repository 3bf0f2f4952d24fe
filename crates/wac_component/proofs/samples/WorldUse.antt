-- Printed by print_parts.py.
use Rattle.std.proofs.Common.{◌≡◌, ℕ, List, [], ◌∷◌, Some, None, Ok, codes, refl, false}
use Rattle.wac_types_shapes.specs.declared.primitives.component.PrimitiveType.TheVariants as p
use Rattle.wac_binary.specs.declared.types.ComponentValType.TheVariants.{Primitive, Index}
use Rattle.wac_binary.specs.declared.sorts.Sort.TheVariants as s
use Rattle.wac_binary.specs.declared.sorts.Description.TheVariants as e
use Rattle.wac_binary.specs.Items.{primitive_def, record_def, variant_def, list_def, result_def, own_def, borrow_def, export_alias, value_def, func_def, instance_def, decls, type_decl, export_decl}
use Rattle.wac_component.specs.Parts.{func_sort, table_sort, memory_sort, utf8, memory, realloc, type_operand, lift, lower, builtin, core_instantiate, core_exports, component_alias, core_export_alias, custom_part, module_part, core_instance_part, alias_part, type_part, canon_part, import_part, export_part, parts}
use Rattle.wac_component.specs.Reading.{parts_of}
use Rattle.wac_component.proofs.Computing.{read}

-- world-use.wasm: 1331 bytes
abbrev pub world_use_bytes : List ℕ
world_use_bytes = (codes "\0asm\r\0\u{1}\0\u{7}á\u{1}\u{1}B\u{14}\u{1}s\u{4}\0\u{3}key\u{3}\0\0\u{1}p}\u{1}r\u{2}\u{3}key\u{1}\u{5}value\u{2}\u{4}\0\u{5}entry\u{3}\0\u{3}\u{1}q\u{2}\u{7}missing\0\0\u{5}other\u{1}s\0\u{4}\0\u{7}failure\u{3}\0\u{5}\u{4}\0\u{6}bucket\u{3}\u{1}\u{1}i\u{7}\u{1}@\u{1}\u{4}names\0\u{8}\u{4}\0\u{13}[constructor]bucket\u{1}\t\u{1}h\u{7}\u{1}j\u{1}\u{4}\u{1}\u{6}\u{1}@\u{2}\u{4}self\n\u{1}k\u{1}\0\u{b}\u{4}\0\u{12}[method]bucket.get\u{1}\u{c}\u{1}p\u{8}\u{1}@\0\0\r\u{4}\0\u{12}[static]bucket.all\u{1}\u{e}\u{1}@\u{1}\u{1}b\u{8}\u{1}\0\u{4}\0\u{8}drop-all\u{1}\u{f}\n\u{16}\u{1}\0\u{11}my:kv/store@1.2.0\u{5}\0\u{6}\u{b}\u{1}\u{3}\0\0\u{6}bucket\n\u{c}\u{1}\0\u{6}bucket\u{3}\0\u{1}\u{6}\n\u{1}\u{3}\0\0\u{5}entry\n\u{8}\u{1}\0\u{2}ee\u{3}\0\u{3}\u{7}\r\u{2}h\u{2}@\u{2}\u{1}b\u{5}\u{1}e\u{4}\u{1}\0\n\u{8}\u{1}\0\u{3}log\u{1}\u{6}\u{1}¶\u{2}\0asm\u{1}\0\0\0\u{1}\u{16}\u{4}`\u{2}\u{7f}\u{7f}\0`\u{1}\u{7f}\u{1}\u{7f}`\u{4}\u{7f}\u{7f}\u{7f}\u{7f}\u{1}\u{7f}`\0\0\u{2}Ê\u{1}\u{6}\u{11}my:kv/store@1.2.0\u{13}[constructor]bucket\0\0\u{11}my:kv/store@1.2.0\u{12}[method]bucket.get\0\0\u{11}my:kv/store@1.2.0\u{12}[static]bucket.all\0\0\u{11}my:kv/store@1.2.0\u{8}drop-all\0\0\u{11}my:kv/store@1.2.0\u{15}[resource-drop]bucket\0\0\u{5}$root\u{3}log\0\0\u{3}\u{4}\u{3}\u{1}\u{2}\u{3}\u{5}\u{3}\u{1}\0\u{1}\u{7}-\u{4}\u{3}run\0\u{6}\u{c}cabi_realloc\0\u{7}\u{b}_initialize\0\u{8}\u{6}memory\u{2}\0\n\r\u{3}\u{3}\0\0\u{b}\u{3}\0\0\u{b}\u{3}\0\0\u{b}\u{1}X\0asm\u{1}\0\0\0\u{1}\u{6}\u{1}`\u{2}\u{7f}\u{7f}\0\u{3}\u{6}\u{5}\0\0\0\0\0\u{4}\u{5}\u{1}p\u{1}\u{5}\u{5}\u{7} \u{6}\u{1}0\0\0\u{1}1\0\u{1}\u{1}2\0\u{2}\u{1}3\0\u{3}\u{1}4\0\u{4}\u{8}$imports\u{1}\0\n\u{15}\u{5}\u{3}\0\0\u{b}\u{3}\0\0\u{b}\u{3}\0\0\u{b}\u{3}\0\0\u{b}\u{3}\0\0\u{b}\u{1}H\0asm\u{1}\0\0\0\u{1}\u{6}\u{1}`\u{2}\u{7f}\u{7f}\0\u{2})\u{6}\0\u{1}0\0\0\0\u{1}1\0\0\0\u{1}2\0\0\0\u{1}3\0\0\0\u{1}4\0\0\0\u{8}$imports\u{1}p\u{1}\u{5}\u{5}\t\u{b}\u{1}\0A\0\u{b}\u{5}\0\u{1}\u{2}\u{3}\u{4}\u{2}\u{4}\u{1}\0\u{1}\0\u{6}\u{19}\u{4}\0\0\u{1}\0\u{1}0\0\0\u{1}\0\u{1}1\0\0\u{1}\0\u{1}2\0\0\u{1}\0\u{1}3\u{8}\u{3}\u{1}\u{3}\u{2}\u{2}f\u{1}\u{1}\u{5}\u{13}[constructor]bucket\0\0\u{12}[method]bucket.get\0\u{1}\u{12}[static]bucket.all\0\u{2}\u{8}drop-all\0\u{3}\u{15}[resource-drop]bucket\0\u{4}\u{6}\u{7}\u{1}\0\0\u{1}\0\u{1}4\u{2}(\u{2}\u{1}\u{1}\u{3}log\0\u{5}\0\0\u{2}\u{11}my:kv/store@1.2.0\u{12}\u{1}\u{5}$root\u{12}\u{2}\u{6}A\u{4}\0\u{2}\u{1}\u{3}\u{6}memory\0\0\u{1}\u{3}\u{c}cabi_realloc\0\u{1}\u{1}\0\u{8}$imports\u{1}\0\0\u{13}[constructor]bucket\u{8}\n\u{1}\u{1}\0\u{1}\u{3}\u{3}\0\u{4}\u{6}\0\u{6}\u{17}\u{1}\u{1}\0\0\u{12}[method]bucket.get\u{8}\n\u{1}\u{1}\0\u{2}\u{3}\u{3}\0\u{4}\u{6}\0\u{6}\u{17}\u{1}\u{1}\0\0\u{12}[static]bucket.all\u{8}\n\u{1}\u{1}\0\u{3}\u{3}\u{3}\0\u{4}\u{6}\0\u{6}\r\u{1}\u{1}\0\0\u{8}drop-all\u{8}\u{13}\u{2}\u{1}\0\u{4}\u{3}\u{3}\0\u{4}\u{6}\0\u{1}\0\0\u{3}\u{3}\0\u{4}\u{6}\0\u{2}(\u{2}\u{1}\u{6}\u{8}$imports\u{1}\0\u{1}0\0\u{7}\u{1}1\0\u{8}\u{1}2\0\t\u{1}3\0\n\u{1}4\0\u{b}\0\u{2}\u{1}\0\u{12}\u{4}\u{7}\n\u{2}i\u{2}@\u{1}\u{1}e\u{4}\0\u{7}\u{6}\t\u{1}\0\0\u{1}\u{3}\u{3}run\u{8}\u{b}\u{1}\0\0\u{c}\u{3}\u{3}\0\u{4}\u{6}\0\u{8}\u{b}\t\u{1}\0\u{3}run\u{1}\u{5}\0\0/\tproducers\u{1}\u{c}processed-by\u{1}\rwit-component\u{7}0.200.0")

pub world_use_parts : parts_of world_use_bytes ≡ Ok (parts ((type_part (instance_def (decls ((type_decl (value_def (primitive_def p.String))) ∷ (export_decl (codes "key") (e.Equal 0)) ∷ (type_decl (value_def (list_def (Primitive p.U8)))) ∷ (type_decl (value_def (record_def (((codes "key"), (Index 1)) ∷ ((codes "value"), (Index 2)) ∷ [])))) ∷ (export_decl (codes "entry") (e.Equal 3)) ∷ (type_decl (value_def (variant_def (((codes "missing"), None) ∷ ((codes "other"), (Some (Primitive p.String))) ∷ [])))) ∷ (export_decl (codes "failure") (e.Equal 5)) ∷ (export_decl (codes "bucket") e.Fresh) ∷ (type_decl (value_def (own_def 7))) ∷ (type_decl (func_def false (((codes "name"), (Primitive p.String)) ∷ []) (Some (Index 8)))) ∷ (export_decl (codes "[constructor]bucket") (e.Func 9)) ∷ (type_decl (value_def (borrow_def 7))) ∷ (type_decl (value_def (result_def (Some (Index 4)) (Some (Index 6))))) ∷ (type_decl (func_def false (((codes "self"), (Index 10)) ∷ ((codes "k"), (Index 1)) ∷ []) (Some (Index 11)))) ∷ (export_decl (codes "[method]bucket.get") (e.Func 12)) ∷ (type_decl (value_def (list_def (Index 8)))) ∷ (type_decl (func_def false [] (Some (Index 13)))) ∷ (export_decl (codes "[static]bucket.all") (e.Func 14)) ∷ (type_decl (func_def false (((codes "b"), (Index 8)) ∷ []) None)) ∷ (export_decl (codes "drop-all") (e.Func 15)) ∷ [])))) ∷ (import_part (codes "my:kv/store@1.2.0") (e.Instance 0)) ∷ (alias_part (component_alias (export_alias s.«Type» 0 (codes "bucket")))) ∷ (import_part (codes "bucket") (e.Equal 1)) ∷ (alias_part (component_alias (export_alias s.«Type» 0 (codes "entry")))) ∷ (import_part (codes "ee") (e.Equal 3)) ∷ (type_part (value_def (borrow_def 2))) ∷ (type_part (func_def false (((codes "b"), (Index 5)) ∷ ((codes "e"), (Index 4)) ∷ []) None)) ∷ (import_part (codes "log") (e.Func 6)) ∷ (module_part (codes "\0asm\u{1}\0\0\0\u{1}\u{16}\u{4}`\u{2}\u{7f}\u{7f}\0`\u{1}\u{7f}\u{1}\u{7f}`\u{4}\u{7f}\u{7f}\u{7f}\u{7f}\u{1}\u{7f}`\0\0\u{2}Ê\u{1}\u{6}\u{11}my:kv/store@1.2.0\u{13}[constructor]bucket\0\0\u{11}my:kv/store@1.2.0\u{12}[method]bucket.get\0\0\u{11}my:kv/store@1.2.0\u{12}[static]bucket.all\0\0\u{11}my:kv/store@1.2.0\u{8}drop-all\0\0\u{11}my:kv/store@1.2.0\u{15}[resource-drop]bucket\0\0\u{5}$root\u{3}log\0\0\u{3}\u{4}\u{3}\u{1}\u{2}\u{3}\u{5}\u{3}\u{1}\0\u{1}\u{7}-\u{4}\u{3}run\0\u{6}\u{c}cabi_realloc\0\u{7}\u{b}_initialize\0\u{8}\u{6}memory\u{2}\0\n\r\u{3}\u{3}\0\0\u{b}\u{3}\0\0\u{b}\u{3}\0\0\u{b}")) ∷ (module_part (codes "\0asm\u{1}\0\0\0\u{1}\u{6}\u{1}`\u{2}\u{7f}\u{7f}\0\u{3}\u{6}\u{5}\0\0\0\0\0\u{4}\u{5}\u{1}p\u{1}\u{5}\u{5}\u{7} \u{6}\u{1}0\0\0\u{1}1\0\u{1}\u{1}2\0\u{2}\u{1}3\0\u{3}\u{1}4\0\u{4}\u{8}$imports\u{1}\0\n\u{15}\u{5}\u{3}\0\0\u{b}\u{3}\0\0\u{b}\u{3}\0\0\u{b}\u{3}\0\0\u{b}\u{3}\0\0\u{b}")) ∷ (module_part (codes "\0asm\u{1}\0\0\0\u{1}\u{6}\u{1}`\u{2}\u{7f}\u{7f}\0\u{2})\u{6}\0\u{1}0\0\0\0\u{1}1\0\0\0\u{1}2\0\0\0\u{1}3\0\0\0\u{1}4\0\0\0\u{8}$imports\u{1}p\u{1}\u{5}\u{5}\t\u{b}\u{1}\0A\0\u{b}\u{5}\0\u{1}\u{2}\u{3}\u{4}")) ∷ (core_instance_part (core_instantiate 1 [])) ∷ (alias_part (core_export_alias func_sort 0 (codes "0"))) ∷ (alias_part (core_export_alias func_sort 0 (codes "1"))) ∷ (alias_part (core_export_alias func_sort 0 (codes "2"))) ∷ (alias_part (core_export_alias func_sort 0 (codes "3"))) ∷ (canon_part (builtin 3 ((type_operand 2) ∷ []))) ∷ (core_instance_part (core_exports (((codes "[constructor]bucket"), func_sort, 0) ∷ ((codes "[method]bucket.get"), func_sort, 1) ∷ ((codes "[static]bucket.all"), func_sort, 2) ∷ ((codes "drop-all"), func_sort, 3) ∷ ((codes "[resource-drop]bucket"), func_sort, 4) ∷ []))) ∷ (alias_part (core_export_alias func_sort 0 (codes "4"))) ∷ (core_instance_part (core_exports (((codes "log"), func_sort, 5) ∷ []))) ∷ (core_instance_part (core_instantiate 0 (((codes "my:kv/store@1.2.0"), 1) ∷ ((codes "$root"), 2) ∷ []))) ∷ (alias_part (core_export_alias memory_sort 3 (codes "memory"))) ∷ (alias_part (core_export_alias func_sort 3 (codes "cabi_realloc"))) ∷ (alias_part (core_export_alias table_sort 0 (codes "$imports"))) ∷ (alias_part (component_alias (export_alias s.Func 0 (codes "[constructor]bucket")))) ∷ (canon_part (lower 1 ((memory 0) ∷ (realloc 6) ∷ utf8 ∷ []))) ∷ (alias_part (component_alias (export_alias s.Func 0 (codes "[method]bucket.get")))) ∷ (canon_part (lower 2 ((memory 0) ∷ (realloc 6) ∷ utf8 ∷ []))) ∷ (alias_part (component_alias (export_alias s.Func 0 (codes "[static]bucket.all")))) ∷ (canon_part (lower 3 ((memory 0) ∷ (realloc 6) ∷ utf8 ∷ []))) ∷ (alias_part (component_alias (export_alias s.Func 0 (codes "drop-all")))) ∷ (canon_part (lower 4 ((memory 0) ∷ (realloc 6) ∷ utf8 ∷ []))) ∷ (canon_part (lower 0 ((memory 0) ∷ (realloc 6) ∷ utf8 ∷ []))) ∷ (core_instance_part (core_exports (((codes "$imports"), table_sort, 0) ∷ ((codes "0"), func_sort, 7) ∷ ((codes "1"), func_sort, 8) ∷ ((codes "2"), func_sort, 9) ∷ ((codes "3"), func_sort, 10) ∷ ((codes "4"), func_sort, 11) ∷ []))) ∷ (core_instance_part (core_instantiate 2 (([], 4) ∷ []))) ∷ (type_part (value_def (own_def 2))) ∷ (type_part (func_def false (((codes "e"), (Index 4)) ∷ []) (Some (Index 7)))) ∷ (alias_part (core_export_alias func_sort 3 (codes "run"))) ∷ (canon_part (lift 12 ((memory 0) ∷ (realloc 6) ∷ utf8 ∷ []) 8)) ∷ (export_part (codes "run") s.Func 5 None) ∷ (custom_part (codes "producers") (codes "\u{1}\u{c}processed-by\u{1}\rwit-component\u{7}0.200.0")) ∷ []))
unfolding read
world_use_parts = refl
