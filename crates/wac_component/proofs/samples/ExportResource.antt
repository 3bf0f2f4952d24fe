-- Printed by print_parts.py.
use Rattle.std.proofs.Common.{◌≡◌, ℕ, List, [], ◌∷◌, Some, None, Ok, codes, refl, false}
use Rattle.wac_types_shapes.specs.declared.primitives.component.PrimitiveType.TheVariants as p
use Rattle.wac_types_shapes.specs.declared.primitives.core_types.CoreType.TheVariants as c
use Rattle.wac_binary.specs.declared.types.ComponentValType.TheVariants.{Primitive, Index}
use Rattle.wac_binary.specs.declared.sorts.Sort.TheVariants as s
use Rattle.wac_binary.specs.declared.sorts.Description.TheVariants as e
use Rattle.wac_binary.specs.Items.{primitive_def, record_def, variant_def, list_def, result_def, own_def, borrow_def, value_def, func_def}
use Rattle.wac_component.specs.Parts.{func_sort, table_sort, memory_sort, utf8, memory, realloc, type_operand, lift, builtin, core_instantiate, core_exports, resource_def, core_export_alias, custom_part, module_part, core_instance_part, component_part, instantiate_part, alias_part, type_part, resource_part, canon_part, import_part, export_part, parts}
use Rattle.wac_component.specs.Reading.{parts_of}
use Rattle.wac_component.proofs.Computing.{read}

-- export-resource.wasm: 1978 bytes
abbrev export_resource_bytes : List ℕ
export_resource_bytes = (codes "\0asm\r\0\u{1}\0\u{1}¿\u{3}\0asm\u{1}\0\0\0\u{1}\u{11}\u{3}`\u{1}\u{7f}\u{1}\u{7f}`\u{4}\u{7f}\u{7f}\u{7f}\u{7f}\u{1}\u{7f}`\0\0\u{2}\u{95}\u{1}\u{3}\u{19}[export]my:kv/store@1.2.0\u{14}[resource-new]bucket\0\0\u{19}[export]my:kv/store@1.2.0\u{14}[resource-rep]bucket\0\0\u{19}[export]my:kv/store@1.2.0\u{15}[resource-drop]bucket\0\0\u{3}\u{8}\u{7}\0\0\0\0\0\u{1}\u{2}\u{5}\u{3}\u{1}\0\u{1}\u{7}Û\u{1}\u{8}%my:kv/store@1.2.0#[constructor]bucket\0\u{3}$my:kv/store@1.2.0#[method]bucket.get\0\u{4}$my:kv/store@1.2.0#[static]bucket.all\0\u{5}\u{1a}my:kv/store@1.2.0#drop-all\0\u{6}\u{1e}my:kv/store@1.2.0#[dtor]bucket\0\u{7}\u{c}cabi_realloc\0\u{8}\u{b}_initialize\0\t\u{6}memory\u{2}\0\n\u{1d}\u{7}\u{3}\0\0\u{b}\u{3}\0\0\u{b}\u{3}\0\0\u{b}\u{3}\0\0\u{b}\u{3}\0\0\u{b}\u{3}\0\0\u{b}\u{3}\0\0\u{b}\u{1}4\0asm\u{1}\0\0\0\u{1}\u{6}\u{1}`\u{2}\u{7f}\u{7f}\0\u{3}\u{2}\u{1}\0\u{4}\u{5}\u{1}p\u{1}\u{1}\u{1}\u{7}\u{10}\u{2}\u{1}0\0\0\u{8}$imports\u{1}\0\n\u{5}\u{1}\u{3}\0\0\u{b}\u{1}0\0asm\u{1}\0\0\0\u{1}\u{6}\u{1}`\u{2}\u{7f}\u{7f}\0\u{2}\u{15}\u{2}\0\u{1}0\0\0\0\u{8}$imports\u{1}p\u{1}\u{1}\u{1}\t\u{7}\u{1}\0A\0\u{b}\u{1}\0\u{2}\u{4}\u{1}\0\u{1}\0\u{6}\u{7}\u{1}\0\0\u{1}\0\u{1}0\u{7}\u{5}\u{1}?\u{7f}\u{1}\0\u{8}\u{7}\u{3}\u{2}\0\u{4}\0\u{3}\0\u{2}h\u{2}\u{1}\u{3}\u{14}[resource-new]bucket\0\u{1}\u{14}[resource-rep]bucket\0\u{2}\u{15}[resource-drop]bucket\0\u{3}\0\0\u{1}\u{19}[export]my:kv/store@1.2.0\u{12}\u{1}\u{6}M\u{4}\0\u{2}\u{1}\u{2}\u{6}memory\0\0\u{1}\u{2}\u{c}cabi_realloc\0\u{1}\u{1}\0\u{8}$imports\0\0\u{1}\u{2}\u{1e}my:kv/store@1.2.0#[dtor]bucket\u{2}\u{18}\u{2}\u{1}\u{2}\u{8}$imports\u{1}\0\u{1}0\0\u{5}\0\u{2}\u{1}\0\u{12}\u{3}\u{7}\r\u{2}i\0@\u{1}\u{4}names\0\u{1}\u{6}+\u{1}\0\0\u{1}\u{2}%my:kv/store@1.2.0#[constructor]bucket\u{8}\u{b}\u{1}\0\0\u{6}\u{3}\u{3}\0\u{4}\u{4}\0\u{2}\u{7};\u{7}h\0sp}r\u{2}\u{3}key\u{4}\u{5}value\u{5}q\u{2}\u{7}missing\0\0\u{5}other\u{1}s\0j\u{1}\u{6}\u{1}\u{7}@\u{2}\u{4}self\u{3}\u{1}k\u{4}\0\u{8}\u{6}*\u{1}\0\0\u{1}\u{2}$my:kv/store@1.2.0#[method]bucket.get\u{8}\u{b}\u{1}\0\0\u{7}\u{3}\u{3}\0\u{4}\u{4}\0\t\u{7}\u{7}\u{2}p\u{1}@\0\0\n\u{6}*\u{1}\0\0\u{1}\u{2}$my:kv/store@1.2.0#[static]bucket.all\u{8}\u{b}\u{1}\0\0\u{8}\u{3}\u{3}\0\u{4}\u{4}\0\u{b}\u{7}\u{8}\u{1}@\u{1}\u{1}b\u{1}\u{1}\0\u{6} \u{1}\0\0\u{1}\u{2}\u{1a}my:kv/store@1.2.0#drop-all\u{8}\u{b}\u{1}\0\0\t\u{3}\u{3}\0\u{4}\u{4}\0\u{c}\u{4}Î\u{4}\0asm\r\0\u{1}\0\n\u{17}\u{1}\0\u{12}import-type-bucket\u{3}\u{1}\u{7}\r\u{2}i\0@\u{1}\u{4}names\0\u{1}\n\u{1e}\u{1}\0\u{19}import-constructor-bucket\u{1}\u{2}\u{7}\u{4}\u{2}h\0s\n\u{15}\u{1}\0\u{f}import-type-key\u{3}\0\u{4}\u{7}\u{11}\u{2}p}r\u{2}\u{3}key\u{5}\u{5}value\u{6}\n\u{17}\u{1}\0\u{11}import-type-entry\u{3}\0\u{7}\u{7}\u{16}\u{1}q\u{2}\u{7}missing\0\0\u{5}other\u{1}s\0\n\u{19}\u{1}\0\u{13}import-type-failure\u{3}\0\t\u{7}\u{13}\u{2}j\u{1}\u{8}\u{1}\n@\u{2}\u{4}self\u{3}\u{1}k\u{5}\0\u{b}\n\u{1d}\u{1}\0\u{18}import-method-bucket-get\u{1}\u{c}\u{7}\u{7}\u{2}p\u{1}@\0\0\r\n\u{1d}\u{1}\0\u{18}import-static-bucket-all\u{1}\u{e}\u{7}\u{8}\u{1}@\u{1}\u{1}b\u{1}\u{1}\0\n\u{19}\u{1}\0\u{14}import-func-drop-all\u{1}\u{f}\u{7}\u{2}\u{1}s\u{b}\t\u{1}\0\u{3}key\u{3}\u{10}\0\u{7}\u{11}\u{2}p}r\u{2}\u{3}key\u{11}\u{5}value\u{12}\u{b}\u{b}\u{1}\0\u{5}entry\u{3}\u{13}\0\u{7}\u{16}\u{1}q\u{2}\u{7}missing\0\0\u{5}other\u{1}s\0\u{b}\u{18}\u{2}\0\u{7}failure\u{3}\u{15}\0\0\u{6}bucket\u{3}\0\0\u{7}\r\u{2}i\u{17}@\u{1}\u{4}names\0\u{18}\u{b}\u{1b}\u{1}\0\u{13}[constructor]bucket\u{1}\0\u{1}\u{1}\u{19}\u{7}\u{15}\u{3}h\u{17}j\u{1}\u{14}\u{1}\u{16}@\u{2}\u{4}self\u{1a}\u{1}k\u{11}\0\u{1b}\u{b}\u{1a}\u{1}\0\u{12}[method]bucket.get\u{1}\u{1}\u{1}\u{1}\u{1c}\u{7}\u{7}\u{2}p\u{18}@\0\0\u{1d}\u{b}\u{1a}\u{1}\0\u{12}[static]bucket.all\u{1}\u{2}\u{1}\u{1}\u{1e}\u{7}\u{8}\u{1}@\u{1}\u{1}b\u{18}\u{1}\0\u{b}\u{10}\u{1}\0\u{8}drop-all\u{1}\u{3}\u{1}\u{1}\u{1f}\u{5}¾\u{1}\u{1}\0\0\u{8}\u{19}import-constructor-bucket\u{1}\0\u{18}import-method-bucket-get\u{1}\u{1}\u{18}import-static-bucket-all\u{1}\u{2}\u{14}import-func-drop-all\u{1}\u{3}\u{12}import-type-bucket\u{3}\0\u{f}import-type-key\u{3}\u{4}\u{11}import-type-entry\u{3}\u{6}\u{13}import-type-failure\u{3}\u{7}\u{b}\u{17}\u{1}\0\u{11}my:kv/store@1.2.0\u{5}\0\0\0/\tproducers\u{1}\u{c}processed-by\u{1}\rwit-component\u{7}0.200.0")

pub export_resource_parts : parts_of export_resource_bytes ≡ Ok (parts ((module_part (codes "\0asm\u{1}\0\0\0\u{1}\u{11}\u{3}`\u{1}\u{7f}\u{1}\u{7f}`\u{4}\u{7f}\u{7f}\u{7f}\u{7f}\u{1}\u{7f}`\0\0\u{2}\u{95}\u{1}\u{3}\u{19}[export]my:kv/store@1.2.0\u{14}[resource-new]bucket\0\0\u{19}[export]my:kv/store@1.2.0\u{14}[resource-rep]bucket\0\0\u{19}[export]my:kv/store@1.2.0\u{15}[resource-drop]bucket\0\0\u{3}\u{8}\u{7}\0\0\0\0\0\u{1}\u{2}\u{5}\u{3}\u{1}\0\u{1}\u{7}Û\u{1}\u{8}%my:kv/store@1.2.0#[constructor]bucket\0\u{3}$my:kv/store@1.2.0#[method]bucket.get\0\u{4}$my:kv/store@1.2.0#[static]bucket.all\0\u{5}\u{1a}my:kv/store@1.2.0#drop-all\0\u{6}\u{1e}my:kv/store@1.2.0#[dtor]bucket\0\u{7}\u{c}cabi_realloc\0\u{8}\u{b}_initialize\0\t\u{6}memory\u{2}\0\n\u{1d}\u{7}\u{3}\0\0\u{b}\u{3}\0\0\u{b}\u{3}\0\0\u{b}\u{3}\0\0\u{b}\u{3}\0\0\u{b}\u{3}\0\0\u{b}\u{3}\0\0\u{b}")) ∷ (module_part (codes "\0asm\u{1}\0\0\0\u{1}\u{6}\u{1}`\u{2}\u{7f}\u{7f}\0\u{3}\u{2}\u{1}\0\u{4}\u{5}\u{1}p\u{1}\u{1}\u{1}\u{7}\u{10}\u{2}\u{1}0\0\0\u{8}$imports\u{1}\0\n\u{5}\u{1}\u{3}\0\0\u{b}")) ∷ (module_part (codes "\0asm\u{1}\0\0\0\u{1}\u{6}\u{1}`\u{2}\u{7f}\u{7f}\0\u{2}\u{15}\u{2}\0\u{1}0\0\0\0\u{8}$imports\u{1}p\u{1}\u{1}\u{1}\t\u{7}\u{1}\0A\0\u{b}\u{1}\0")) ∷ (core_instance_part (core_instantiate 1 [])) ∷ (alias_part (core_export_alias func_sort 0 (codes "0"))) ∷ (resource_part (resource_def c.I32 (Some 0))) ∷ (canon_part (builtin 2 ((type_operand 0) ∷ []))) ∷ (canon_part (builtin 4 ((type_operand 0) ∷ []))) ∷ (canon_part (builtin 3 ((type_operand 0) ∷ []))) ∷ (core_instance_part (core_exports (((codes "[resource-new]bucket"), func_sort, 1) ∷ ((codes "[resource-rep]bucket"), func_sort, 2) ∷ ((codes "[resource-drop]bucket"), func_sort, 3) ∷ []))) ∷ (core_instance_part (core_instantiate 0 (((codes "[export]my:kv/store@1.2.0"), 1) ∷ []))) ∷ (alias_part (core_export_alias memory_sort 2 (codes "memory"))) ∷ (alias_part (core_export_alias func_sort 2 (codes "cabi_realloc"))) ∷ (alias_part (core_export_alias table_sort 0 (codes "$imports"))) ∷ (alias_part (core_export_alias func_sort 2 (codes "my:kv/store@1.2.0#[dtor]bucket"))) ∷ (core_instance_part (core_exports (((codes "$imports"), table_sort, 0) ∷ ((codes "0"), func_sort, 5) ∷ []))) ∷ (core_instance_part (core_instantiate 2 (([], 3) ∷ []))) ∷ (type_part (value_def (own_def 0))) ∷ (type_part (func_def false (((codes "name"), (Primitive p.String)) ∷ []) (Some (Index 1)))) ∷ (alias_part (core_export_alias func_sort 2 (codes "my:kv/store@1.2.0#[constructor]bucket"))) ∷ (canon_part (lift 6 ((memory 0) ∷ (realloc 4) ∷ utf8 ∷ []) 2)) ∷ (type_part (value_def (borrow_def 0))) ∷ (type_part (value_def (primitive_def p.String))) ∷ (type_part (value_def (list_def (Primitive p.U8)))) ∷ (type_part (value_def (record_def (((codes "key"), (Index 4)) ∷ ((codes "value"), (Index 5)) ∷ [])))) ∷ (type_part (value_def (variant_def (((codes "missing"), None) ∷ ((codes "other"), (Some (Primitive p.String))) ∷ [])))) ∷ (type_part (value_def (result_def (Some (Index 6)) (Some (Index 7))))) ∷ (type_part (func_def false (((codes "self"), (Index 3)) ∷ ((codes "k"), (Index 4)) ∷ []) (Some (Index 8)))) ∷ (alias_part (core_export_alias func_sort 2 (codes "my:kv/store@1.2.0#[method]bucket.get"))) ∷ (canon_part (lift 7 ((memory 0) ∷ (realloc 4) ∷ utf8 ∷ []) 9)) ∷ (type_part (value_def (list_def (Index 1)))) ∷ (type_part (func_def false [] (Some (Index 10)))) ∷ (alias_part (core_export_alias func_sort 2 (codes "my:kv/store@1.2.0#[static]bucket.all"))) ∷ (canon_part (lift 8 ((memory 0) ∷ (realloc 4) ∷ utf8 ∷ []) 11)) ∷ (type_part (func_def false (((codes "b"), (Index 1)) ∷ []) None)) ∷ (alias_part (core_export_alias func_sort 2 (codes "my:kv/store@1.2.0#drop-all"))) ∷ (canon_part (lift 9 ((memory 0) ∷ (realloc 4) ∷ utf8 ∷ []) 12)) ∷ (component_part (parts ((import_part (codes "import-type-bucket") e.Fresh) ∷ (type_part (value_def (own_def 0))) ∷ (type_part (func_def false (((codes "name"), (Primitive p.String)) ∷ []) (Some (Index 1)))) ∷ (import_part (codes "import-constructor-bucket") (e.Func 2)) ∷ (type_part (value_def (borrow_def 0))) ∷ (type_part (value_def (primitive_def p.String))) ∷ (import_part (codes "import-type-key") (e.Equal 4)) ∷ (type_part (value_def (list_def (Primitive p.U8)))) ∷ (type_part (value_def (record_def (((codes "key"), (Index 5)) ∷ ((codes "value"), (Index 6)) ∷ [])))) ∷ (import_part (codes "import-type-entry") (e.Equal 7)) ∷ (type_part (value_def (variant_def (((codes "missing"), None) ∷ ((codes "other"), (Some (Primitive p.String))) ∷ [])))) ∷ (import_part (codes "import-type-failure") (e.Equal 9)) ∷ (type_part (value_def (result_def (Some (Index 8)) (Some (Index 10))))) ∷ (type_part (func_def false (((codes "self"), (Index 3)) ∷ ((codes "k"), (Index 5)) ∷ []) (Some (Index 11)))) ∷ (import_part (codes "import-method-bucket-get") (e.Func 12)) ∷ (type_part (value_def (list_def (Index 1)))) ∷ (type_part (func_def false [] (Some (Index 13)))) ∷ (import_part (codes "import-static-bucket-all") (e.Func 14)) ∷ (type_part (func_def false (((codes "b"), (Index 1)) ∷ []) None)) ∷ (import_part (codes "import-func-drop-all") (e.Func 15)) ∷ (type_part (value_def (primitive_def p.String))) ∷ (export_part (codes "key") s.«Type» 16 None) ∷ (type_part (value_def (list_def (Primitive p.U8)))) ∷ (type_part (value_def (record_def (((codes "key"), (Index 17)) ∷ ((codes "value"), (Index 18)) ∷ [])))) ∷ (export_part (codes "entry") s.«Type» 19 None) ∷ (type_part (value_def (variant_def (((codes "missing"), None) ∷ ((codes "other"), (Some (Primitive p.String))) ∷ [])))) ∷ (export_part (codes "failure") s.«Type» 21 None) ∷ (export_part (codes "bucket") s.«Type» 0 None) ∷ (type_part (value_def (own_def 23))) ∷ (type_part (func_def false (((codes "name"), (Primitive p.String)) ∷ []) (Some (Index 24)))) ∷ (export_part (codes "[constructor]bucket") s.Func 0 (Some (e.Func 25))) ∷ (type_part (value_def (borrow_def 23))) ∷ (type_part (value_def (result_def (Some (Index 20)) (Some (Index 22))))) ∷ (type_part (func_def false (((codes "self"), (Index 26)) ∷ ((codes "k"), (Index 17)) ∷ []) (Some (Index 27)))) ∷ (export_part (codes "[method]bucket.get") s.Func 1 (Some (e.Func 28))) ∷ (type_part (value_def (list_def (Index 24)))) ∷ (type_part (func_def false [] (Some (Index 29)))) ∷ (export_part (codes "[static]bucket.all") s.Func 2 (Some (e.Func 30))) ∷ (type_part (func_def false (((codes "b"), (Index 24)) ∷ []) None)) ∷ (export_part (codes "drop-all") s.Func 3 (Some (e.Func 31))) ∷ []))) ∷ (instantiate_part 0 (((codes "import-constructor-bucket"), s.Func, 0) ∷ ((codes "import-method-bucket-get"), s.Func, 1) ∷ ((codes "import-static-bucket-all"), s.Func, 2) ∷ ((codes "import-func-drop-all"), s.Func, 3) ∷ ((codes "import-type-bucket"), s.«Type», 0) ∷ ((codes "import-type-key"), s.«Type», 4) ∷ ((codes "import-type-entry"), s.«Type», 6) ∷ ((codes "import-type-failure"), s.«Type», 7) ∷ [])) ∷ (export_part (codes "my:kv/store@1.2.0") s.Instance 0 None) ∷ (custom_part (codes "producers") (codes "\u{1}\u{c}processed-by\u{1}\rwit-component\u{7}0.200.0")) ∷ []))
unfolding read
export_resource_parts = refl
