-- Printed by print_parts.py.
use Rattle.std.proofs.Common.{◌≡◌, ℕ, List, [], ◌∷◌, Some, None, Ok, codes, refl, true, false}
use Rattle.wac_types_shapes.specs.declared.primitives.component.PrimitiveType.TheVariants as p
use Rattle.wac_binary.specs.declared.types.ComponentValType.TheVariants.{Primitive, Index}
use Rattle.wac_binary.specs.declared.sorts.Sort.TheVariants as s
use Rattle.wac_binary.specs.declared.sorts.Description.TheVariants as e
use Rattle.wac_binary.specs.Items.{fixed_list_def, tuple_def, enum_def, result_def, own_def, stream_def, future_def, export_alias, value_def, func_def, instance_def, decls, type_decl, export_decl}
use Rattle.wac_component.specs.Parts.{func_sort, table_sort, memory_sort, utf8, memory, realloc, type_operand, lift, lower, builtin, core_instantiate, core_exports, component_alias, core_export_alias, custom_part, module_part, core_instance_part, component_part, instantiate_part, alias_part, type_part, canon_part, import_part, export_part, parts}
use Rattle.wac_component.specs.Reading.{parts_of}
use Rattle.wac_component.proofs.Computing.{read}

-- async.wasm: 1204 bytes
abbrev pub async_bytes : List ℕ
async_bytes = (codes "\0asm\r\0\u{1}\0\u{7}\u{88}\u{1}\u{1}B\u{12}\u{4}\0\u{4}body\u{3}\u{1}\u{1}m\u{2}\u{2}ok\u{3}bad\u{4}\0\u{4}code\u{3}\0\u{1}\u{1}f\u{1}}\u{1}j\0\u{1}\u{2}\u{1}e\u{1}\u{4}\u{1}i\0\u{1}e\0\u{1}o\u{2}\u{6}\u{7}\u{1}@\u{2}\u{1}s\u{3}\u{1}t\u{5}\0\u{8}\u{4}\0\u{10}[static]body.new\u{1}\t\u{1}j\u{1}\u{6}\u{1}d\u{1}C\u{1}\u{1}b\u{6}\0\n\u{4}\0\u{4}send\u{1}\u{b}\u{1}gv\u{4}\u{1}f\0\u{1}@\u{1}\u{1}a\u{c}\0\r\u{4}\0\u{5}fixed\u{1}\u{e}\n\u{1a}\u{1}\0\u{15}wasi:http/types@0.3.0\u{5}\0\u{1}\u{8f}\u{2}\0asm\u{1}\0\0\0\u{1}\u{16}\u{4}`\u{2}\u{7f}\u{7f}\0`\u{1}\u{7f}\u{1}\u{7f}`\u{4}\u{7f}\u{7f}\u{7f}\u{7f}\u{1}\u{7f}`\0\0\u{2}\u{91}\u{1}\u{4}\u{15}wasi:http/types@0.3.0\u{10}[static]body.new\0\0\u{15}wasi:http/types@0.3.0\u{4}send\0\0\u{15}wasi:http/types@0.3.0\u{5}fixed\0\0\u{15}wasi:http/types@0.3.0\u{13}[resource-drop]body\0\0\u{3}\u{4}\u{3}\u{1}\u{2}\u{3}\u{5}\u{3}\u{1}\0\u{1}\u{7}?\u{4}\u{15}my:app/handler#handle\0\u{4}\u{c}cabi_realloc\0\u{5}\u{b}_initialize\0\u{6}\u{6}memory\u{2}\0\n\r\u{3}\u{3}\0\0\u{b}\u{3}\0\0\u{b}\u{3}\0\0\u{b}\u{1}F\0asm\u{1}\0\0\0\u{1}\u{6}\u{1}`\u{2}\u{7f}\u{7f}\0\u{3}\u{4}\u{3}\0\0\0\u{4}\u{5}\u{1}p\u{1}\u{3}\u{3}\u{7}\u{18}\u{4}\u{1}0\0\0\u{1}1\0\u{1}\u{1}2\0\u{2}\u{8}$imports\u{1}\0\n\r\u{3}\u{3}\0\0\u{b}\u{3}\0\0\u{b}\u{3}\0\0\u{b}\u{1}<\0asm\u{1}\0\0\0\u{1}\u{6}\u{1}`\u{2}\u{7f}\u{7f}\0\u{2}\u{1f}\u{4}\0\u{1}0\0\0\0\u{1}1\0\0\0\u{1}2\0\0\0\u{8}$imports\u{1}p\u{1}\u{3}\u{3}\t\t\u{1}\0A\0\u{b}\u{3}\0\u{1}\u{2}\u{2}\u{4}\u{1}\0\u{1}\0\u{6}\u{1b}\u{4}\0\0\u{1}\0\u{1}0\0\0\u{1}\0\u{1}1\0\0\u{1}\0\u{1}2\u{3}\0\0\u{4}body\u{8}\u{3}\u{1}\u{3}\u{1}\u{2}V\u{2}\u{1}\u{4}\u{10}[static]body.new\0\0\u{4}send\0\u{1}\u{5}fixed\0\u{2}\u{13}[resource-drop]body\0\u{3}\0\0\u{1}\u{15}wasi:http/types@0.3.0\u{12}\u{1}\u{6}>\u{4}\0\u{2}\u{1}\u{2}\u{6}memory\0\0\u{1}\u{2}\u{c}cabi_realloc\0\u{1}\u{1}\0\u{8}$imports\u{1}\0\0\u{10}[static]body.new\u{8}\n\u{1}\u{1}\0\0\u{3}\u{3}\0\u{4}\u{4}\0\u{6}\t\u{1}\u{1}\0\0\u{4}send\u{8}\n\u{1}\u{1}\0\u{1}\u{3}\u{3}\0\u{4}\u{4}\0\u{6}\n\u{1}\u{1}\0\0\u{5}fixed\u{8}\n\u{1}\u{1}\0\u{2}\u{3}\u{3}\0\u{4}\u{4}\0\u{2} \u{2}\u{1}\u{4}\u{8}$imports\u{1}\0\u{1}0\0\u{5}\u{1}1\0\u{6}\u{1}2\0\u{7}\0\u{2}\u{1}\0\u{12}\u{3}\u{7}\u{e}\u{3}i\u{1}j\u{1}\u{2}\0C\u{1}\u{1}b\u{2}\0\u{3}\u{6}\u{1b}\u{1}\0\0\u{1}\u{2}\u{15}my:app/handler#handle\u{8}\u{b}\u{1}\0\0\u{8}\u{3}\u{3}\0\u{4}\u{4}\0\u{4}\u{4}\u{8a}\u{1}\0asm\r\0\u{1}\0\n+\u{2}\0\u{10}import-type-body\u{3}\u{1}\0\u{11}import-type-body0\u{3}\0\0\u{7}\u{e}\u{3}i\u{1}j\u{1}\u{2}\0C\u{1}\u{1}b\u{2}\0\u{3}\n\u{17}\u{1}\0\u{12}import-func-handle\u{1}\u{4}\u{b}\n\u{1}\0\u{4}body\u{3}\0\0\u{7}\u{e}\u{3}i\u{5}j\u{1}\u{6}\0C\u{1}\u{1}b\u{6}\0\u{7}\u{b}\u{e}\u{1}\0\u{6}handle\u{1}\0\u{1}\u{1}\u{8}\u{5}@\u{1}\0\0\u{3}\u{12}import-func-handle\u{1}\u{3}\u{10}import-type-body\u{3}\u{1}\u{11}import-type-body0\u{3}\u{1}\u{b}\u{14}\u{1}\0\u{e}my:app/handler\u{5}\u{1}\0\0/\tproducers\u{1}\u{c}processed-by\u{1}\rwit-component\u{7}0.200.0")

pub async_parts : parts_of async_bytes ≡ Ok (parts ((type_part (instance_def (decls ((export_decl (codes "body") e.Fresh) ∷ (type_decl (value_def (enum_def ((codes "ok") ∷ (codes "bad") ∷ [])))) ∷ (export_decl (codes "code") (e.Equal 1)) ∷ (type_decl (value_def (stream_def (Some (Primitive p.U8))))) ∷ (type_decl (value_def (result_def None (Some (Index 2))))) ∷ (type_decl (value_def (future_def (Some (Index 4))))) ∷ (type_decl (value_def (own_def 0))) ∷ (type_decl (value_def (future_def None))) ∷ (type_decl (value_def (tuple_def ((Index 6) ∷ (Index 7) ∷ [])))) ∷ (type_decl (func_def false (((codes "s"), (Index 3)) ∷ ((codes "t"), (Index 5)) ∷ []) (Some (Index 8)))) ∷ (export_decl (codes "[static]body.new") (e.Func 9)) ∷ (type_decl (value_def (result_def (Some (Index 6)) (Some (Primitive p.ErrorContext))))) ∷ (type_decl (func_def true (((codes "b"), (Index 6)) ∷ []) (Some (Index 10)))) ∷ (export_decl (codes "send") (e.Func 11)) ∷ (type_decl (value_def (fixed_list_def (Primitive p.F32) 4))) ∷ (type_decl (value_def (stream_def None))) ∷ (type_decl (func_def false (((codes "a"), (Index 12)) ∷ []) (Some (Index 13)))) ∷ (export_decl (codes "fixed") (e.Func 14)) ∷ [])))) ∷ (import_part (codes "wasi:http/types@0.3.0") (e.Instance 0)) ∷ (module_part (codes "\0asm\u{1}\0\0\0\u{1}\u{16}\u{4}`\u{2}\u{7f}\u{7f}\0`\u{1}\u{7f}\u{1}\u{7f}`\u{4}\u{7f}\u{7f}\u{7f}\u{7f}\u{1}\u{7f}`\0\0\u{2}\u{91}\u{1}\u{4}\u{15}wasi:http/types@0.3.0\u{10}[static]body.new\0\0\u{15}wasi:http/types@0.3.0\u{4}send\0\0\u{15}wasi:http/types@0.3.0\u{5}fixed\0\0\u{15}wasi:http/types@0.3.0\u{13}[resource-drop]body\0\0\u{3}\u{4}\u{3}\u{1}\u{2}\u{3}\u{5}\u{3}\u{1}\0\u{1}\u{7}?\u{4}\u{15}my:app/handler#handle\0\u{4}\u{c}cabi_realloc\0\u{5}\u{b}_initialize\0\u{6}\u{6}memory\u{2}\0\n\r\u{3}\u{3}\0\0\u{b}\u{3}\0\0\u{b}\u{3}\0\0\u{b}")) ∷ (module_part (codes "\0asm\u{1}\0\0\0\u{1}\u{6}\u{1}`\u{2}\u{7f}\u{7f}\0\u{3}\u{4}\u{3}\0\0\0\u{4}\u{5}\u{1}p\u{1}\u{3}\u{3}\u{7}\u{18}\u{4}\u{1}0\0\0\u{1}1\0\u{1}\u{1}2\0\u{2}\u{8}$imports\u{1}\0\n\r\u{3}\u{3}\0\0\u{b}\u{3}\0\0\u{b}\u{3}\0\0\u{b}")) ∷ (module_part (codes "\0asm\u{1}\0\0\0\u{1}\u{6}\u{1}`\u{2}\u{7f}\u{7f}\0\u{2}\u{1f}\u{4}\0\u{1}0\0\0\0\u{1}1\0\0\0\u{1}2\0\0\0\u{8}$imports\u{1}p\u{1}\u{3}\u{3}\t\t\u{1}\0A\0\u{b}\u{3}\0\u{1}\u{2}")) ∷ (core_instance_part (core_instantiate 1 [])) ∷ (alias_part (core_export_alias func_sort 0 (codes "0"))) ∷ (alias_part (core_export_alias func_sort 0 (codes "1"))) ∷ (alias_part (core_export_alias func_sort 0 (codes "2"))) ∷ (alias_part (component_alias (export_alias s.«Type» 0 (codes "body")))) ∷ (canon_part (builtin 3 ((type_operand 1) ∷ []))) ∷ (core_instance_part (core_exports (((codes "[static]body.new"), func_sort, 0) ∷ ((codes "send"), func_sort, 1) ∷ ((codes "fixed"), func_sort, 2) ∷ ((codes "[resource-drop]body"), func_sort, 3) ∷ []))) ∷ (core_instance_part (core_instantiate 0 (((codes "wasi:http/types@0.3.0"), 1) ∷ []))) ∷ (alias_part (core_export_alias memory_sort 2 (codes "memory"))) ∷ (alias_part (core_export_alias func_sort 2 (codes "cabi_realloc"))) ∷ (alias_part (core_export_alias table_sort 0 (codes "$imports"))) ∷ (alias_part (component_alias (export_alias s.Func 0 (codes "[static]body.new")))) ∷ (canon_part (lower 0 ((memory 0) ∷ (realloc 4) ∷ utf8 ∷ []))) ∷ (alias_part (component_alias (export_alias s.Func 0 (codes "send")))) ∷ (canon_part (lower 1 ((memory 0) ∷ (realloc 4) ∷ utf8 ∷ []))) ∷ (alias_part (component_alias (export_alias s.Func 0 (codes "fixed")))) ∷ (canon_part (lower 2 ((memory 0) ∷ (realloc 4) ∷ utf8 ∷ []))) ∷ (core_instance_part (core_exports (((codes "$imports"), table_sort, 0) ∷ ((codes "0"), func_sort, 5) ∷ ((codes "1"), func_sort, 6) ∷ ((codes "2"), func_sort, 7) ∷ []))) ∷ (core_instance_part (core_instantiate 2 (([], 3) ∷ []))) ∷ (type_part (value_def (own_def 1))) ∷ (type_part (value_def (result_def (Some (Index 2)) None))) ∷ (type_part (func_def true (((codes "b"), (Index 2)) ∷ []) (Some (Index 3)))) ∷ (alias_part (core_export_alias func_sort 2 (codes "my:app/handler#handle"))) ∷ (canon_part (lift 8 ((memory 0) ∷ (realloc 4) ∷ utf8 ∷ []) 4)) ∷ (component_part (parts ((import_part (codes "import-type-body") e.Fresh) ∷ (import_part (codes "import-type-body0") (e.Equal 0)) ∷ (type_part (value_def (own_def 1))) ∷ (type_part (value_def (result_def (Some (Index 2)) None))) ∷ (type_part (func_def true (((codes "b"), (Index 2)) ∷ []) (Some (Index 3)))) ∷ (import_part (codes "import-func-handle") (e.Func 4)) ∷ (export_part (codes "body") s.«Type» 0 None) ∷ (type_part (value_def (own_def 5))) ∷ (type_part (value_def (result_def (Some (Index 6)) None))) ∷ (type_part (func_def true (((codes "b"), (Index 6)) ∷ []) (Some (Index 7)))) ∷ (export_part (codes "handle") s.Func 0 (Some (e.Func 8))) ∷ []))) ∷ (instantiate_part 0 (((codes "import-func-handle"), s.Func, 3) ∷ ((codes "import-type-body"), s.«Type», 1) ∷ ((codes "import-type-body0"), s.«Type», 1) ∷ [])) ∷ (export_part (codes "my:app/handler") s.Instance 1 None) ∷ (custom_part (codes "producers") (codes "\u{1}\u{c}processed-by\u{1}\rwit-component\u{7}0.200.0")) ∷ []))
unfolding read
async_parts = refl
