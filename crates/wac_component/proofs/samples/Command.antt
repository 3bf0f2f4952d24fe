-- Printed by print_parts.py.
use Rattle.std.proofs.Common.{◌≡◌, ℕ, List, [], ◌∷◌, Some, None, Ok, codes, refl, false}
use Rattle.wac_types_shapes.specs.declared.primitives.component.PrimitiveType.TheVariants as p
use Rattle.wac_binary.specs.declared.types.ComponentValType.TheVariants.{Primitive, Index}
use Rattle.wac_binary.specs.declared.sorts.Sort.TheVariants as s
use Rattle.wac_binary.specs.declared.sorts.Description.TheVariants as e
use Rattle.wac_binary.specs.Items.{primitive_def, record_def, variant_def, list_def, tuple_def, flags_def, enum_def, option_def, result_def, own_def, borrow_def, export_alias, outer_alias, value_def, func_def, instance_def, decls, type_decl, alias_decl, export_decl}
use Rattle.wac_component.specs.Parts.{func_sort, table_sort, memory_sort, utf8, memory, realloc, type_operand, lift, lower, builtin, core_instantiate, core_exports, component_alias, core_export_alias, custom_part, module_part, core_instance_part, component_part, instantiate_part, alias_part, type_part, canon_part, import_part, export_part, parts}
use Rattle.wac_component.specs.Reading.{parts_of}
use Rattle.wac_component.proofs.Computing.{read}

-- command.wasm: 3890 bytes
abbrev command_bytes : List ℕ
command_bytes = (codes "\0asm\r\0\u{1}\0\u{7}=\u{1}B\u{4}\u{4}\0\u{5}error\u{3}\u{1}\u{1}h\0\u{1}@\u{1}\u{4}self\u{1}\0s\u{4}\0\u{1d}[method]error.to-debug-string\u{1}\u{2}\n\u{18}\u{1}\0\u{13}wasi:io/error@0.2.0\u{5}\0\u{7}9\u{1}B\u{4}\u{4}\0\u{8}pollable\u{3}\u{1}\u{1}h\0\u{1}@\u{1}\u{4}self\u{1}\u{1}\0\u{4}\0\u{16}[method]pollable.block\u{1}\u{2}\n\u{17}\u{1}\0\u{12}wasi:io/poll@0.2.0\u{5}\u{1}\u{6}\u{16}\u{2}\u{3}\0\0\u{5}error\u{3}\0\u{1}\u{8}pollable\u{7}¬\u{2}\u{1}B\u{15}\u{2}\u{3}\u{2}\u{1}\u{2}\u{4}\0\u{5}error\u{3}\0\0\u{2}\u{3}\u{2}\u{1}\u{3}\u{4}\0\u{8}pollable\u{3}\0\u{2}\u{1}i\u{1}\u{1}q\u{2}\u{15}last-operation-failed\u{1}\u{4}\0\u{6}closed\0\0\u{4}\0\u{c}stream-error\u{3}\0\u{5}\u{4}\0\u{c}input-stream\u{3}\u{1}\u{4}\0\routput-stream\u{3}\u{1}\u{1}h\u{7}\u{1}p}\u{1}j\u{1}\n\u{1}\u{6}\u{1}@\u{2}\u{4}self\t\u{3}lenw\0\u{b}\u{4}\0\u{19}[method]input-stream.read\u{1}\u{c}\u{1}h\u{8}\u{1}j\0\u{1}\u{6}\u{1}@\u{2}\u{4}self\r\u{8}contents\n\0\u{e}\u{4}\0\u{1b}[method]output-stream.write\u{1}\u{f}\u{1}i\u{3}\u{1}@\u{1}\u{4}self\r\0\u{10}\u{4}\0\u{1f}[method]output-stream.subscribe\u{1}\u{11}\n\u{1a}\u{1}\0\u{15}wasi:io/streams@0.2.0\u{5}\u{4}\u{6}\u{12}\u{1}\u{3}\0\u{2}\routput-stream\u{7}2\u{1}B\u{5}\u{2}\u{3}\u{2}\u{1}\u{5}\u{4}\0\routput-stream\u{3}\0\0\u{1}i\u{1}\u{1}@\0\0\u{2}\u{4}\0\nget-stdout\u{1}\u{3}\n\u{1a}\u{1}\0\u{15}wasi:cli/stdout@0.2.0\u{5}\u{6}\u{7}7\u{1}B\u{4}\u{1}r\u{2}\u{7}secondsw\u{b}nanosecondsy\u{4}\0\u{8}datetime\u{3}\0\0\u{1}@\0\0\u{1}\u{4}\0\u{3}now\u{1}\u{2}\n!\u{1}\0\u{1c}wasi:clocks/wall-clock@0.2.0\u{5}\u{7}\u{6}\u{1d}\u{2}\u{3}\0\u{2}\u{c}input-stream\u{3}\0\u{4}\u{8}datetime\u{7}\u{a0}\u{3}\u{1}B\u{1a}\u{2}\u{3}\u{2}\u{1}\u{8}\u{4}\0\u{c}input-stream\u{3}\0\0\u{2}\u{3}\u{2}\u{1}\t\u{4}\0\u{8}datetime\u{3}\0\u{2}\u{1}w\u{4}\0\u{8}filesize\u{3}\0\u{4}\u{1}m\u{3}\u{7}unknown\tdirectory\u{c}regular-file\u{4}\0\u{f}descriptor-type\u{3}\0\u{6}\u{1}n\u{2}\u{4}read\u{5}write\u{4}\0\u{10}descriptor-flags\u{3}\0\u{8}\u{1}q\u{3}\tno-change\0\0\u{3}now\0\0\ttimestamp\u{1}\u{3}\0\u{4}\0\rnew-timestamp\u{3}\0\n\u{1}k\u{3}\u{1}r\u{3}\u{4}type\u{7}\u{4}size\u{5}\u{2}at\u{c}\u{4}\0\u{f}descriptor-stat\u{3}\0\r\u{1}m\u{2}\u{6}access\u{b}would-block\u{4}\0\nerror-code\u{3}\0\u{f}\u{4}\0\ndescriptor\u{3}\u{1}\u{1}h\u{11}\u{1}i\u{1}\u{1}j\u{1}\u{13}\u{1}\u{10}\u{1}@\u{2}\u{4}self\u{12}\u{6}offset\u{5}\0\u{14}\u{4}\0\"[method]descriptor.read-via-stream\u{1}\u{15}\u{1}j\u{1}\u{e}\u{1}\u{10}\u{1}@\u{1}\u{4}self\u{12}\0\u{16}\u{4}\0\u{17}[method]descriptor.stat\u{1}\u{17}\n \u{1}\0\u{1b}wasi:filesystem/types@0.2.0\u{5}\n\u{6}\u{f}\u{1}\u{3}\0\u{5}\ndescriptor\u{7}<\u{1}B\u{7}\u{2}\u{3}\u{2}\u{1}\u{b}\u{4}\0\ndescriptor\u{3}\0\0\u{1}i\u{1}\u{1}o\u{2}\u{2}s\u{1}p\u{3}\u{1}@\0\0\u{4}\u{4}\0\u{f}get-directories\u{1}\u{5}\n#\u{1}\0\u{1e}wasi:filesystem/preopens@0.2.0\u{5}\u{c}\u{1}å\u{6}\0asm\u{1}\0\0\0\u{1}\u{16}\u{4}`\u{2}\u{7f}\u{7f}\0`\u{1}\u{7f}\u{1}\u{7f}`\u{4}\u{7f}\u{7f}\u{7f}\u{7f}\u{1}\u{7f}`\0\0\u{2}æ\u{5}\u{f}\u{13}wasi:io/error@0.2.0\u{1d}[method]error.to-debug-string\0\0\u{13}wasi:io/error@0.2.0\u{14}[resource-drop]error\0\0\u{12}wasi:io/poll@0.2.0\u{16}[method]pollable.block\0\0\u{12}wasi:io/poll@0.2.0\u{17}[resource-drop]pollable\0\0\u{15}wasi:io/streams@0.2.0\u{19}[method]input-stream.read\0\0\u{15}wasi:io/streams@0.2.0\u{1b}[method]output-stream.write\0\0\u{15}wasi:io/streams@0.2.0\u{1f}[method]output-stream.subscribe\0\0\u{15}wasi:io/streams@0.2.0\u{1b}[resource-drop]input-stream\0\0\u{15}wasi:io/streams@0.2.0\u{1c}[resource-drop]output-stream\0\0\u{15}wasi:cli/stdout@0.2.0\nget-stdout\0\0\u{1c}wasi:clocks/wall-clock@0.2.0\u{3}now\0\0\u{1b}wasi:filesystem/types@0.2.0\"[method]descriptor.read-via-stream\0\0\u{1b}wasi:filesystem/types@0.2.0\u{17}[method]descriptor.stat\0\0\u{1b}wasi:filesystem/types@0.2.0\u{19}[resource-drop]descriptor\0\0\u{1e}wasi:filesystem/preopens@0.2.0\u{f}get-directories\0\0\u{3}\u{4}\u{3}\u{1}\u{2}\u{3}\u{5}\u{3}\u{1}\0\u{1}\u{7}@\u{4}\u{16}wasi:cli/run@0.2.0#run\0\u{f}\u{c}cabi_realloc\0\u{10}\u{b}_initialize\0\u{11}\u{6}memory\u{2}\0\n\r\u{3}\u{3}\0\0\u{b}\u{3}\0\0\u{b}\u{3}\0\0\u{b}\u{1}\u{85}\u{1}\0asm\u{1}\0\0\0\u{1}\u{6}\u{1}`\u{2}\u{7f}\u{7f}\0\u{3}\u{b}\n\0\0\0\0\0\0\0\0\0\0\u{4}\u{5}\u{1}p\u{1}\n\n\u{7}4\u{b}\u{1}0\0\0\u{1}1\0\u{1}\u{1}2\0\u{2}\u{1}3\0\u{3}\u{1}4\0\u{4}\u{1}5\0\u{5}\u{1}6\0\u{6}\u{1}7\0\u{7}\u{1}8\0\u{8}\u{1}9\0\t\u{8}$imports\u{1}\0\n)\n\u{3}\0\0\u{b}\u{3}\0\0\u{b}\u{3}\0\0\u{b}\u{3}\0\0\u{b}\u{3}\0\0\u{b}\u{3}\0\0\u{b}\u{3}\0\0\u{b}\u{3}\0\0\u{b}\u{3}\0\0\u{b}\u{3}\0\0\u{b}\u{1}f\0asm\u{1}\0\0\0\u{1}\u{6}\u{1}`\u{2}\u{7f}\u{7f}\0\u{2}B\u{b}\0\u{1}0\0\0\0\u{1}1\0\0\0\u{1}2\0\0\0\u{1}3\0\0\0\u{1}4\0\0\0\u{1}5\0\0\0\u{1}6\0\0\0\u{1}7\0\0\0\u{1}8\0\0\0\u{1}9\0\0\0\u{8}$imports\u{1}p\u{1}\n\n\t\u{10}\u{1}\0A\0\u{b}\n\0\u{1}\u{2}\u{3}\u{4}\u{5}\u{6}\u{7}\u{8}\t\u{2}\u{4}\u{1}\0\u{1}\0\u{6}\u{7}\u{1}\0\0\u{1}\0\u{1}0\u{8}\u{3}\u{1}\u{3}\u{2}\u{2}:\u{1}\u{1}\u{2}\u{1d}[method]error.to-debug-string\0\0\u{14}[resource-drop]error\0\u{1}\u{6}\u{7}\u{1}\0\0\u{1}\0\u{1}1\u{8}\u{3}\u{1}\u{3}\u{3}\u{2}6\u{1}\u{1}\u{2}\u{16}[method]pollable.block\0\u{2}\u{17}[resource-drop]pollable\0\u{3}\u{6}\u{13}\u{3}\0\0\u{1}\0\u{1}2\0\0\u{1}\0\u{1}3\0\0\u{1}\0\u{1}4\u{8}\u{5}\u{2}\u{3}\u{8}\u{3}\u{5}\u{2}\u{9c}\u{1}\u{1}\u{1}\u{5}\u{19}[method]input-stream.read\0\u{4}\u{1b}[method]output-stream.write\0\u{5}\u{1f}[method]output-stream.subscribe\0\u{6}\u{1b}[resource-drop]input-stream\0\u{7}\u{1c}[resource-drop]output-stream\0\u{8}\u{6}\u{7}\u{1}\0\0\u{1}\0\u{1}5\u{2}\u{10}\u{1}\u{1}\u{1}\nget-stdout\0\t\u{6}\u{7}\u{1}\0\0\u{1}\0\u{1}6\u{2}\t\u{1}\u{1}\u{1}\u{3}now\0\n\u{6}\r\u{2}\0\0\u{1}\0\u{1}7\0\0\u{1}\0\u{1}8\u{8}\u{3}\u{1}\u{3}\u{b}\u{2}^\u{1}\u{1}\u{3}\"[method]descriptor.read-via-stream\0\u{b}\u{17}[method]descriptor.stat\0\u{c}\u{19}[resource-drop]descriptor\0\r\u{6}\u{7}\u{1}\0\0\u{1}\0\u{1}9\u{2}Ñ\u{1}\u{2}\u{1}\u{1}\u{f}get-directories\0\u{e}\0\0\u{7}\u{13}wasi:io/error@0.2.0\u{12}\u{1}\u{12}wasi:io/poll@0.2.0\u{12}\u{2}\u{15}wasi:io/streams@0.2.0\u{12}\u{3}\u{15}wasi:cli/stdout@0.2.0\u{12}\u{4}\u{1c}wasi:clocks/wall-clock@0.2.0\u{12}\u{5}\u{1b}wasi:filesystem/types@0.2.0\u{12}\u{6}\u{1e}wasi:filesystem/preopens@0.2.0\u{12}\u{7}\u{6}K\u{4}\0\u{2}\u{1}\u{8}\u{6}memory\0\0\u{1}\u{8}\u{c}cabi_realloc\0\u{1}\u{1}\0\u{8}$imports\u{1}\0\0\u{1d}[method]error.to-debug-string\u{8}\n\u{1}\u{1}\0\0\u{3}\u{3}\0\u{4}\u{f}\0\u{6}\u{1b}\u{1}\u{1}\0\u{1}\u{16}[method]pollable.block\u{8}\n\u{1}\u{1}\0\u{1}\u{3}\u{3}\0\u{4}\u{f}\0\u{6}\u{1e}\u{1}\u{1}\0\u{2}\u{19}[method]input-stream.read\u{8}\n\u{1}\u{1}\0\u{2}\u{3}\u{3}\0\u{4}\u{f}\0\u{6} \u{1}\u{1}\0\u{2}\u{1b}[method]output-stream.write\u{8}\n\u{1}\u{1}\0\u{3}\u{3}\u{3}\0\u{4}\u{f}\0\u{6}$\u{1}\u{1}\0\u{2}\u{1f}[method]output-stream.subscribe\u{8}\n\u{1}\u{1}\0\u{4}\u{3}\u{3}\0\u{4}\u{f}\0\u{6}\u{f}\u{1}\u{1}\0\u{3}\nget-stdout\u{8}\n\u{1}\u{1}\0\u{5}\u{3}\u{3}\0\u{4}\u{f}\0\u{6}\u{8}\u{1}\u{1}\0\u{4}\u{3}now\u{8}\n\u{1}\u{1}\0\u{6}\u{3}\u{3}\0\u{4}\u{f}\0\u{6}'\u{1}\u{1}\0\u{5}\"[method]descriptor.read-via-stream\u{8}\n\u{1}\u{1}\0\u{7}\u{3}\u{3}\0\u{4}\u{f}\0\u{6}\u{1c}\u{1}\u{1}\0\u{5}\u{17}[method]descriptor.stat\u{8}\n\u{1}\u{1}\0\u{8}\u{3}\u{3}\0\u{4}\u{f}\0\u{6}\u{14}\u{1}\u{1}\0\u{6}\u{f}get-directories\u{8}\n\u{1}\u{1}\0\t\u{3}\u{3}\0\u{4}\u{f}\0\u{2}<\u{2}\u{1}\u{b}\u{8}$imports\u{1}\0\u{1}0\0\u{10}\u{1}1\0\u{11}\u{1}2\0\u{12}\u{1}3\0\u{13}\u{1}4\0\u{14}\u{1}5\0\u{15}\u{1}6\0\u{16}\u{1}7\0\u{17}\u{1}8\0\u{18}\u{1}9\0\u{19}\0\u{2}\u{1}\0\u{12}\t\u{7}\u{8}\u{2}j\0\0@\0\0\r\u{6}\u{1c}\u{1}\0\0\u{1}\u{8}\u{16}wasi:cli/run@0.2.0#run\u{8}\u{b}\u{1}\0\0\u{1a}\u{3}\u{3}\0\u{4}\u{f}\0\u{e}\u{4}?\0asm\r\0\u{1}\0\u{7}\u{8}\u{2}j\0\0@\0\0\0\n\u{14}\u{1}\0\u{f}import-func-run\u{1}\u{1}\u{7}\u{8}\u{2}j\0\0@\0\0\u{2}\u{b}\u{b}\u{1}\0\u{3}run\u{1}\0\u{1}\u{1}\u{3}\u{5}\u{16}\u{1}\0\0\u{1}\u{f}import-func-run\u{1}\n\u{b}\u{18}\u{1}\0\u{12}wasi:cli/run@0.2.0\u{5}\u{7}\0\0/\tproducers\u{1}\u{c}processed-by\u{1}\rwit-component\u{7}0.200.0")

pub command_parts : parts_of command_bytes ≡ Ok (parts ((type_part (instance_def (decls ((export_decl (codes "error") e.Fresh) ∷ (type_decl (value_def (borrow_def 0))) ∷ (type_decl (func_def false (((codes "self"), (Index 1)) ∷ []) (Some (Primitive p.String)))) ∷ (export_decl (codes "[method]error.to-debug-string") (e.Func 2)) ∷ [])))) ∷ (import_part (codes "wasi:io/error@0.2.0") (e.Instance 0)) ∷ (type_part (instance_def (decls ((export_decl (codes "pollable") e.Fresh) ∷ (type_decl (value_def (borrow_def 0))) ∷ (type_decl (func_def false (((codes "self"), (Index 1)) ∷ []) None)) ∷ (export_decl (codes "[method]pollable.block") (e.Func 2)) ∷ [])))) ∷ (import_part (codes "wasi:io/poll@0.2.0") (e.Instance 1)) ∷ (alias_part (component_alias (export_alias s.«Type» 0 (codes "error")))) ∷ (alias_part (component_alias (export_alias s.«Type» 1 (codes "pollable")))) ∷ (type_part (instance_def (decls ((alias_decl (outer_alias s.«Type» 1 2)) ∷ (export_decl (codes "error") (e.Equal 0)) ∷ (alias_decl (outer_alias s.«Type» 1 3)) ∷ (export_decl (codes "pollable") (e.Equal 2)) ∷ (type_decl (value_def (own_def 1))) ∷ (type_decl (value_def (variant_def (((codes "last-operation-failed"), (Some (Index 4))) ∷ ((codes "closed"), None) ∷ [])))) ∷ (export_decl (codes "stream-error") (e.Equal 5)) ∷ (export_decl (codes "input-stream") e.Fresh) ∷ (export_decl (codes "output-stream") e.Fresh) ∷ (type_decl (value_def (borrow_def 7))) ∷ (type_decl (value_def (list_def (Primitive p.U8)))) ∷ (type_decl (value_def (result_def (Some (Index 10)) (Some (Index 6))))) ∷ (type_decl (func_def false (((codes "self"), (Index 9)) ∷ ((codes "len"), (Primitive p.U64)) ∷ []) (Some (Index 11)))) ∷ (export_decl (codes "[method]input-stream.read") (e.Func 12)) ∷ (type_decl (value_def (borrow_def 8))) ∷ (type_decl (value_def (result_def None (Some (Index 6))))) ∷ (type_decl (func_def false (((codes "self"), (Index 13)) ∷ ((codes "contents"), (Index 10)) ∷ []) (Some (Index 14)))) ∷ (export_decl (codes "[method]output-stream.write") (e.Func 15)) ∷ (type_decl (value_def (own_def 3))) ∷ (type_decl (func_def false (((codes "self"), (Index 13)) ∷ []) (Some (Index 16)))) ∷ (export_decl (codes "[method]output-stream.subscribe") (e.Func 17)) ∷ [])))) ∷ (import_part (codes "wasi:io/streams@0.2.0") (e.Instance 4)) ∷ (alias_part (component_alias (export_alias s.«Type» 2 (codes "output-stream")))) ∷ (type_part (instance_def (decls ((alias_decl (outer_alias s.«Type» 1 5)) ∷ (export_decl (codes "output-stream") (e.Equal 0)) ∷ (type_decl (value_def (own_def 1))) ∷ (type_decl (func_def false [] (Some (Index 2)))) ∷ (export_decl (codes "get-stdout") (e.Func 3)) ∷ [])))) ∷ (import_part (codes "wasi:cli/stdout@0.2.0") (e.Instance 6)) ∷ (type_part (instance_def (decls ((type_decl (value_def (record_def (((codes "seconds"), (Primitive p.U64)) ∷ ((codes "nanoseconds"), (Primitive p.U32)) ∷ [])))) ∷ (export_decl (codes "datetime") (e.Equal 0)) ∷ (type_decl (func_def false [] (Some (Index 1)))) ∷ (export_decl (codes "now") (e.Func 2)) ∷ [])))) ∷ (import_part (codes "wasi:clocks/wall-clock@0.2.0") (e.Instance 7)) ∷ (alias_part (component_alias (export_alias s.«Type» 2 (codes "input-stream")))) ∷ (alias_part (component_alias (export_alias s.«Type» 4 (codes "datetime")))) ∷ (type_part (instance_def (decls ((alias_decl (outer_alias s.«Type» 1 8)) ∷ (export_decl (codes "input-stream") (e.Equal 0)) ∷ (alias_decl (outer_alias s.«Type» 1 9)) ∷ (export_decl (codes "datetime") (e.Equal 2)) ∷ (type_decl (value_def (primitive_def p.U64))) ∷ (export_decl (codes "filesize") (e.Equal 4)) ∷ (type_decl (value_def (enum_def ((codes "unknown") ∷ (codes "directory") ∷ (codes "regular-file") ∷ [])))) ∷ (export_decl (codes "descriptor-type") (e.Equal 6)) ∷ (type_decl (value_def (flags_def ((codes "read") ∷ (codes "write") ∷ [])))) ∷ (export_decl (codes "descriptor-flags") (e.Equal 8)) ∷ (type_decl (value_def (variant_def (((codes "no-change"), None) ∷ ((codes "now"), None) ∷ ((codes "timestamp"), (Some (Index 3))) ∷ [])))) ∷ (export_decl (codes "new-timestamp") (e.Equal 10)) ∷ (type_decl (value_def (option_def (Index 3)))) ∷ (type_decl (value_def (record_def (((codes "type"), (Index 7)) ∷ ((codes "size"), (Index 5)) ∷ ((codes "at"), (Index 12)) ∷ [])))) ∷ (export_decl (codes "descriptor-stat") (e.Equal 13)) ∷ (type_decl (value_def (enum_def ((codes "access") ∷ (codes "would-block") ∷ [])))) ∷ (export_decl (codes "error-code") (e.Equal 15)) ∷ (export_decl (codes "descriptor") e.Fresh) ∷ (type_decl (value_def (borrow_def 17))) ∷ (type_decl (value_def (own_def 1))) ∷ (type_decl (value_def (result_def (Some (Index 19)) (Some (Index 16))))) ∷ (type_decl (func_def false (((codes "self"), (Index 18)) ∷ ((codes "offset"), (Index 5)) ∷ []) (Some (Index 20)))) ∷ (export_decl (codes "[method]descriptor.read-via-stream") (e.Func 21)) ∷ (type_decl (value_def (result_def (Some (Index 14)) (Some (Index 16))))) ∷ (type_decl (func_def false (((codes "self"), (Index 18)) ∷ []) (Some (Index 22)))) ∷ (export_decl (codes "[method]descriptor.stat") (e.Func 23)) ∷ [])))) ∷ (import_part (codes "wasi:filesystem/types@0.2.0") (e.Instance 10)) ∷ (alias_part (component_alias (export_alias s.«Type» 5 (codes "descriptor")))) ∷ (type_part (instance_def (decls ((alias_decl (outer_alias s.«Type» 1 11)) ∷ (export_decl (codes "descriptor") (e.Equal 0)) ∷ (type_decl (value_def (own_def 1))) ∷ (type_decl (value_def (tuple_def ((Index 2) ∷ (Primitive p.String) ∷ [])))) ∷ (type_decl (value_def (list_def (Index 3)))) ∷ (type_decl (func_def false [] (Some (Index 4)))) ∷ (export_decl (codes "get-directories") (e.Func 5)) ∷ [])))) ∷ (import_part (codes "wasi:filesystem/preopens@0.2.0") (e.Instance 12)) ∷ (module_part (codes "\0asm\u{1}\0\0\0\u{1}\u{16}\u{4}`\u{2}\u{7f}\u{7f}\0`\u{1}\u{7f}\u{1}\u{7f}`\u{4}\u{7f}\u{7f}\u{7f}\u{7f}\u{1}\u{7f}`\0\0\u{2}æ\u{5}\u{f}\u{13}wasi:io/error@0.2.0\u{1d}[method]error.to-debug-string\0\0\u{13}wasi:io/error@0.2.0\u{14}[resource-drop]error\0\0\u{12}wasi:io/poll@0.2.0\u{16}[method]pollable.block\0\0\u{12}wasi:io/poll@0.2.0\u{17}[resource-drop]pollable\0\0\u{15}wasi:io/streams@0.2.0\u{19}[method]input-stream.read\0\0\u{15}wasi:io/streams@0.2.0\u{1b}[method]output-stream.write\0\0\u{15}wasi:io/streams@0.2.0\u{1f}[method]output-stream.subscribe\0\0\u{15}wasi:io/streams@0.2.0\u{1b}[resource-drop]input-stream\0\0\u{15}wasi:io/streams@0.2.0\u{1c}[resource-drop]output-stream\0\0\u{15}wasi:cli/stdout@0.2.0\nget-stdout\0\0\u{1c}wasi:clocks/wall-clock@0.2.0\u{3}now\0\0\u{1b}wasi:filesystem/types@0.2.0\"[method]descriptor.read-via-stream\0\0\u{1b}wasi:filesystem/types@0.2.0\u{17}[method]descriptor.stat\0\0\u{1b}wasi:filesystem/types@0.2.0\u{19}[resource-drop]descriptor\0\0\u{1e}wasi:filesystem/preopens@0.2.0\u{f}get-directories\0\0\u{3}\u{4}\u{3}\u{1}\u{2}\u{3}\u{5}\u{3}\u{1}\0\u{1}\u{7}@\u{4}\u{16}wasi:cli/run@0.2.0#run\0\u{f}\u{c}cabi_realloc\0\u{10}\u{b}_initialize\0\u{11}\u{6}memory\u{2}\0\n\r\u{3}\u{3}\0\0\u{b}\u{3}\0\0\u{b}\u{3}\0\0\u{b}")) ∷ (module_part (codes "\0asm\u{1}\0\0\0\u{1}\u{6}\u{1}`\u{2}\u{7f}\u{7f}\0\u{3}\u{b}\n\0\0\0\0\0\0\0\0\0\0\u{4}\u{5}\u{1}p\u{1}\n\n\u{7}4\u{b}\u{1}0\0\0\u{1}1\0\u{1}\u{1}2\0\u{2}\u{1}3\0\u{3}\u{1}4\0\u{4}\u{1}5\0\u{5}\u{1}6\0\u{6}\u{1}7\0\u{7}\u{1}8\0\u{8}\u{1}9\0\t\u{8}$imports\u{1}\0\n)\n\u{3}\0\0\u{b}\u{3}\0\0\u{b}\u{3}\0\0\u{b}\u{3}\0\0\u{b}\u{3}\0\0\u{b}\u{3}\0\0\u{b}\u{3}\0\0\u{b}\u{3}\0\0\u{b}\u{3}\0\0\u{b}\u{3}\0\0\u{b}")) ∷ (module_part (codes "\0asm\u{1}\0\0\0\u{1}\u{6}\u{1}`\u{2}\u{7f}\u{7f}\0\u{2}B\u{b}\0\u{1}0\0\0\0\u{1}1\0\0\0\u{1}2\0\0\0\u{1}3\0\0\0\u{1}4\0\0\0\u{1}5\0\0\0\u{1}6\0\0\0\u{1}7\0\0\0\u{1}8\0\0\0\u{1}9\0\0\0\u{8}$imports\u{1}p\u{1}\n\n\t\u{10}\u{1}\0A\0\u{b}\n\0\u{1}\u{2}\u{3}\u{4}\u{5}\u{6}\u{7}\u{8}\t")) ∷ (core_instance_part (core_instantiate 1 [])) ∷ (alias_part (core_export_alias func_sort 0 (codes "0"))) ∷ (canon_part (builtin 3 ((type_operand 2) ∷ []))) ∷ (core_instance_part (core_exports (((codes "[method]error.to-debug-string"), func_sort, 0) ∷ ((codes "[resource-drop]error"), func_sort, 1) ∷ []))) ∷ (alias_part (core_export_alias func_sort 0 (codes "1"))) ∷ (canon_part (builtin 3 ((type_operand 3) ∷ []))) ∷ (core_instance_part (core_exports (((codes "[method]pollable.block"), func_sort, 2) ∷ ((codes "[resource-drop]pollable"), func_sort, 3) ∷ []))) ∷ (alias_part (core_export_alias func_sort 0 (codes "2"))) ∷ (alias_part (core_export_alias func_sort 0 (codes "3"))) ∷ (alias_part (core_export_alias func_sort 0 (codes "4"))) ∷ (canon_part (builtin 3 ((type_operand 8) ∷ []))) ∷ (canon_part (builtin 3 ((type_operand 5) ∷ []))) ∷ (core_instance_part (core_exports (((codes "[method]input-stream.read"), func_sort, 4) ∷ ((codes "[method]output-stream.write"), func_sort, 5) ∷ ((codes "[method]output-stream.subscribe"), func_sort, 6) ∷ ((codes "[resource-drop]input-stream"), func_sort, 7) ∷ ((codes "[resource-drop]output-stream"), func_sort, 8) ∷ []))) ∷ (alias_part (core_export_alias func_sort 0 (codes "5"))) ∷ (core_instance_part (core_exports (((codes "get-stdout"), func_sort, 9) ∷ []))) ∷ (alias_part (core_export_alias func_sort 0 (codes "6"))) ∷ (core_instance_part (core_exports (((codes "now"), func_sort, 10) ∷ []))) ∷ (alias_part (core_export_alias func_sort 0 (codes "7"))) ∷ (alias_part (core_export_alias func_sort 0 (codes "8"))) ∷ (canon_part (builtin 3 ((type_operand 11) ∷ []))) ∷ (core_instance_part (core_exports (((codes "[method]descriptor.read-via-stream"), func_sort, 11) ∷ ((codes "[method]descriptor.stat"), func_sort, 12) ∷ ((codes "[resource-drop]descriptor"), func_sort, 13) ∷ []))) ∷ (alias_part (core_export_alias func_sort 0 (codes "9"))) ∷ (core_instance_part (core_exports (((codes "get-directories"), func_sort, 14) ∷ []))) ∷ (core_instance_part (core_instantiate 0 (((codes "wasi:io/error@0.2.0"), 1) ∷ ((codes "wasi:io/poll@0.2.0"), 2) ∷ ((codes "wasi:io/streams@0.2.0"), 3) ∷ ((codes "wasi:cli/stdout@0.2.0"), 4) ∷ ((codes "wasi:clocks/wall-clock@0.2.0"), 5) ∷ ((codes "wasi:filesystem/types@0.2.0"), 6) ∷ ((codes "wasi:filesystem/preopens@0.2.0"), 7) ∷ []))) ∷ (alias_part (core_export_alias memory_sort 8 (codes "memory"))) ∷ (alias_part (core_export_alias func_sort 8 (codes "cabi_realloc"))) ∷ (alias_part (core_export_alias table_sort 0 (codes "$imports"))) ∷ (alias_part (component_alias (export_alias s.Func 0 (codes "[method]error.to-debug-string")))) ∷ (canon_part (lower 0 ((memory 0) ∷ (realloc 15) ∷ utf8 ∷ []))) ∷ (alias_part (component_alias (export_alias s.Func 1 (codes "[method]pollable.block")))) ∷ (canon_part (lower 1 ((memory 0) ∷ (realloc 15) ∷ utf8 ∷ []))) ∷ (alias_part (component_alias (export_alias s.Func 2 (codes "[method]input-stream.read")))) ∷ (canon_part (lower 2 ((memory 0) ∷ (realloc 15) ∷ utf8 ∷ []))) ∷ (alias_part (component_alias (export_alias s.Func 2 (codes "[method]output-stream.write")))) ∷ (canon_part (lower 3 ((memory 0) ∷ (realloc 15) ∷ utf8 ∷ []))) ∷ (alias_part (component_alias (export_alias s.Func 2 (codes "[method]output-stream.subscribe")))) ∷ (canon_part (lower 4 ((memory 0) ∷ (realloc 15) ∷ utf8 ∷ []))) ∷ (alias_part (component_alias (export_alias s.Func 3 (codes "get-stdout")))) ∷ (canon_part (lower 5 ((memory 0) ∷ (realloc 15) ∷ utf8 ∷ []))) ∷ (alias_part (component_alias (export_alias s.Func 4 (codes "now")))) ∷ (canon_part (lower 6 ((memory 0) ∷ (realloc 15) ∷ utf8 ∷ []))) ∷ (alias_part (component_alias (export_alias s.Func 5 (codes "[method]descriptor.read-via-stream")))) ∷ (canon_part (lower 7 ((memory 0) ∷ (realloc 15) ∷ utf8 ∷ []))) ∷ (alias_part (component_alias (export_alias s.Func 5 (codes "[method]descriptor.stat")))) ∷ (canon_part (lower 8 ((memory 0) ∷ (realloc 15) ∷ utf8 ∷ []))) ∷ (alias_part (component_alias (export_alias s.Func 6 (codes "get-directories")))) ∷ (canon_part (lower 9 ((memory 0) ∷ (realloc 15) ∷ utf8 ∷ []))) ∷ (core_instance_part (core_exports (((codes "$imports"), table_sort, 0) ∷ ((codes "0"), func_sort, 16) ∷ ((codes "1"), func_sort, 17) ∷ ((codes "2"), func_sort, 18) ∷ ((codes "3"), func_sort, 19) ∷ ((codes "4"), func_sort, 20) ∷ ((codes "5"), func_sort, 21) ∷ ((codes "6"), func_sort, 22) ∷ ((codes "7"), func_sort, 23) ∷ ((codes "8"), func_sort, 24) ∷ ((codes "9"), func_sort, 25) ∷ []))) ∷ (core_instance_part (core_instantiate 2 (([], 9) ∷ []))) ∷ (type_part (value_def (result_def None None))) ∷ (type_part (func_def false [] (Some (Index 13)))) ∷ (alias_part (core_export_alias func_sort 8 (codes "wasi:cli/run@0.2.0#run"))) ∷ (canon_part (lift 26 ((memory 0) ∷ (realloc 15) ∷ utf8 ∷ []) 14)) ∷ (component_part (parts ((type_part (value_def (result_def None None))) ∷ (type_part (func_def false [] (Some (Index 0)))) ∷ (import_part (codes "import-func-run") (e.Func 1)) ∷ (type_part (value_def (result_def None None))) ∷ (type_part (func_def false [] (Some (Index 2)))) ∷ (export_part (codes "run") s.Func 0 (Some (e.Func 3))) ∷ []))) ∷ (instantiate_part 0 (((codes "import-func-run"), s.Func, 10) ∷ [])) ∷ (export_part (codes "wasi:cli/run@0.2.0") s.Instance 7 None) ∷ (custom_part (codes "producers") (codes "\u{1}\u{c}processed-by\u{1}\rwit-component\u{7}0.200.0")) ∷ []))
unfolding read
command_parts = refl
