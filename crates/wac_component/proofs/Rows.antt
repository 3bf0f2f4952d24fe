-- Rows: sections of small components, and the parts or the fault that they are read as, by computing.
use Rattle.std.proofs.Common.{◌≡◌, ℕ, List, [], ◌∷◌, ◌++◌, length, Some, None, Ok, Err, codes, refl, true, false}
use Rattle.wac_types_shapes.specs.declared.primitives.component.PrimitiveType.TheVariants as p
use Rattle.wac_types_shapes.specs.declared.primitives.core_types.CoreType.TheVariants as c
use Rattle.wac_types_shapes.specs.declared.primitives.core_types.CoreRefType.TheVariants as r
use Rattle.wac_binary.specs.declared.core_types.EntityType.TheVariants as t
use Rattle.wac_binary.specs.declared.types.ComponentValType.TheVariants.{Primitive, Index}
use Rattle.wac_binary.specs.declared.sorts.Sort.TheVariants as s
use Rattle.wac_binary.specs.declared.sorts.Description.TheVariants as e
use Rattle.wac_component.specs.declared.fault.TextFault.{TextFault}
use Rattle.wac_component.specs.declared.fault.TextFault.TheVariants.{Short, LongNumber, NotUtf8, UnknownByte, Misplaced, Leftover, NoPreamble, Unsupported}
use Rattle.wac_component.specs.declared.fault.Feature.TheVariants.{CanonicalFunction, CoreModule, CoreType, MapType, NameForm, NamedResults, TooDeep, Values}
use Rattle.wac_binary.specs.Items.{list_def, variant_def, record_def, result_def, value_def, primitive_def, enum_def, own_def, fixed_list_def, func_def, instance_def, component_def, decls, type_decl, alias_decl, import_decl, export_decl, core_type_decl, export_alias, outer_alias, module_import, module_func, module_export}
use Rattle.wac_component.specs.Parts.{Part, parts, custom_part, module_part, core_instance_part, core_type_part, component_part, instantiate_part, exports_part, alias_part, type_part, resource_part, canon_part, import_part, export_part, module_type, function_type, module_decl, outer_decl, resource_def, async_resource_def, component_alias, core_export_alias, core_outer_alias, core_instantiate, core_exports, memory_sort, lift, lower, builtin, type_operand, core_type_operand, table_operand, memory_operand, flag_operand, result_operand, slot_operand, options_operand, utf8, memory, realloc, post_return, async, callback, function_type_option, gc}
use Rattle.wac_component.specs.Reading.{parts_of, parts_at, preamble, module_preamble}
use Rattle.wac_component.proofs.Computing.{read}

-- A section of less than 128 bytes.
abbrev sec : ℕ → List ℕ → List ℕ
sec id contents = id ∷ length contents ∷ contents

abbrev IsRead : List ℕ → List Part → Type 0
IsRead sections ps = parts_of (preamble ++ sections) ≡ Ok (parts ps)

abbrev Fails : List ℕ → TextFault → Type 0
Fails sections fault = parts_of (preamble ++ sections) ≡ Err fault

-- The preamble.

pub nothing : IsRead [] []
unfolding read
nothing = refl

pub no_bytes : parts_of [] ≡ Err NoPreamble
unfolding read
no_bytes = refl

pub a_module : parts_of module_preamble ≡ Err (Unsupported CoreModule)
unfolding read
a_module = refl

-- Sections: any order, empty ones, several of one id; used up.

pub any_order : IsRead (sec 11 (1 ∷ 0 ∷ 1 ∷ 0x78 ∷ 3 ∷ 0 ∷ 0 ∷ []) ++ sec 7 (0 ∷ []) ++ sec 7 (2 ∷ 0x7f ∷ 0x70 ∷ 0x7d ∷ []) ++ sec 0 (1 ∷ 0x63 ∷ 9 ∷ 9 ∷ []) ++ sec 7 (1 ∷ 0x64 ∷ []))
    (export_part (codes "x") s.«Type» 0 None ∷ type_part (value_def (primitive_def p.Bool)) ∷ type_part (value_def (list_def (Primitive p.U8))) ∷ custom_part (codes "c") (9 ∷ 9 ∷ []) ∷ type_part (value_def (primitive_def p.ErrorContext)) ∷ [])
unfolding read
any_order = refl

pub left_over : Fails (sec 7 (1 ∷ 0x7f ∷ 0x7f ∷ [])) Leftover
unfolding read
left_over = refl

pub too_few : Fails (sec 7 (2 ∷ 0x7f ∷ [])) Short
unfolding read
too_few = refl

pub past_the_end : Fails (7 ∷ 3 ∷ 1 ∷ 0x7f ∷ []) Short
unfolding read
past_the_end = refl

pub no_section : Fails (sec 13 []) UnknownByte
unfolding read
no_section = refl

pub start : Fails (sec 9 (0 ∷ 0 ∷ 0 ∷ [])) (Unsupported Values)
unfolding read
start = refl

-- Numbers.

-- Index 64 as a value type in two bytes and in five, and index 2 ^ 32 - 1.
pub signed : IsRead (sec 7 (3 ∷ 0x70 ∷ 0xc0 ∷ 0x00 ∷ 0x70 ∷ 0xc0 ∷ 0x80 ∷ 0x80 ∷ 0x80 ∷ 0x00 ∷ 0x70 ∷ 0xff ∷ 0xff ∷ 0xff ∷ 0xff ∷ 0x0f ∷ []))
    (type_part (value_def (list_def (Index 64))) ∷ type_part (value_def (list_def (Index 64))) ∷ type_part (value_def (list_def (Index 4294967295))) ∷ [])
unfolding read
signed = refl

pub negative : Fails (sec 7 (1 ∷ 0x70 ∷ 0x40 ∷ [])) UnknownByte
unfolding read
negative = refl

-- A primitive type has one byte: 0x7f in two is a negative number.
pub padded_primitive : Fails (sec 7 (1 ∷ 0x70 ∷ 0xff ∷ 0x7f ∷ [])) UnknownByte
unfolding read
padded_primitive = refl

pub six_bytes : Fails (sec 7 (0x81 ∷ 0x80 ∷ 0x80 ∷ 0x80 ∷ 0x80 ∷ 0x00 ∷ 0x7f ∷ [])) LongNumber
unfolding read
six_bytes = refl

pub unused_bits : Fails (sec 7 (0x81 ∷ 0x80 ∷ 0x80 ∷ 0x80 ∷ 0x10 ∷ 0x7f ∷ [])) LongNumber
unfolding read
unused_bits = refl

-- Names.

pub old_and_new_form : IsRead (sec 10 (2 ∷ 0 ∷ 1 ∷ 0x78 ∷ 3 ∷ 1 ∷ 1 ∷ 2 ∷ 0xc3 ∷ 0xa9 ∷ 5 ∷ 7 ∷ [])) (import_part (codes "x") e.Fresh ∷ import_part (0xc3 ∷ 0xa9 ∷ []) (e.Instance 7) ∷ [])
unfolding read
old_and_new_form = refl

pub other_form : Fails (sec 10 (1 ∷ 2 ∷ 1 ∷ 0x78 ∷ 0 ∷ 3 ∷ 1 ∷ [])) (Unsupported NameForm)
unfolding read
other_form = refl

-- An overlong form of a slash, a surrogate, and half a character.
pub overlong : Fails (sec 10 (1 ∷ 0 ∷ 2 ∷ 0xc0 ∷ 0xaf ∷ 3 ∷ 1 ∷ [])) NotUtf8
unfolding read
overlong = refl

pub surrogate : Fails (sec 10 (1 ∷ 0 ∷ 3 ∷ 0xed ∷ 0xa0 ∷ 0x80 ∷ 3 ∷ 1 ∷ [])) NotUtf8
unfolding read
surrogate = refl

pub half : Fails (sec 10 (1 ∷ 0 ∷ 1 ∷ 0xc3 ∷ 3 ∷ 1 ∷ [])) NotUtf8
unfolding read
half = refl

-- Types.

pub values : IsRead (sec 7 (5 ∷ 0x72 ∷ 1 ∷ 1 ∷ 0x61 ∷ 0x73 ∷ 0x71 ∷ 2 ∷ 1 ∷ 0x61 ∷ 0 ∷ 0 ∷ 1 ∷ 0x62 ∷ 1 ∷ 0 ∷ 0 ∷ 0x6a ∷ 1 ∷ 0x7f ∷ 0 ∷ 0x67 ∷ 0x7d ∷ 0x90 ∷ 0x4e ∷ 0x6d ∷ 1 ∷ 1 ∷ 0x61 ∷ []))
    (type_part (value_def (record_def ((codes "a", Primitive p.String) ∷ []))) ∷ type_part (value_def (variant_def ((codes "a", None) ∷ (codes "b", Some (Index 0)) ∷ []))) ∷ type_part (value_def (result_def (Some (Primitive p.Bool)) None))
    ∷ type_part (value_def (fixed_list_def (Primitive p.U8) 10000)) ∷ type_part (value_def (enum_def (codes "a" ∷ []))) ∷ [])
unfolding read
values = refl

pub functions : IsRead (sec 7 (2 ∷ 0x40 ∷ 1 ∷ 1 ∷ 0x61 ∷ 0x7f ∷ 1 ∷ 0 ∷ 0x43 ∷ 0 ∷ 0 ∷ 0x74 ∷ [])) (type_part (func_def false ((codes "a", Primitive p.Bool) ∷ []) None) ∷ type_part (func_def true [] (Some (Primitive p.Char))) ∷ [])
unfolding read
functions = refl

pub named_results : Fails (sec 7 (1 ∷ 0x40 ∷ 0 ∷ 1 ∷ 1 ∷ 0x61 ∷ 0x79 ∷ [])) (Unsupported NamedResults)
unfolding read
named_results = refl

pub map_type : Fails (sec 7 (1 ∷ 0x63 ∷ 0x73 ∷ 0x7f ∷ [])) (Unsupported MapType)
unfolding read
map_type = refl

-- A case ends with zero.
pub refines : Fails (sec 7 (1 ∷ 0x71 ∷ 1 ∷ 1 ∷ 0x61 ∷ 0 ∷ 1 ∷ 0 ∷ [])) UnknownByte
unfolding read
refines = refl

pub resources : IsRead (sec 7 (3 ∷ 0x3f ∷ 0x7f ∷ 0 ∷ 0x3f ∷ 0x7e ∷ 1 ∷ 5 ∷ 0x3e ∷ 0x7f ∷ 3 ∷ 1 ∷ 4 ∷ [])) (resource_part (resource_def c.I32 None) ∷ resource_part (resource_def c.I64 (Some 5)) ∷ resource_part (async_resource_def c.I32 3 (Some 4)) ∷ [])
unfolding read
resources = refl

-- Each declaration, in a component type with an instance type in it.
pub declarations : IsRead (sec 7 (1 ∷ 0x41 ∷ 2 ∷ 1 ∷ 0x42 ∷ 4 ∷ 2 ∷ 3 ∷ 2 ∷ 1 ∷ 0 ∷ 2 ∷ 3 ∷ 0 ∷ 0 ∷ 1 ∷ 0x74 ∷ 4 ∷ 0 ∷ 1 ∷ 0x72 ∷ 3 ∷ 1 ∷ 0 ∷ 0x50 ∷ 2 ∷ 1 ∷ 0x60 ∷ 1 ∷ 0x7f ∷ 0 ∷ 3 ∷ 1 ∷ 0x66 ∷ 0 ∷ 0 ∷ 3 ∷ 0 ∷ 1 ∷ 0x6d ∷ 0 ∷ 0x11 ∷ 0 ∷ []))
    (type_part (component_def (decls (type_decl (instance_def (decls (alias_decl (outer_alias s.«Type» 1 0) ∷ alias_decl (export_alias s.«Type» 0 (codes "t")) ∷ export_decl (codes "r") e.Fresh
    ∷ core_type_decl (module_func (c.I32 ∷ []) [] ∷ module_export (codes "f") (t.Function 0) ∷ []) ∷ []))) ∷ import_decl (codes "m") (e.CoreModule 0) ∷ []))) ∷ [])
unfolding read
declarations = refl

pub import_in_instance : Fails (sec 7 (1 ∷ 0x42 ∷ 1 ∷ 3 ∷ 0 ∷ 1 ∷ 0x6d ∷ 3 ∷ 1 ∷ [])) UnknownByte
unfolding read
import_in_instance = refl

pub resource_in_type : Fails (sec 7 (1 ∷ 0x42 ∷ 1 ∷ 1 ∷ 0x3f ∷ 0x7f ∷ 0 ∷ [])) Misplaced
unfolding read
resource_in_type = refl

pub value_import : Fails (sec 10 (1 ∷ 0 ∷ 1 ∷ 0x78 ∷ 2 ∷ 1 ∷ 0x7f ∷ [])) (Unsupported Values)
unfolding read
value_import = refl

-- A type in a type in a type is nested three deep, in a component that is itself one deep.
abbrev deep : List ℕ
deep = preamble ++ sec 7 (1 ∷ 0x42 ∷ 1 ∷ 1 ∷ 0x42 ∷ 1 ∷ 1 ∷ 0x7f ∷ [])

pub deep_enough : parts_at 4 deep ≡ Ok (parts (type_part (instance_def (decls (type_decl (instance_def (decls (type_decl (value_def (primitive_def p.Bool)) ∷ []))) ∷ []))) ∷ []))
unfolding read
deep_enough = refl

pub too_deep : parts_at 2 deep ≡ Err (Unsupported TooDeep)
unfolding read
too_deep = refl

-- Core types.

pub core_types : IsRead (sec 3 (2 ∷ 0x60 ∷ 2 ∷ 0x7f ∷ 0x70 ∷ 1 ∷ 0x7b ∷ 0x50 ∷ 5 ∷ 2 ∷ 0x10 ∷ 1 ∷ 1 ∷ 0 ∷ 0 ∷ 1 ∷ 0x6d ∷ 1 ∷ 0x74 ∷ 1 ∷ 0x6f ∷ 5 ∷ 1 ∷ 2 ∷ 0 ∷ 1 ∷ 0x6d ∷ 1 ∷ 0x79 ∷ 2 ∷ 8 ∷ 1 ∷ 0 ∷ 3 ∷ 1 ∷ 0x67 ∷ 3 ∷ 0x7e ∷ 1 ∷ 3 ∷ 1 ∷ 0x65 ∷ 4 ∷ 0 ∷ 0 ∷ []))
    (core_type_part (function_type (c.I32 ∷ c.Ref r.FuncRef ∷ []) (c.V128 ∷ [])) ∷ core_type_part (module_type (outer_decl 1 0
    ∷ module_decl (module_import (codes "m") (codes "t") (t.Table (record { element_type = r.ExternRef; table64 = true; minimum = 1; maximum = Some 2; shared = false })))
    ∷ module_decl (module_import (codes "m") (codes "y") (t.Memory (record { minimum = 1; maximum = None; memory64 = false; shared = false; page_size_log2 = Some 0 })))
    ∷ module_decl (module_export (codes "g") (t.Global (record { val_type = c.I64; mutable = true; shared = false }))) ∷ module_decl (module_export (codes "e") (t.Tag 0)) ∷ [])) ∷ [])
unfolding read
core_types = refl

-- A minimum of 2 ^ 64 - 1, and one that has a bit more.
pub long_limit : IsRead (sec 3 (1 ∷ 0x50 ∷ 1 ∷ 3 ∷ 1 ∷ 0x79 ∷ 2 ∷ 4 ∷ 0xff ∷ 0xff ∷ 0xff ∷ 0xff ∷ 0xff ∷ 0xff ∷ 0xff ∷ 0xff ∷ 0xff ∷ 0x01 ∷ []))
    (core_type_part (module_type (module_decl (module_export (codes "y") (t.Memory (record { minimum = 18446744073709551615; maximum = None; memory64 = true; shared = false; page_size_log2 = None }))) ∷ [])) ∷ [])
unfolding read
long_limit = refl

pub too_long_limit : Fails (sec 3 (1 ∷ 0x50 ∷ 1 ∷ 3 ∷ 1 ∷ 0x79 ∷ 2 ∷ 4 ∷ 0xff ∷ 0xff ∷ 0xff ∷ 0xff ∷ 0xff ∷ 0xff ∷ 0xff ∷ 0xff ∷ 0xff ∷ 0x03 ∷ [])) LongNumber
unfolding read
too_long_limit = refl

pub garbage_collected : Fails (sec 3 (1 ∷ 0x5f ∷ 0 ∷ [])) (Unsupported CoreType)
unfolding read
garbage_collected = refl

-- Modules, components, instances, aliases, exports.

pub nested : IsRead (sec 1 module_preamble ++ sec 4 (preamble ++ sec 4 preamble ++ sec 0 (0 ∷ [])) ++ sec 2 (2 ∷ 0 ∷ 0 ∷ 1 ∷ 1 ∷ 0x61 ∷ 0x12 ∷ 3 ∷ 1 ∷ 1 ∷ 1 ∷ 0x61 ∷ 2 ∷ 4 ∷ []) ++ sec 5 (2 ∷ 0 ∷ 0 ∷ 1 ∷ 1 ∷ 0x61 ∷ 0 ∷ 0x11 ∷ 2 ∷ 1 ∷ 1 ∷ 0 ∷ 1 ∷ 0x61 ∷ 1 ∷ 3 ∷ []))
    (module_part module_preamble ∷ component_part (parts (component_part (parts []) ∷ custom_part [] [] ∷ [])) ∷ core_instance_part (core_instantiate 0 ((codes "a", 3) ∷ [])) ∷ core_instance_part (core_exports ((codes "a", memory_sort, 4) ∷ []))
    ∷ instantiate_part 0 ((codes "a", s.CoreModule, 2) ∷ []) ∷ exports_part ((codes "a", s.Func, 3) ∷ []) ∷ [])
unfolding read
nested = refl

pub module_as_component : Fails (sec 4 module_preamble) (Unsupported CoreModule)
unfolding read
module_as_component = refl

pub component_as_module : Fails (sec 1 preamble) NoPreamble
unfolding read
component_as_module = refl

pub aliases : IsRead (sec 6 (5 ∷ 5 ∷ 0 ∷ 2 ∷ 1 ∷ 0x61 ∷ 0 ∷ 0x11 ∷ 0 ∷ 2 ∷ 1 ∷ 0x61 ∷ 0 ∷ 2 ∷ 1 ∷ 4 ∷ 1 ∷ 0x61 ∷ 3 ∷ 2 ∷ 1 ∷ 7 ∷ 0 ∷ 0x10 ∷ 2 ∷ 1 ∷ 8 ∷ []))
    (alias_part (component_alias (export_alias s.Instance 2 (codes "a"))) ∷ alias_part (component_alias (export_alias s.CoreModule 2 (codes "a"))) ∷ alias_part (core_export_alias memory_sort 4 (codes "a"))
    ∷ alias_part (component_alias (outer_alias s.«Type» 1 7)) ∷ alias_part (core_outer_alias 1 8) ∷ [])
unfolding read
aliases = refl

-- A core function is no export of an instance, a function none of a core instance.
pub core_of_instance : Fails (sec 6 (1 ∷ 0 ∷ 0 ∷ 0 ∷ 2 ∷ 1 ∷ 0x61 ∷ [])) Misplaced
unfolding read
core_of_instance = refl

pub function_of_core_instance : Fails (sec 6 (1 ∷ 1 ∷ 1 ∷ 2 ∷ 1 ∷ 0x61 ∷ [])) Misplaced
unfolding read
function_of_core_instance = refl

pub ascribed : IsRead (sec 11 (1 ∷ 0 ∷ 1 ∷ 0x66 ∷ 1 ∷ 2 ∷ 1 ∷ 1 ∷ 9 ∷ [])) (export_part (codes "f") s.Func 2 (Some (e.Func 9)) ∷ [])
unfolding read
ascribed = refl

-- Canonical functions.

pub lift_and_lower : IsRead (sec 8 (2 ∷ 0 ∷ 0 ∷ 5 ∷ 6 ∷ 3 ∷ 0 ∷ 4 ∷ 1 ∷ 0 ∷ 5 ∷ 2 ∷ 6 ∷ 7 ∷ 3 ∷ 8 ∷ 1 ∷ 0 ∷ 9 ∷ 2 ∷ 8 ∷ 4 ∷ 9 ∷ []))
    (canon_part (lift 5 (memory 0 ∷ realloc 1 ∷ utf8 ∷ post_return 2 ∷ async ∷ callback 3 ∷ []) 8) ∷ canon_part (lower 9 (function_type_option 4 ∷ gc ∷ [])) ∷ [])
unfolding read
lift_and_lower = refl

pub unknown_canon : Fails (sec 8 (1 ∷ 0x43 ∷ [])) (Unsupported CanonicalFunction)
unfolding read
unknown_canon = refl

-- Every built-in, in the order of opcodes.
pub every_builtin : IsRead (0x08 ∷ 0x70 ∷ 0x2d ∷ 0x02 ∷ 0x01 ∷ 0x03 ∷ 0x01 ∷ 0x04 ∷ 0x01 ∷ 0x05 ∷ 0x06 ∷ 0x00 ∷ 0x07 ∷ 0x01 ∷ 0x08 ∷ 0x09 ∷ 0x00 ∷ 0x7f ∷ 0x01 ∷ 0x03 ∷ 0x00 ∷ 0x0a ∷ 0x7f ∷ 0x01 ∷ 0x0b ∷ 0x7e ∷ 0x01 ∷ 0x0c ∷ 0x00 ∷ 0x0d ∷ 0x0e ∷ 0x01 ∷ 0x0f ∷ 0x01 ∷ 0x01 ∷ 0x03 ∷ 0x00 ∷ 0x10 ∷ 0x01 ∷ 0x01 ∷ 0x03 ∷ 0x00 ∷ 0x11 ∷ 0x01 ∷ 0x01 ∷ 0x12 ∷ 0x01 ∷ 0x00 ∷ 0x13 ∷ 0x01 ∷ 0x14 ∷ 0x01 ∷ 0x15 ∷ 0x01 ∷ 0x16 ∷ 0x01 ∷ 0x01 ∷ 0x03 ∷ 0x00 ∷ 0x17 ∷ 0x01 ∷ 0x01 ∷ 0x03 ∷ 0x00 ∷ 0x18 ∷ 0x01 ∷ 0x00 ∷ 0x19 ∷ 0x01 ∷ 0x01 ∷ 0x1a ∷ 0x01 ∷ 0x1b ∷ 0x01 ∷ 0x1c ∷ 0x01 ∷ 0x03 ∷ 0x00 ∷ 0x1d ∷ 0x01 ∷ 0x03 ∷ 0x00 ∷ 0x1e ∷ 0x1f ∷ 0x20 ∷ 0x00 ∷ 0x04 ∷ 0x21 ∷ 0x01 ∷ 0x04 ∷ 0x22 ∷ 0x23 ∷ 0x24 ∷ 0x25 ∷ 0x26 ∷ 0x27 ∷ 0x02 ∷ 0x03 ∷ 0x28 ∷ 0x00 ∷ 0x29 ∷ 0x01 ∷ 0x2a ∷ 0x2b ∷ 0x01 ∷ 0x40 ∷ 0x00 ∷ 0x02 ∷ 0x41 ∷ 0x01 ∷ 0x02 ∷ 0x03 ∷ 0x42 ∷ 0x00 ∷ [])
    (canon_part (builtin 2 ((type_operand 1) ∷ [])) ∷ canon_part (builtin 3 ((type_operand 1) ∷ [])) ∷ canon_part (builtin 4 ((type_operand 1) ∷ [])) ∷ canon_part (builtin 5 []) ∷ canon_part (builtin 6 ((flag_operand false) ∷ [])) ∷ canon_part (builtin 7 ((type_operand 1) ∷ [])) ∷ canon_part (builtin 8 []) ∷ canon_part (builtin 9 ((result_operand (Some (Primitive p.Bool))) ∷ (options_operand ((memory 0) ∷ [])) ∷ [])) ∷ canon_part (builtin 10 ((slot_operand c.I32 1) ∷ [])) ∷ canon_part (builtin 11 ((slot_operand c.I64 1) ∷ [])) ∷ canon_part (builtin 12 ((flag_operand false) ∷ [])) ∷ canon_part (builtin 13 []) ∷ canon_part (builtin 14 ((type_operand 1) ∷ [])) ∷ canon_part (builtin 15 ((type_operand 1) ∷ (options_operand ((memory 0) ∷ [])) ∷ [])) ∷ canon_part (builtin 16 ((type_operand 1) ∷ (options_operand ((memory 0) ∷ [])) ∷ [])) ∷ canon_part (builtin 17 ((type_operand 1) ∷ (flag_operand true) ∷ [])) ∷ canon_part (builtin 18 ((type_operand 1) ∷ (flag_operand false) ∷ [])) ∷ canon_part (builtin 19 ((type_operand 1) ∷ [])) ∷ canon_part (builtin 20 ((type_operand 1) ∷ [])) ∷ canon_part (builtin 21 ((type_operand 1) ∷ [])) ∷ canon_part (builtin 22 ((type_operand 1) ∷ (options_operand ((memory 0) ∷ [])) ∷ [])) ∷ canon_part (builtin 23 ((type_operand 1) ∷ (options_operand ((memory 0) ∷ [])) ∷ [])) ∷ canon_part (builtin 24 ((type_operand 1) ∷ (flag_operand false) ∷ [])) ∷ canon_part (builtin 25 ((type_operand 1) ∷ (flag_operand true) ∷ [])) ∷ canon_part (builtin 26 ((type_operand 1) ∷ [])) ∷ canon_part (builtin 27 ((type_operand 1) ∷ [])) ∷ canon_part (builtin 28 ((options_operand ((memory 0) ∷ [])) ∷ [])) ∷ canon_part (builtin 29 ((options_operand ((memory 0) ∷ [])) ∷ [])) ∷ canon_part (builtin 30 []) ∷ canon_part (builtin 31 []) ∷ canon_part (builtin 32 ((flag_operand false) ∷ (memory_operand 4) ∷ [])) ∷ canon_part (builtin 33 ((flag_operand true) ∷ (memory_operand 4) ∷ [])) ∷ canon_part (builtin 34 []) ∷ canon_part (builtin 35 []) ∷ canon_part (builtin 36 []) ∷ canon_part (builtin 37 []) ∷ canon_part (builtin 38 []) ∷ canon_part (builtin 39 ((core_type_operand 2) ∷ (table_operand 3) ∷ [])) ∷ canon_part (builtin 40 ((flag_operand false) ∷ [])) ∷ canon_part (builtin 41 ((flag_operand true) ∷ [])) ∷ canon_part (builtin 42 []) ∷ canon_part (builtin 43 ((flag_operand true) ∷ [])) ∷ canon_part (builtin 64 ((flag_operand false) ∷ (core_type_operand 2) ∷ [])) ∷ canon_part (builtin 65 ((flag_operand true) ∷ (core_type_operand 2) ∷ (table_operand 3) ∷ [])) ∷ canon_part (builtin 66 ((flag_operand false) ∷ [])) ∷ [])
unfolding read
every_builtin = refl

-- Wrong readings are refuted.

-- The sections in the order of their ids.
pub by_id : IsRead (sec 7 (1 ∷ 0x7f ∷ []) ++ sec 0 (1 ∷ 0x63 ∷ [])) (custom_part (codes "c") [] ∷ type_part (value_def (primitive_def p.Bool)) ∷ []) → ⊥
unfolding read
by_id e = absurd cc

-- A function that is async read as one that is not.
pub not_async : IsRead (sec 7 (1 ∷ 0x43 ∷ 0 ∷ 1 ∷ 0 ∷ [])) (type_part (func_def false [] None) ∷ []) → ⊥
unfolding read
not_async e = absurd cc

-- A padded number refused.
pub padded_refused : Fails (sec 7 (0x81 ∷ 0x00 ∷ 0x7f ∷ [])) LongNumber → ⊥
unfolding read
padded_refused e = absurd cc

-- A section left out.
pub left_out : IsRead (sec 7 (1 ∷ 0x7f ∷ []) ++ sec 10 (1 ∷ 0 ∷ 1 ∷ 0x78 ∷ 3 ∷ 1 ∷ [])) (type_part (value_def (primitive_def p.Bool)) ∷ []) → ⊥
unfolding read
left_out e = absurd cc

-- The parts of a nested component as those of the outer one.
pub flattened : IsRead (sec 4 (preamble ++ sec 7 (1 ∷ 0x7f ∷ []))) (type_part (value_def (primitive_def p.Bool)) ∷ []) → ⊥
unfolding read
flattened e = absurd cc

-- An index read from its first byte alone.
pub first_byte : IsRead (sec 7 (1 ∷ 0x69 ∷ 0x81 ∷ 0x01 ∷ [])) (type_part (value_def (own_def 1)) ∷ []) → ⊥
unfolding read
first_byte e = absurd cc

-- The ascription of an export dropped.
pub not_ascribed : IsRead (sec 11 (1 ∷ 0 ∷ 1 ∷ 0x66 ∷ 1 ∷ 2 ∷ 1 ∷ 1 ∷ 9 ∷ [])) (export_part (codes "f") s.Func 2 None ∷ []) → ⊥
unfolding read
not_ascribed e = absurd cc
