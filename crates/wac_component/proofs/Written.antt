-- What is written is read: lists of items, and the parts that their text is read as, by computing.
use Rattle.std.proofs.Common.{◌≡◌, List, [], ◌∷◌, map, Some, None, Ok, Err, codes, refl, true, false}
use Rattle.wac_types_shapes.specs.declared.primitives.component.PrimitiveType.TheVariants as p
use Rattle.wac_types_shapes.specs.declared.primitives.core_types.CoreType.TheVariants as c
use Rattle.wac_types_shapes.specs.declared.primitives.core_types.CoreRefType.TheVariants as r
use Rattle.wac_binary.specs.declared.core_types.EntityType.TheVariants as t
use Rattle.wac_binary.specs.declared.types.ComponentValType.TheVariants.{Primitive, Index}
use Rattle.wac_binary.specs.declared.sorts.Sort.TheVariants as s
use Rattle.wac_binary.specs.declared.sorts.Description.TheVariants as e
use Rattle.wac_component.specs.declared.fault.TextFault.TheVariants.{NotUtf8, UnknownByte, Unsupported}
use Rattle.wac_component.specs.declared.fault.Feature.TheVariants.{TooDeep}
use Rattle.wac_binary.specs.Items.{Item, custom, core_type, nested, instantiate, alias_item, type_item, import_item, export_item, ValueDef, primitive_def, record_def, variant_def, list_def, fixed_list_def, tuple_def, flags_def, enum_def, option_def, result_def, own_def, borrow_def, stream_def, future_def, value_def, func_def, component_def, instance_def, decls, core_type_decl, type_decl, alias_decl, import_decl, export_decl, export_alias, outer_alias, module_import, module_func, module_export}
use Rattle.wac_binary.specs.Leb.{leb, groups}
use Rattle.wac_binary.specs.Bytes.{bytes_of, preamble}
use Rattle.wac_component.specs.Parts.{Part, nothing, parts, custom_part, core_type_part, component_part, instantiate_part, alias_part, type_part, import_part, export_part, module_type, module_decl, component_alias}
use Rattle.wac_component.specs.Reading.{parts_of, parts_at}
use Rattle.wac_component.specs.Written.{ReadsWithin}
use Rattle.wac_component.proofs.Computing.{read}

-- The part that an item is, if its nested bytes are the text of a component.
abbrev pub part_of : Item → Part
part_of (custom name bytes) = custom_part name bytes
part_of (core_type m) = core_type_part (module_type (map module_decl m))
part_of (nested bytes) = elim (parts_of bytes) [ Ok ps ↦ component_part ps | Err fault ↦ component_part nothing ]
part_of (instantiate c args) = instantiate_part c args
part_of (alias_item a) = alias_part (component_alias a)
part_of (type_item t) = type_part t
part_of (import_item n d) = import_part n d
part_of (export_item n t i) = export_part n t i None

abbrev pub IsReadBack : List Item → Type 0
IsReadBack items = parts_of (bytes_of items) ≡ Ok (parts (map part_of items))

abbrev v : ValueDef → Item
v d = type_item (value_def d)

abbrev values : List Item
values =
    v (primitive_def p.Bool)
    ∷ v (primitive_def p.ErrorContext)
    ∷ v (record_def ((codes "a", Primitive p.S8) ∷ (codes "b", Index 63) ∷ []))
    ∷ v (variant_def ((codes "a", None) ∷ (codes "b", Some (Index 64)) ∷ []))
    ∷ v (list_def (Primitive p.U64))
    ∷ v (fixed_list_def (Index 65) 300)
    ∷ v (tuple_def (Primitive p.F32 ∷ Index 200 ∷ []))
    ∷ v (flags_def (codes "a" ∷ codes "b" ∷ []))
    ∷ v (enum_def ((0xc3 ∷ 0xa9 ∷ []) ∷ []))
    ∷ v (option_def (Primitive p.Char))
    ∷ v (result_def None (Some (Primitive p.String)))
    ∷ v (own_def 0)
    ∷ v (borrow_def 300)
    ∷ v (stream_def None)
    ∷ v (future_def (Some (Index 2)))
    ∷ type_item (func_def false ((codes "x", Index 0) ∷ []) None)
    ∷ type_item (func_def true [] (Some (Primitive p.S32)))
    ∷ []

pub values_are_read : IsReadBack values
unfolding read bytes_of leb groups
values_are_read = refl

abbrev others : List Item
others =
    core_type (module_func (c.I32 ∷ c.Ref r.FuncRef ∷ []) (c.V128 ∷ []) ∷ module_import (codes "m") (codes "t") (t.Table (record { element_type = r.ExternRef; table64 = true; minimum = 1; maximum = Some 200; shared = true }))
    ∷ module_import (codes "m") (codes "y") (t.Memory (record { minimum = 0; maximum = None; memory64 = false; shared = true; page_size_log2 = Some 16 })) ∷ module_export (codes "g") (t.Global (record { val_type = c.F64; mutable = false; shared = true }))
    ∷ module_export (codes "f") (t.Function 0) ∷ module_export (codes "e") (t.Tag 0) ∷ [])
    ∷ type_item (component_def (decls (type_decl (instance_def (decls (alias_decl (outer_alias s.«Type» 1 0) ∷ type_decl (value_def (list_def (Index 0))) ∷ export_decl (codes "t") (e.Equal 1) ∷ export_decl (codes "r") e.Fresh ∷ core_type_decl (module_export (codes "y") (t.Memory (record { minimum = 1; maximum = Some 2; memory64 = true; shared = false; page_size_log2 = None })) ∷ []) ∷ [])))
    ∷ import_decl (codes "i") (e.Instance 0) ∷ alias_decl (export_alias s.«Type» 0 (codes "t")) ∷ export_decl (codes "f") (e.Func 7) ∷ [])))
    ∷ import_item (codes "my:p/i@1.0.0") (e.Instance 0)
    ∷ import_item (codes "m") (e.CoreModule 0)
    ∷ import_item (codes "k") (e.Component 0)
    ∷ nested (bytes_of values)
    ∷ instantiate 0 ((codes "my:p/i@1.0.0", s.Instance, 0) ∷ (codes "m", s.CoreModule, 0) ∷ [])
    ∷ alias_item (export_alias s.Instance 0 (codes "j"))
    ∷ alias_item (export_alias s.CoreModule 0 (codes "n"))
    ∷ alias_item (outer_alias s.Component 0 0)
    ∷ export_item (codes "out") s.Instance 1
    ∷ nested preamble
    ∷ custom (codes "producers") (0 ∷ 255 ∷ [])
    ∷ []

pub others_are_read : IsReadBack others
unfolding read bytes_of leb groups
others_are_read = refl

-- The writer takes any bytes for a name.

pub not_utf8 : parts_of (bytes_of (v (enum_def ((0xff ∷ []) ∷ [])) ∷ [])) ≡ Err NotUtf8
unfolding read bytes_of leb groups
not_utf8 = refl

-- Nested types and components are read as deep as the depth allows, and an instance type has no imports.

abbrev nested_type : Item
nested_type = type_item (instance_def (decls (type_decl (value_def (primitive_def p.Bool)) ∷ [])))

pub within : ReadsWithin 1 (nested_type ∷ nested preamble ∷ []) (part_of nested_type ∷ component_part nothing ∷ [])
unfolding read
within = (((tt, (tt, tt)), refl), ((nothing, refl, refl), tt))

pub too_deep : parts_at 1 (bytes_of (nested_type ∷ [])) ≡ Err (Unsupported TooDeep)
unfolding read bytes_of leb groups
too_deep = refl

pub import_in_instance_type : parts_of (bytes_of (type_item (instance_def (decls (import_decl (codes "f") (e.Func 0) ∷ []))) ∷ [])) ≡ Err UnknownByte
unfolding read bytes_of leb groups
import_in_instance_type = refl
