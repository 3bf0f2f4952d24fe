-- Worked examples of bytes and meanings, each decided by computing.
use Rattle.std.specs.Prelude.{◌≡◌, List, [], ◌∷◌, ◌++◌, None, Some, true, false, refl}
use Rattle.std.proofs.Common.{rules}
use Rattle.wac_types_shapes.specs.primitives.Name.{Name}
use Rattle.wac_types_shapes.specs.primitives.Tree.{Tree, imported, exported, position, named, own, absent, function, function_item, type_in, items_in, type_equal, enum_of}
use Rattle.wac_types_shapes.specs.primitives.Core.{core_function, core_memory}
use Rattle.wac_binary.specs.Leb.{groups, leb}
use Rattle.wac_binary.specs.declared.types.ComponentValType.TheVariants.{Index}
use Rattle.wac_binary.specs.declared.sorts.Sort.TheVariants as s
use Rattle.wac_binary.specs.declared.sorts.Description.TheVariants as e
use Rattle.wac_binary.specs.declared.core_types.EntityType.TheVariants as t
use Rattle.wac_binary.specs.Items.{own_def, list_def, enum_def, value_def, func_def, component_def, instance_def, ModuleDecl, module_import, module_func, module_export, Decls, end, next, type_decl, alias_decl, import_decl, export_decl, export_alias, outer_alias, Item, custom, core_type, nested, instantiate, alias_item, type_item, import_item, export_item}
use Rattle.wac_binary.specs.Bytes.{preamble, bytes_of, value, value_def_bytes, memory_bytes}
use Rattle.wac_binary.specs.Customs.{component_name, producers, names_bytes, producers_bytes}
use Rattle.wac_binary.specs.Unfold.{empty, type_at, after, no_module, module_after}
use Rattle.wac_binary.specs.HasMeaning.{HasMeaning}
use Rattle.wac_binary.specs.Meaning.{meaning, stands_for, projection, instance_at, component_at, nothing}

-- a value type's index is a signed number: 63 is one byte, 64 two; an own's index is unsigned
value_63 : value (Index 63) ≡ 0x3f ∷ []
unfolding groups leb
value_63 = refl

value_64 : value (Index 64) ≡ 0xc0 ∷ 0x00 ∷ []
unfolding groups leb
value_64 = refl

list_64 : value_def_bytes (list_def (Index 64)) ≡ 0x70 ∷ 0xc0 ∷ 0x00 ∷ []
unfolding groups leb
list_64 = refl

list_63 : value_def_bytes (list_def (Index 63)) ≡ 0x70 ∷ 0x3f ∷ []
unfolding groups leb
list_63 = refl

own_64 : value_def_bytes (own_def 64) ≡ 0x69 ∷ 0x40 ∷ []
unfolding groups leb
own_64 = refl

-- no items
empty_row : bytes_of [] ≡ 0x00 ∷ 0x61 ∷ 0x73 ∷ 0x6d ∷ 0x0d ∷ 0x00 ∷ 0x01 ∷ 0x00 ∷ []
unfolding bytes_of
empty_row = refl

-- two packages, an instance of the first, its `a` given to the second as `b`
abbrev readme : List Item
readme = nested preamble ∷ instantiate 0 [] ∷ alias_item (export_alias s.Func 0 (97 ∷ [])) ∷ nested preamble ∷ instantiate 1 ((98 ∷ [], s.Func, 0) ∷ []) ∷ []

readme_bytes : bytes_of readme
    ≡ preamble ++ (0x04 ∷ 0x08 ∷ preamble) ++ (0x05 ∷ 0x04 ∷ 0x01 ∷ 0x00 ∷ 0x00 ∷ 0x00 ∷ []) ++ (0x06 ∷ 0x06 ∷ 0x01 ∷ 0x01 ∷ 0x00 ∷ 0x00 ∷ 0x01 ∷ 0x61 ∷ []) ++ (0x04 ∷ 0x08 ∷ preamble)
    ++ (0x05 ∷ 0x08 ∷ 0x01 ∷ 0x00 ∷ 0x01 ∷ 0x01 ∷ 0x01 ∷ 0x62 ∷ 0x01 ∷ 0x00 ∷ [])
unfolding groups leb bytes_of
readme_bytes = refl

readme_meant : HasMeaning readme
readme_meant = search rules

readme_instances : (meaning readme).instantiations
    ≡ record { component = component_at 0; arguments = [] } ∷ record { component = component_at 1; arguments = (98 ∷ [], s.Func, projection (instance_at 0) (97 ∷ [])) ∷ [] } ∷ []
readme_instances = refl

readme_components : (meaning readme).nested_bytes ≡ preamble ∷ preamble ∷ []
readme_components = refl

-- two instances of one package are two instances
twice : stands_for (meaning (nested preamble ∷ instantiate 0 [] ∷ instantiate 0 [] ∷ [])) s.Instance 1 ≡ instance_at 1
twice = refl

-- an alias of an alias
alias_of_alias : stands_for (meaning (nested preamble ∷ instantiate 0 [] ∷ alias_item (export_alias s.Instance 0 (97 ∷ [])) ∷ alias_item (export_alias s.Func 1 (98 ∷ [])) ∷ [])) s.Func 0
    ≡ projection (projection (instance_at 0) (97 ∷ [])) (98 ∷ [])
alias_of_alias = refl

-- an export stands for what it exports: here an alias, exported as `x`
alias_exported : (meaning (nested preamble ∷ instantiate 0 [] ∷ alias_item (export_alias s.Func 0 (97 ∷ [])) ∷ export_item (120 ∷ []) s.Func 0 ∷ [])).exports
    ≡ record { name = 120 ∷ []; sort = s.Func; thing = projection (instance_at 0) (97 ∷ []); tree = absent } ∷ []
alias_exported = refl

alias_exported_again : stands_for (meaning (nested preamble ∷ instantiate 0 [] ∷ alias_item (export_alias s.Func 0 (97 ∷ [])) ∷ export_item (120 ∷ []) s.Func 0 ∷ [])) s.Func 1 ≡ projection (instance_at 0) (97 ∷ [])
alias_exported_again = refl

-- an index that isn't there stands for nothing
not_there : stands_for (meaning (nested preamble ∷ [])) s.Component 1 ≡ nothing
not_there = refl

-- an interface with a resource `r` and a function `f` over it, as an instance type, imported
abbrev with_resource : List Item
with_resource =
    type_item (instance_def (next (export_decl (114 ∷ []) e.Fresh) (next (type_decl (value_def (own_def 0))) (next (type_decl (func_def false ((120 ∷ [], Index 1) ∷ []) None)) (next (export_decl (102 ∷ []) (e.Func 2)) end)))))
    ∷ import_item (110 ∷ 58 ∷ 112 ∷ 47 ∷ 105 ∷ []) (e.Instance 0) ∷ []

with_resource_bytes : bytes_of with_resource
    ≡ preamble
    ++ (0x07 ∷ 0x1a ∷ 0x01 ∷ 0x42 ∷ 0x04 ∷ 0x04 ∷ 0x00 ∷ 0x01 ∷ 0x72 ∷ 0x03 ∷ 0x01 ∷ 0x01 ∷ 0x69 ∷ 0x00 ∷ 0x01 ∷ 0x40 ∷ 0x01 ∷ 0x01 ∷ 0x78 ∷ 0x01 ∷ 0x01 ∷ 0x00 ∷ 0x04 ∷ 0x00 ∷ 0x01 ∷ 0x66 ∷ 0x01 ∷ 0x02 ∷ [])
    ++ (0x0a ∷ 0x0a ∷ 0x01 ∷ 0x00 ∷ 0x05 ∷ 0x6e ∷ 0x3a ∷ 0x70 ∷ 0x2f ∷ 0x69 ∷ 0x05 ∷ 0x00 ∷ [])
unfolding groups leb bytes_of
with_resource_bytes = refl

with_resource_meant : HasMeaning with_resource
with_resource_meant = search rules

with_resource_function : items_in (type_at (meaning with_resource).scope.types 0) (102 ∷ [])
    ≡ function_item (function false ((120 ∷ []) ∷ []) (λ i. type_at (own (record { out = 0; side = exported; path = named (114 ∷ []) ∷ [] }) ∷ []) i) absent)
with_resource_function = refl

-- two interfaces with a resource `r` each, and one that uses both, as `r` and as `s`, under the function `f`
abbrev two_resources : List Item
two_resources =
    type_item (instance_def (next (export_decl (114 ∷ []) e.Fresh) end)) ∷ import_item (1 ∷ []) (e.Instance 0)
    ∷ type_item (instance_def (next (export_decl (114 ∷ []) e.Fresh) end)) ∷ import_item (2 ∷ []) (e.Instance 1)
    ∷ alias_item (export_alias s.Type 0 (114 ∷ [])) ∷ alias_item (export_alias s.Type 1 (114 ∷ []))
    ∷ type_item (instance_def (next (alias_decl (outer_alias s.Type 1 2)) (next (export_decl (114 ∷ []) (e.Equal 0)) (next (alias_decl (outer_alias s.Type 1 3)) (next (export_decl (115 ∷ []) (e.Equal 2)) (next (type_decl (value_def (own_def 1))) (next (type_decl (value_def (own_def 3))) (next (type_decl (func_def false ((120 ∷ [], Index 4) ∷ (121 ∷ [], Index 5) ∷ []) None)) (next (export_decl (102 ∷ []) (e.Func 6)) end))))))))) ∷ import_item (3 ∷ []) (e.Instance 4) ∷ []

two_resources_meant : HasMeaning two_resources
two_resources_meant = search rules

abbrev third_of : List (Name × Tree) → Tree
third_of (a ∷ b ∷ c ∷ rest) = type_in c.1
third_of _ = absent

two_resources_function : items_in (third_of (meaning two_resources).imports) (102 ∷ [])
    ≡ function_item (function false ((120 ∷ []) ∷ (121 ∷ []) ∷ []) (λ i. type_at (own (record { out = 1; side = imported; path = position 0 ∷ named (114 ∷ []) ∷ [] }) ∷ own (record { out = 1; side = imported; path = position 1 ∷ named (114 ∷ []) ∷ [] }) ∷ []) i) absent)
two_resources_function = refl

-- two imports, a type, an import: three sections
two_and_one : bytes_of (import_item (97 ∷ []) (e.Func 0) ∷ import_item (98 ∷ []) (e.Func 0) ∷ type_item (value_def (own_def 0)) ∷ import_item (99 ∷ []) (e.Equal 0) ∷ [])
    ≡ preamble ++ (0x0a ∷ 0x0b ∷ 0x02 ∷ 0x00 ∷ 0x01 ∷ 0x61 ∷ 0x01 ∷ 0x00 ∷ 0x00 ∷ 0x01 ∷ 0x62 ∷ 0x01 ∷ 0x00 ∷ []) ++ (0x07 ∷ 0x03 ∷ 0x01 ∷ 0x69 ∷ 0x00 ∷ [])
    ++ (0x0a ∷ 0x07 ∷ 0x01 ∷ 0x00 ∷ 0x01 ∷ 0x63 ∷ 0x03 ∷ 0x00 ∷ 0x00 ∷ [])
unfolding groups leb bytes_of
two_and_one = refl

-- a module type that imports the function `f` of `m` and exports the memory `e` with minimum 1
abbrev small_module : List ModuleDecl
small_module = module_func [] [] ∷ module_import (109 ∷ []) (102 ∷ []) (t.Function 0) ∷ module_export (101 ∷ []) (t.Memory (record { minimum = 1; maximum = None; memory64 = false; shared = false; page_size_log2 = None })) ∷ []

small_module_bytes : bytes_of (core_type small_module ∷ [])
    ≡ preamble ++ (0x03 ∷ 0x14 ∷ 0x01 ∷ 0x50 ∷ 0x03 ∷ 0x01 ∷ 0x60 ∷ 0x00 ∷ 0x00 ∷ 0x00 ∷ 0x01 ∷ 0x6d ∷ 0x01 ∷ 0x66 ∷ 0x00 ∷ 0x00 ∷ 0x03 ∷ 0x01 ∷ 0x65 ∷ 0x02 ∷ 0x00 ∷ 0x01 ∷ [])
unfolding groups leb bytes_of
small_module_bytes = refl

small_module_meant : HasMeaning (core_type small_module ∷ [])
small_module_meant = search rules

small_module_import : (module_after no_module small_module).imports (109 ∷ []) (102 ∷ []) ≡ core_function [] []
small_module_import = refl

small_module_export : (module_after no_module small_module).exports (101 ∷ []) ≡ core_memory false false 1 None None
small_module_export = refl

-- all flags of limits at once
full_limits : memory_bytes (record { minimum = 1; maximum = Some 2; memory64 = true; shared = true; page_size_log2 = Some 16 }) ≡ 0x0f ∷ 0x01 ∷ 0x02 ∷ 0x10 ∷ []
unfolding groups leb
full_limits = refl

-- the declarations of an interface `n:p/i` that uses the enum `t` of `n:p/j`, which is imported
abbrev with_cut : Decls
with_cut =
    next (type_decl (instance_def (next (type_decl (value_def (enum_def ((97 ∷ []) ∷ [])))) (next (export_decl (116 ∷ []) (e.Equal 0)) end))))
    (next (import_decl (110 ∷ 58 ∷ 112 ∷ 47 ∷ 106 ∷ []) (e.Instance 0))
    (next (alias_decl (export_alias s.Type 0 (116 ∷ [])))
    (next (type_decl (instance_def (next (alias_decl (outer_alias s.Type 1 1)) (next (export_decl (116 ∷ []) (e.Equal 0)) end))))
    (next (export_decl (110 ∷ 58 ∷ 112 ∷ 47 ∷ 105 ∷ []) (e.Instance 2)) end))))

with_cut_bytes : bytes_of (type_item (component_def with_cut) ∷ [])
    ≡ preamble
    ++ (0x07 ∷ 0x3b ∷ 0x01 ∷ 0x41 ∷ 0x05 ∷ 0x01 ∷ 0x42 ∷ 0x02 ∷ 0x01 ∷ 0x6d ∷ 0x01 ∷ 0x01 ∷ 0x61 ∷ 0x04 ∷ 0x00 ∷ 0x01 ∷ 0x74 ∷ 0x03 ∷ 0x00 ∷ 0x00 ∷ 0x03 ∷ 0x00 ∷ 0x05 ∷ 0x6e ∷ 0x3a ∷ 0x70 ∷ 0x2f ∷ 0x6a ∷ 0x05 ∷ 0x00 ∷ 0x02 ∷ 0x03 ∷ 0x00 ∷ 0x00 ∷ 0x01 ∷ 0x74 ∷ 0x01 ∷ 0x42 ∷ 0x02 ∷ 0x02 ∷ 0x03 ∷ 0x02 ∷ 0x01 ∷ 0x01 ∷ 0x04 ∷ 0x00 ∷ 0x01 ∷ 0x74 ∷ 0x03 ∷ 0x00 ∷ 0x00 ∷ 0x04 ∷ 0x00 ∷ 0x05 ∷ 0x6e ∷ 0x3a ∷ 0x70 ∷ 0x2f ∷ 0x69 ∷ 0x05 ∷ 0x02 ∷ [])
unfolding groups leb bytes_of
with_cut_bytes = refl

with_cut_meant : HasMeaning (type_item (component_def with_cut) ∷ [])
with_cut_meant = search rules

-- the exported interface's `t` is the enum
with_cut_type : items_in (type_in ((after with_cut empty []).exports (110 ∷ 58 ∷ 112 ∷ 47 ∷ 105 ∷ []))) (116 ∷ []) ≡ type_equal (enum_of ((97 ∷ []) ∷ []))
with_cut_type = refl

-- the processor `x` with the version `1`
processor_row : bytes_of (custom producers (producers_bytes (120 ∷ []) (49 ∷ [])) ∷ [])
    ≡ preamble
    ++ (0x00 ∷ 0x1d ∷ 0x09 ∷ 0x70 ∷ 0x72 ∷ 0x6f ∷ 0x64 ∷ 0x75 ∷ 0x63 ∷ 0x65 ∷ 0x72 ∷ 0x73 ∷ 0x01 ∷ 0x0c ∷ 0x70 ∷ 0x72 ∷ 0x6f ∷ 0x63 ∷ 0x65 ∷ 0x73 ∷ 0x73 ∷ 0x65 ∷ 0x64 ∷ 0x2d ∷ 0x62 ∷ 0x79 ∷ 0x01 ∷ 0x01 ∷ 0x78 ∷ 0x01 ∷ 0x31 ∷ [])
unfolding groups leb bytes_of producers_bytes
processor_row = refl

-- the name `n` of function 0
name_row : bytes_of (custom component_name (names_bytes ((s.Func, 0, 110 ∷ []) ∷ [])) ∷ [])
    ≡ preamble
    ++ (0x00 ∷ 0x16 ∷ 0x0e ∷ 0x63 ∷ 0x6f ∷ 0x6d ∷ 0x70 ∷ 0x6f ∷ 0x6e ∷ 0x65 ∷ 0x6e ∷ 0x74 ∷ 0x2d ∷ 0x6e ∷ 0x61 ∷ 0x6d ∷ 0x65 ∷ 0x01 ∷ 0x05 ∷ 0x01 ∷ 0x01 ∷ 0x00 ∷ 0x01 ∷ 0x6e ∷ [])
unfolding groups leb bytes_of names_bytes
name_row = refl
