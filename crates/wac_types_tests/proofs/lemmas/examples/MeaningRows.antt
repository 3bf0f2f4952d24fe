-- Worked examples of what has a meaning and what has none, each decided by computing.
use Rattle.std.specs.Prelude.{◌≡◌, List, [], ◌∷◌, None, Some, true, false, refl}
use Rattle.std.proofs.Common.{arith, rules}
use Rattle.wac_types_shapes.specs.primitives.Core.{core_function}
use Rattle.wac_types_shapes.specs.declared.primitives.component.PrimitiveType.TheVariants as p
use Rattle.wac_types_shapes.specs.primitives.Tree.{Tree, imported, position, named, absent, resource, primitive, function, type_equal, fresh, result_of, stream_of, items_in}
use Rattle.wac_binary.specs.declared.types.ComponentValType.TheVariants.{Index}
use Rattle.wac_binary.specs.declared.sorts.Sort.TheVariants as s
use Rattle.wac_binary.specs.declared.sorts.Description.TheVariants as e
use Rattle.wac_binary.specs.declared.core_types.EntityType.TheVariants as t
use Rattle.wac_binary.specs.Items.{primitive_def, own_def, result_def, stream_def, value_def, TypeDef, func_def, component_def, instance_def, ModuleDecl, module_func, module_import, module_export, Decls, end, next, type_decl, alias_decl, import_decl, export_decl, export_alias, outer_alias, Item, core_type, nested, instantiate, alias_item, type_item, import_item, export_item}
use Rattle.wac_binary.specs.Bytes.{preamble}
use Rattle.wac_binary.specs.Unfold.{type_at, bound_at, no_module, module_after}
use Rattle.wac_binary.specs.Meaning.{import_at, instance_at, projection, nothing, meaning, stands_for}
use Rattle.wac_binary.specs.HasMeaning.{HasMeaning}
use Rattle.wac_binary.specs.Customs.{AreRising}

-- the tree of the type with the first index
abbrev first_type : List Item → Tree
first_type items = type_at (meaning items).scope.types 0

-- the tree of the type with the second index
abbrev second_type : List Item → Tree
second_type items = type_at (meaning items).scope.types 1

abbrev a_string : Item
a_string = type_item (value_def (primitive_def p.String))

abbrev a_function : TypeDef
a_function = func_def false [] None

-- a result that is there, and the missing type 7
result_row : HasMeaning (a_string ∷ type_item (func_def false [] (Some (Index 0))) ∷ [])
result_row = search rules

result_tree : second_type (a_string ∷ type_item (func_def false [] (Some (Index 0))) ∷ []) ≡ function false [] (λ i. absent) (primitive p.String)
result_tree = refl

-- a function without a result is another one, and a result that is not there is none of it
no_result_row : HasMeaning (a_string ∷ type_item a_function ∷ [])
no_result_row = search rules

no_result_tree : second_type (a_string ∷ type_item a_function ∷ []) ≡ function false [] (λ i. absent) absent
no_result_tree = refl

missing_result : HasMeaning (a_string ∷ type_item (func_def false [] (Some (Index 7))) ∷ []) → ⊥
missing_result h = h.1.0.1

missing_parameter : HasMeaning (type_item (func_def false ((120 ∷ [], Index 7) ∷ []) None) ∷ []) → ⊥
missing_parameter h = h.0.0.0

-- an index of the type itself is not there yet
own_index : HasMeaning (type_item (func_def false [] (Some (Index 0))) ∷ []) → ⊥
own_index h = h.0.1

-- a function type is no value type, and a value type no resource
function_as_value : HasMeaning (type_item a_function ∷ type_item (func_def false [] (Some (Index 0))) ∷ []) → ⊥
function_as_value h = h.1.0.1

own_of_value : HasMeaning (a_string ∷ type_item (value_def (own_def 0)) ∷ []) → ⊥
own_of_value h = h.1.0

result_type_row : HasMeaning (a_string ∷ type_item (value_def (result_def (Some (Index 0)) None)) ∷ [])
result_type_row = search rules

result_type_tree : second_type (a_string ∷ type_item (value_def (result_def (Some (Index 0)) None)) ∷ []) ≡ result_of (primitive p.String) absent
result_type_tree = refl

missing_success : HasMeaning (type_item (value_def (result_def (Some (Index 7)) None)) ∷ []) → ⊥
missing_success h = h.0.0

stream_row : HasMeaning (a_string ∷ type_item (value_def (stream_def (Some (Index 0)))) ∷ [])
stream_row = search rules

stream_tree : second_type (a_string ∷ type_item (value_def (stream_def (Some (Index 0)))) ∷ []) ≡ stream_of (primitive p.String)
stream_tree = refl

missing_element : HasMeaning (type_item (value_def (stream_def (Some (Index 7)))) ∷ []) → ⊥
missing_element h = h.0

-- a module's export of a function whose type is there, and of the missing type 9
abbrev with_function : List ModuleDecl
with_function = module_func [] [] ∷ module_export (102 ∷ []) (t.Function 0) ∷ []

module_row : HasMeaning (core_type with_function ∷ [])
module_row = search rules

module_export_row : (module_after no_module with_function).exports (102 ∷ []) ≡ core_function [] []
module_export_row = refl

missing_function_type : HasMeaning (core_type (module_func [] [] ∷ module_export (102 ∷ []) (t.Function 9) ∷ []) ∷ []) → ⊥
missing_function_type h = let k = h.0.1.0.1 in absurd (omega arith)

module_export_twice : HasMeaning (core_type (module_func [] [] ∷ module_export (102 ∷ []) (t.Function 0) ∷ module_export (102 ∷ []) (t.Function 0) ∷ []) ∷ []) → ⊥
module_export_twice h = h.0.1.1.0.0

module_import_twice : HasMeaning (core_type (module_func [] [] ∷ module_import (109 ∷ []) (102 ∷ []) (t.Function 0) ∷ module_import (109 ∷ []) (102 ∷ []) (t.Function 0) ∷ []) ∷ []) → ⊥
module_import_twice h = h.0.1.1.0.0

-- an imported interface with the resource `r` and the function `f`
abbrev interface : TypeDef
interface = instance_def (next (export_decl (114 ∷ []) e.Fresh) (next (type_decl a_function) (next (export_decl (102 ∷ []) (e.Func 1)) end)))

abbrev imports : List Item → List Item
imports more = type_item interface ∷ import_item (105 ∷ []) (e.Instance 0) ∷ more

-- an alias of the resource as a type, and of the function as a function
alias_row : HasMeaning (imports (alias_item (export_alias s.Type 0 (114 ∷ [])) ∷ alias_item (export_alias s.Func 0 (102 ∷ [])) ∷ []))
alias_row = search rules

alias_tree : second_type (imports (alias_item (export_alias s.Type 0 (114 ∷ [])) ∷ [])) ≡ resource (record { out = 0; side = imported; path = position 0 ∷ named (114 ∷ []) ∷ [] })
alias_tree = refl

-- the function is no type, the type no instance, and a name that is not exported nothing
function_as_type : HasMeaning (imports (alias_item (export_alias s.Type 0 (102 ∷ [])) ∷ [])) → ⊥
function_as_type h = h.1.1.0.1

function_gives_no_type : second_type (imports (alias_item (export_alias s.Type 0 (102 ∷ [])) ∷ [])) ≡ absent
function_gives_no_type = refl

type_as_instance : HasMeaning (imports (alias_item (export_alias s.Instance 0 (114 ∷ [])) ∷ [])) → ⊥
type_as_instance h = h.1.1.0.1

type_gives_no_instance : (bound_at (meaning (imports (alias_item (export_alias s.Instance 0 (114 ∷ [])) ∷ []))).scope.instances 1).type ≡ absent
type_gives_no_instance = refl

not_exported : HasMeaning (imports (alias_item (export_alias s.Func 0 (120 ∷ [])) ∷ [])) → ⊥
not_exported h = h.1.1.0.1

missing_instance : HasMeaning (imports (alias_item (export_alias s.Func 1 (102 ∷ [])) ∷ [])) → ⊥
missing_instance h = h.1.1.0.0

-- what the alias of the function stands for: as a function that export, as a type nothing; and so it is of the instance as it is exported
alias_thing : stands_for (meaning (imports (alias_item (export_alias s.Func 0 (102 ∷ [])) ∷ []))) s.Func 0 ≡ projection (import_at 0) (102 ∷ [])
alias_thing = refl

function_as_type_thing : stands_for (meaning (imports (alias_item (export_alias s.Type 0 (102 ∷ [])) ∷ []))) s.Type 1 ≡ nothing
function_as_type_thing = refl

not_exported_thing : stands_for (meaning (imports (alias_item (export_alias s.Func 0 (120 ∷ [])) ∷ []))) s.Func 0 ≡ nothing
not_exported_thing = refl

exported_again_thing : stands_for (meaning (imports (export_item (101 ∷ []) s.Instance 0 ∷ alias_item (export_alias s.Func 1 (102 ∷ [])) ∷ []))) s.Func 0 ≡ projection (import_at 0) (102 ∷ [])
exported_again_thing = refl

exported_again_as_type_thing : stands_for (meaning (imports (export_item (101 ∷ []) s.Instance 0 ∷ alias_item (export_alias s.Type 1 (102 ∷ [])) ∷ []))) s.Type 1 ≡ nothing
exported_again_as_type_thing = refl

-- an imported interface with the instance `i` of that interface: an alias of its function as a function and as a type
abbrev imports_around : List Item → List Item
imports_around more = type_item (instance_def (next (type_decl interface) (next (export_decl (105 ∷ []) (e.Instance 0)) end))) ∷ import_item (111 ∷ []) (e.Instance 0) ∷ alias_item (export_alias s.Instance 0 (105 ∷ [])) ∷ more

inner_alias_thing : stands_for (meaning (imports_around (alias_item (export_alias s.Func 1 (102 ∷ [])) ∷ []))) s.Func 0 ≡ projection (projection (import_at 0) (105 ∷ [])) (102 ∷ [])
inner_alias_thing = refl

inner_function_as_type_thing : stands_for (meaning (imports_around (alias_item (export_alias s.Type 1 (102 ∷ [])) ∷ []))) s.Type 1 ≡ nothing
inner_function_as_type_thing = refl

-- of an instantiation it is not known here what it exports
instantiation_row : HasMeaning (nested preamble ∷ instantiate 0 [] ∷ alias_item (export_alias s.Type 0 (102 ∷ [])) ∷ [])
instantiation_row = search rules

instantiation_thing : stands_for (meaning (nested preamble ∷ instantiate 0 [] ∷ alias_item (export_alias s.Type 0 (102 ∷ [])) ∷ [])) s.Type 0 ≡ projection (instance_at 0) (102 ∷ [])
instantiation_thing = refl

-- a handle of the resource, and of a missing type
own_row : HasMeaning (imports (alias_item (export_alias s.Type 0 (114 ∷ [])) ∷ type_item (value_def (own_def 1)) ∷ []))
own_row = search rules

own_of_missing : HasMeaning (imports (alias_item (export_alias s.Type 0 (114 ∷ [])) ∷ type_item (value_def (own_def 7)) ∷ [])) → ⊥
own_of_missing h = h.1.1.1.0

-- so in a component type
abbrev in_component : Decls → Item
in_component ds = type_item (component_def (next (type_decl interface) (next (import_decl (105 ∷ []) (e.Instance 0)) ds)))

declared_alias_row : HasMeaning (in_component (next (alias_decl (export_alias s.Type 0 (114 ∷ []))) end) ∷ [])
declared_alias_row = search rules

declared_function_as_type : HasMeaning (in_component (next (alias_decl (export_alias s.Type 0 (102 ∷ []))) end) ∷ []) → ⊥
declared_function_as_type h = h.0.1.1.0

declared_function_row : HasMeaning (in_component (next (alias_decl (export_alias s.Func 0 (102 ∷ []))) end) ∷ [])
declared_function_row = search rules

declared_missing_instance : HasMeaning (in_component (next (alias_decl (export_alias s.Func 1 (102 ∷ []))) end) ∷ []) → ⊥
declared_missing_instance h = h.0.1.1.0

-- a declared export of a missing type
declared_missing_type : HasMeaning (type_item (instance_def (next (export_decl (102 ∷ []) (e.Func 0)) end)) ∷ []) → ⊥
declared_missing_type h = h.0.0.0.1

-- a name that is declared twice
two_names : HasMeaning (type_item (instance_def (next (export_decl (97 ∷ []) e.Fresh) (next (export_decl (98 ∷ []) e.Fresh) end))) ∷ [])
two_names = search rules

exported_twice : HasMeaning (type_item (instance_def (next (export_decl (97 ∷ []) e.Fresh) (next (export_decl (97 ∷ []) e.Fresh) end))) ∷ []) → ⊥
exported_twice h = h.0.0.1.0.0

imported_twice : HasMeaning (type_item (component_def (next (import_decl (97 ∷ []) e.Fresh) (next (import_decl (97 ∷ []) e.Fresh) end))) ∷ []) → ⊥
imported_twice h = h.0.1.0.0

-- one name may be imported and exported
imported_and_exported : HasMeaning (type_item (component_def (next (import_decl (97 ∷ []) e.Fresh) (next (export_decl (97 ∷ []) e.Fresh) end))) ∷ [])
imported_and_exported = search rules

-- the root may import one name twice: each import is there under its own position
root_imported_twice : HasMeaning (import_item (97 ∷ []) e.Fresh ∷ import_item (97 ∷ []) e.Fresh ∷ [])
root_imported_twice = search rules

root_imports_twice : (meaning (import_item (97 ∷ []) e.Fresh ∷ import_item (97 ∷ []) e.Fresh ∷ [])).imports ≡ (97 ∷ [], fresh) ∷ (97 ∷ [], fresh) ∷ []
root_imports_twice = refl

root_exported_twice : HasMeaning (nested preamble ∷ export_item (97 ∷ []) s.Component 0 ∷ export_item (97 ∷ []) s.Component 0 ∷ []) → ⊥
root_exported_twice h = no h.1.1.0.0 where
  no : true ≡ false → ⊥
  no e = cc

instance_type_imports : HasMeaning (type_item (instance_def (next (import_decl (97 ∷ []) e.Fresh) end)) ∷ []) → ⊥
instance_type_imports h = h.0.1

-- outer aliases: of a type of the root, a component of the root, and past the root
outer_row : HasMeaning (a_string ∷ type_item (instance_def (next (alias_decl (outer_alias s.Type 1 0)) (next (export_decl (116 ∷ []) (e.Equal 0)) end))) ∷ [])
outer_row = search rules

outer_tree : items_in (second_type (a_string ∷ type_item (instance_def (next (alias_decl (outer_alias s.Type 1 0)) (next (export_decl (116 ∷ []) (e.Equal 0)) end))) ∷ [])) (116 ∷ []) ≡ type_equal (primitive p.String)
outer_tree = refl

outer_component_row : HasMeaning (nested preamble ∷ type_item (component_def (next (alias_decl (outer_alias s.Component 1 0)) end)) ∷ [])
outer_component_row = search rules

missing_outer_component : HasMeaning (type_item (component_def (next (alias_decl (outer_alias s.Component 1 0)) end)) ∷ []) → ⊥
missing_outer_component h = let k = h.0.0 in absurd (omega arith)

missing_outer_type : HasMeaning (a_string ∷ type_item (instance_def (next (alias_decl (outer_alias s.Type 1 1)) end)) ∷ []) → ⊥
missing_outer_type h = h.1.0.0.0

past_the_root : HasMeaning (a_string ∷ type_item (instance_def (next (alias_decl (outer_alias s.Type 2 0)) end)) ∷ []) → ⊥
past_the_root h = h.1.0.0.0

root_past_itself : HasMeaning (a_string ∷ alias_item (outer_alias s.Type 1 0) ∷ []) → ⊥
root_past_itself h = h.1.0

-- functions and instances of a scope are not to be had in another
outer_instance : HasMeaning (imports (type_item (component_def (next (alias_decl (outer_alias s.Instance 1 0)) end)) ∷ [])) → ⊥
outer_instance h = h.1.1.0.0

-- instances, and what is given to them and exported
readme_row : HasMeaning (nested preamble ∷ instantiate 0 [] ∷ alias_item (export_alias s.Func 0 (97 ∷ [])) ∷ instantiate 0 ((98 ∷ [], s.Func, 0) ∷ []) ∷ export_item (120 ∷ []) s.Func 0 ∷ [])
readme_row = search rules

missing_component : HasMeaning (nested preamble ∷ instantiate 1 [] ∷ []) → ⊥
missing_component h = h.1.0.0

missing_argument : HasMeaning (nested preamble ∷ instantiate 0 ((98 ∷ [], s.Func, 0) ∷ []) ∷ []) → ⊥
missing_argument h = h.1.0.1.0

missing_export : HasMeaning (nested preamble ∷ export_item (120 ∷ []) s.Func 0 ∷ []) → ⊥
missing_export h = h.1.0.1

-- an import of what its type is not
import_of_value : HasMeaning (a_string ∷ import_item (97 ∷ []) (e.Func 0) ∷ []) → ⊥
import_of_value h = h.1.0

module_import_row : HasMeaning (core_type with_function ∷ import_item (97 ∷ []) (e.CoreModule 0) ∷ [])
module_import_row = search rules

import_of_missing_module_type : HasMeaning (core_type with_function ∷ import_item (97 ∷ []) (e.CoreModule 1) ∷ []) → ⊥
import_of_missing_module_type h = h.1.0

import_of_missing_type : HasMeaning (import_item (97 ∷ []) (e.Equal 0) ∷ []) → ⊥
import_of_missing_type h = h.0

-- names of indexes: those of each sort rise, whatever stands between them
rising : AreRising ((s.Func, 0, 97 ∷ []) ∷ (s.Type, 0, 98 ∷ []) ∷ (s.Func, 2, 99 ∷ []) ∷ [])
rising = search rules

falling : AreRising ((s.Func, 2, 97 ∷ []) ∷ (s.Func, 0, 98 ∷ []) ∷ []) → ⊥
falling h = let k = h.1.0.0 in absurd (omega arith)

named_twice : AreRising ((s.Type, 1, 97 ∷ []) ∷ (s.Type, 1, 98 ∷ []) ∷ []) → ⊥
named_twice h = let k = h.0.0 in absurd (omega arith)
