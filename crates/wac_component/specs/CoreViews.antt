-- The values of the Rust types of aliases, core instances, core types, canonical functions and resource types.
use Rattle.std.specs.Prelude.{map}
use Rattle.wac_component.specs.declared.aliases.AnyAlias.{AnyAlias as AnyAliasType}
use Rattle.wac_component.specs.declared.aliases.AnyAlias.TheVariants as a
use Rattle.wac_component.specs.declared.cores.CoreSort.{CoreSort as CoreSortType}
use Rattle.wac_component.specs.declared.cores.CoreSort.TheVariants as s
use Rattle.wac_component.specs.declared.cores.CoreArgument.{CoreArgument}
use Rattle.wac_component.specs.declared.cores.CoreExport.{CoreExport}
use Rattle.wac_component.specs.declared.cores.CoreInstance.{CoreInstance as CoreInstanceType}
use Rattle.wac_component.specs.declared.cores.CoreInstance.TheVariants as i
use Rattle.wac_component.specs.declared.cores.CoreDecl.{CoreDecl as CoreDeclType}
use Rattle.wac_component.specs.declared.cores.CoreDecl.TheVariants as d
use Rattle.wac_component.specs.declared.cores.CoreTypeDef.{CoreTypeDef as CoreTypeDefType}
use Rattle.wac_component.specs.declared.cores.CoreTypeDef.TheVariants as t
use Rattle.wac_component.specs.declared.canons.CanonOption.{CanonOption as CanonOptionType}
use Rattle.wac_component.specs.declared.canons.CanonOption.TheVariants as o
use Rattle.wac_component.specs.declared.canons.Operand.{Operand as OperandType}
use Rattle.wac_component.specs.declared.canons.Operand.TheVariants as p
use Rattle.wac_component.specs.declared.canons.Canon.{Canon as CanonType}
use Rattle.wac_component.specs.declared.canons.Canon.TheVariants as c
use Rattle.wac_component.specs.declared.resources.ResourceDef.{ResourceDef as ResourceDefType}
use Rattle.wac_component.specs.declared.resources.ResourceDef.TheVariants as r
use Rattle.std.specs.Prelude.{ℕ}
use Rattle.wac_types_shapes.specs.primitives.Name.{Name}
use Rattle.wac_component.specs.Parts.{CoreSort, func_sort, table_sort, memory_sort, global_sort, tag_sort, type_sort, module_sort, instance_sort, CanonOption, utf8, utf16, latin1_utf16, memory, realloc, post_return, async, callback, function_type_option, gc, Operand, type_operand, core_type_operand, table_operand, memory_operand, flag_operand, result_operand, slot_operand, options_operand, Canon, lift, lower, builtin, CoreInstance, core_instantiate, core_exports, CoreDecl, module_decl, outer_decl, CoreTypeDef, module_type, function_type, ResourceDef, resource_def, async_resource_def, AnyAlias, component_alias, core_export_alias, core_outer_alias}
use Rattle.wac_component.specs.Views.{alias_of, module_decl_of}

-- A core sort.
abbrev pub core_sort_of : CoreSortType → CoreSort
core_sort_of s.Func = func_sort
core_sort_of s.Table = table_sort
core_sort_of s.Memory = memory_sort
core_sort_of s.Global = global_sort
core_sort_of s.Tag = tag_sort
core_sort_of s.«Type» = type_sort
core_sort_of s.Module = module_sort
core_sort_of s.Instance = instance_sort

-- An alias in a component.
abbrev pub any_alias_of : AnyAliasType → AnyAlias
any_alias_of (a.Component alias) = component_alias (alias_of alias)
any_alias_of (a.CoreExport sort instance name) = core_export_alias (core_sort_of sort) instance name.now
any_alias_of (a.OuterCoreType count index) = core_outer_alias count index

-- An argument of a core instantiation.
abbrev pub core_argument_of : CoreArgument → Name × ℕ
core_argument_of argument = (argument.name.now, argument.instance)

-- An export of a core instance.
abbrev pub core_export_of : CoreExport → Name × CoreSort × ℕ
core_export_of export = (export.name.now, core_sort_of export.sort, export.index)

-- A core instance.
abbrev pub core_instance_of : CoreInstanceType → CoreInstance
core_instance_of (i.Instantiate core_module arguments) = core_instantiate core_module (map core_argument_of arguments.items)
core_instance_of (i.Exports exports) = core_exports (map core_export_of exports.items)

-- A declaration of a core module type.
abbrev pub core_decl_of : CoreDeclType → CoreDecl
core_decl_of (d.Module decl) = module_decl (module_decl_of decl)
core_decl_of (d.Outer count index) = outer_decl count index

-- A core type.
abbrev pub core_type_of : CoreTypeDefType → CoreTypeDef
core_type_of (t.Module decls) = module_type (map core_decl_of decls.items)
core_type_of (t.Func params results) = function_type params.items results.items

-- An option of a canonical function.
abbrev pub option_of : CanonOptionType → CanonOption
option_of o.Utf8 = utf8
option_of o.Utf16 = utf16
option_of o.Latin1Utf16 = latin1_utf16
option_of (o.Memory index) = memory index
option_of (o.Realloc index) = realloc index
option_of (o.PostReturn index) = post_return index
option_of o.Async = async
option_of (o.Callback index) = callback index
option_of (o.CoreType index) = function_type_option index
option_of o.Gc = gc

-- An operand of a canonical built-in.
abbrev pub operand_of : OperandType → Operand
operand_of (p.«Type» index) = type_operand index
operand_of (p.CoreType index) = core_type_operand index
operand_of (p.Table index) = table_operand index
operand_of (p.Memory index) = memory_operand index
operand_of (p.Flag flag) = flag_operand flag
operand_of (p.Result outcome) = result_operand outcome
operand_of (p.Slot type index) = slot_operand type index
operand_of (p.Options options) = options_operand (map option_of options.items)

-- A canonical function.
abbrev pub canon_of : CanonType → Canon
canon_of (c.Lift function options type) = lift function (map option_of options.items) type
canon_of (c.Lower function options) = lower function (map option_of options.items)
canon_of (c.Builtin opcode operands) = builtin opcode (map operand_of operands.items)

-- A resource type.
abbrev pub resource_of : ResourceDefType → ResourceDef
resource_of (r.Plain representation destructor) = resource_def representation destructor
resource_of (r.Async representation destructor after) = async_resource_def representation destructor after
