-- The types that the program's values are.
use Rattle.std.specs.Prelude.{ℕ, List, map}
use Rattle.wac_types_shapes.specs.primitives.Name.{Name}
use Rattle.wac_binary.specs.declared.sorts.Sort.{Sort}
use Rattle.wac_binary.specs.Items.{Alias, export_alias, outer_alias, ModuleDecl, module_import, module_func, module_export, ValueDef, primitive_def, record_def, variant_def, list_def, fixed_list_def, tuple_def, flags_def, enum_def, option_def, result_def, own_def, borrow_def, stream_def, future_def, TypeDef, value_def, func_def, component_def, instance_def, decls, Decl, core_type_decl, type_decl, alias_decl, import_decl, export_decl}
use Rattle.wac_binary.specs.Views.{named, texts_of}
use Rattle.wac_component.specs.declared.types.ValueDef.{ValueDef as ReadValueDef}
use Rattle.wac_component.specs.declared.types.ValueDef.TheVariants as v
use Rattle.wac_component.specs.declared.types.Alias.{Alias as ReadAlias}
use Rattle.wac_component.specs.declared.types.Alias.TheVariants as a
use Rattle.wac_component.specs.declared.types.ModuleDecl.{ModuleDecl as ReadModuleDecl}
use Rattle.wac_component.specs.declared.types.ModuleDecl.TheVariants as m
use Rattle.wac_component.specs.declared.types.Decl.{Decl as ReadDecl}
use Rattle.wac_component.specs.declared.types.Decl.TheVariants as d
use Rattle.wac_component.specs.declared.types.TypeDef.{TypeDef as ReadTypeDef}
use Rattle.wac_component.specs.declared.types.TypeDef.TheOpen.{TypeDef-F}
use Rattle.wac_component.specs.declared.types.TypeDef.TheOpen as t
use Rattle.wac_component.specs.declared.types.TypeDef.TheFolds.{fold-TypeDef}
use Rattle.wac_component.specs.declared.parts.Argument.{Argument}
use Rattle.wac_component.specs.declared.parts.InlineExport.{InlineExport}

abbrev pub value_def_of : ReadValueDef → ValueDef
value_def_of (v.Primitive p) = primitive_def p
value_def_of (v.Record fields) = record_def (named fields.items)
value_def_of (v.Variant cases) = variant_def (named cases.items)
value_def_of (v.List x) = list_def x
value_def_of (v.FixedSizeList x size) = fixed_list_def x size
value_def_of (v.Tuple xs) = tuple_def xs.items
value_def_of (v.Flags names) = flags_def (texts_of names.items)
value_def_of (v.Enum names) = enum_def (texts_of names.items)
value_def_of (v.Option x) = option_def x
value_def_of (v.Result ok err) = result_def ok err
value_def_of (v.Own i) = own_def i
value_def_of (v.Borrow i) = borrow_def i
value_def_of (v.Stream x) = stream_def x
value_def_of (v.Future x) = future_def x

abbrev pub alias_of : ReadAlias → Alias
alias_of (a.Export sort i name) = export_alias sort i name.now
alias_of (a.Outer sort count i) = outer_alias sort count i

abbrev pub module_decl_of : ReadModuleDecl → ModuleDecl
module_decl_of (m.Import «module» name e) = module_import «module».now name.now e
module_decl_of (m.Func params results) = module_func params.items results.items
module_decl_of (m.Export name e) = module_export name.now e

-- A declaration, where `f` gives the types in it.
abbrev pub decl_of : {A : Type 0} → (A → TypeDef) → ReadDecl A → Decl
decl_of f (d.CoreType ms) = core_type_decl (map module_decl_of ms.items)
decl_of f (d.«Type» x) = type_decl (f x)
decl_of f (d.Alias x) = alias_decl (alias_of x)
decl_of f (d.Import name e) = import_decl name.now e
decl_of f (d.Export name e) = export_decl name.now e

-- One layer of a type, with what the types in it are in their place.
abbrev pub type_layer : TypeDef-F TypeDef → TypeDef
type_layer (t.Value x) = value_def (value_def_of x)
type_layer (t.Func is_async outcome params) = func_def is_async (named params.items) outcome
type_layer (t.Component ds) = component_def (decls (map (decl_of (λ x. x)) ds.items))
type_layer (t.Instance ds) = instance_def (decls (map (decl_of (λ x. x)) ds.items))

abbrev pub type_of : ReadTypeDef → TypeDef
type_of = fold-TypeDef TypeDef type_layer

-- An argument of an instantiation: its name, sort and index.
abbrev pub argument_of : Argument → Name × Sort × ℕ
argument_of x = (x.name.now, x.sort, x.index)

-- An export of an instance: its name, sort and index.
abbrev pub inline_export_of : InlineExport → Name × Sort × ℕ
inline_export_of x = (x.name.now, x.sort, x.index)
