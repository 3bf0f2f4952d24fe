-- Refusals for want of memory.
use Rattle.wac_types_collection.specs.declared.collection.collection.AddTypeError.{AddTypeError}
use Rattle.wac_types_collection.specs.declared.collection.collection.AddTypeError.TheVariants as add_type_error
use Rattle.wac_graph_model.specs.declared.nodes.errors.AliasError.{AliasError}
use Rattle.wac_graph_model.specs.declared.nodes.errors.AliasError.TheVariants as alias_error
use Rattle.wac_graph_model.specs.declared.nodes.errors.DefineTypeError.{DefineTypeError}
use Rattle.wac_graph_model.specs.declared.nodes.errors.DefineTypeError.TheVariants as define_error
use Rattle.wac_graph_model.specs.declared.nodes.errors.ExportError.{ExportError}
use Rattle.wac_graph_model.specs.declared.nodes.errors.ExportError.TheVariants as export_error
use Rattle.wac_graph_model.specs.declared.nodes.errors.ImportError.{ImportError}
use Rattle.wac_graph_model.specs.declared.nodes.errors.ImportError.TheVariants as import_error
use Rattle.wac_graph_model.specs.declared.nodes.errors.InstantiationArgumentError.{InstantiationArgumentError}
use Rattle.wac_graph_model.specs.declared.nodes.errors.InstantiationArgumentError.TheVariants as argument_error
use Rattle.wac_graph_model.specs.declared.nodes.errors.RegisterPackageError.{RegisterPackageError}
use Rattle.wac_graph_model.specs.declared.nodes.errors.RegisterPackageError.TheVariants as register_error
use Rattle.wac_graph.specs.declared.plugs.errors.PlugError.{PlugError}
use Rattle.wac_graph.specs.declared.plugs.errors.PlugError.TheVariants as plug_error
use Rattle.wac_script.specs.labels.Things.{IsWordMemory}
use Rattle.wac_script.specs.declared.refusal.LineError.{LineError}
use Rattle.wac_script.specs.declared.refusal.LineError.TheVariants as line_error
use Rattle.wac_script.specs.declared.refusal.Refusal.{Refusal}
use Rattle.wac_script.specs.declared.refusal.Refusal.TheVariants as refusal

-- Memory ran out for a type.
abbrev pub IsTypeMemory : AddTypeError → Type 0
IsTypeMemory add_type_error.OutOfMemory = Unit {0}
IsTypeMemory _ = ⊥

-- Memory ran out for a package.
abbrev pub IsRegisterMemory : RegisterPackageError → Type 0
IsRegisterMemory register_error.OutOfMemory = Unit {0}
IsRegisterMemory _ = ⊥

-- Memory ran out for an import.
abbrev pub IsImportMemory : ImportError → Type 0
IsImportMemory import_error.OutOfMemory = Unit {0}
IsImportMemory _ = ⊥

-- Memory ran out for a definition.
abbrev pub IsDefineMemory : DefineTypeError → Type 0
IsDefineMemory define_error.OutOfMemory = Unit {0}
IsDefineMemory _ = ⊥

-- Memory ran out for an alias.
abbrev pub IsAliasMemory : AliasError → Type 0
IsAliasMemory alias_error.OutOfMemory = Unit {0}
IsAliasMemory _ = ⊥

-- Memory ran out for an argument.
abbrev pub IsArgumentMemory : InstantiationArgumentError → Type 0
IsArgumentMemory argument_error.OutOfMemory = Unit {0}
IsArgumentMemory _ = ⊥

-- Memory ran out for an export.
abbrev pub IsExportMemory : ExportError → Type 0
IsExportMemory export_error.OutOfMemory = Unit {0}
IsExportMemory _ = ⊥

-- Memory ran out for `plug`.
abbrev pub IsPlugMemory : PlugError → Type 0
IsPlugMemory plug_error.OutOfMemory = Unit {0}
IsPlugMemory _ = ⊥

-- Memory ran out for a refused call.
abbrev pub IsMemory : Refusal → Type 0
IsMemory refusal.OutOfMemory = Unit {0}
IsMemory (refusal.Words e) = IsWordMemory e
IsMemory (refusal.Type e) = IsTypeMemory e
IsMemory (refusal.Register e) = IsRegisterMemory e
IsMemory (refusal.Import e) = IsImportMemory e
IsMemory (refusal.Define e) = IsDefineMemory e
IsMemory (refusal.Alias e) = IsAliasMemory e
IsMemory (refusal.Argument e) = IsArgumentMemory e
IsMemory (refusal.Export e) = IsExportMemory e
IsMemory (refusal.Plug e) = IsPlugMemory e

-- Memory ran out for a refused line.
abbrev pub IsLineMemory : LineError → Type 0
IsLineMemory (line_error.Call e) = IsMemory e
IsLineMemory _ = ⊥
