-- The errors of `plug` by the names that the socket exports.
use Rattle.std.specs.Prelude.{◌≡◌, ◌⊎◌, List, [], ◌∷◌, Some, None, Result, Err, string_bytes}
use Rattle.wac_types_shapes.specs.primitives.Name.{Name}
use Rattle.wac_graph_model.specs.declared.nodes.errors.ExportError.{ExportError}
use Rattle.wac_graph_model.specs.declared.nodes.errors.ExportError.TheVariants as export_error
use Rattle.wac_graph_model.specs.nodes.ExternName.{IsExportName, HasExportFault}
use Rattle.wac_graph_model.specs.nodes.Graph.{Graph, export_at}
use Rattle.wac_graph.specs.declared.plugs.errors.PlugError.TheVariants.{GraphError}
use Rattle.wac_graph.specs.declared.plugs.errors.PlugError.{PlugError}
use Rattle.wac_graph.specs.declared.plugs.errors.PlugFault.{PlugFault}
use Rattle.wac_graph.specs.declared.plugs.errors.PlugFault.TheVariants.{Export}

-- `export` returns this error for the name: it is already exported, or it is not an export name.
abbrev pub IsRefusedExport : Graph → Name → ExportError → Type 0
IsRefusedExport g name (export_error.ExportAlreadyExists text node) = (string_bytes text ≡ name) × (export_at g name ≡ Some node)
IsRefusedExport g name (export_error.InvalidExportName text source) = (string_bytes text ≡ name) × (export_at g name ≡ None) × HasExportFault name source
IsRefusedExport g name export_error.OutOfMemory = ⊥

-- The error is that of the first name that `export` rejects.
abbrev pub IsFirstRefused : Graph → List Name → ExportError → Type 0
IsFirstRefused g [] refusal = ⊥
IsFirstRefused g (name ∷ names) refusal = IsRefusedExport g name refusal ⊎ ((export_at g name ≡ None) × IsExportName name × IsFirstRefused g names refusal)

-- The result is an error of `export`.
abbrev pub IsExportRefused : {A : Type 0} → Result A PlugError → Type 0
IsExportRefused (Err (GraphError (Export refusal))) = Unit {0}
IsExportRefused _ = ⊥

-- The fault is that of the first name that `export` rejects.
abbrev pub IsFirstFault : Graph → List Name → PlugFault → Type 0
IsFirstFault g names (Export refusal) = IsFirstRefused g names refusal
IsFirstFault g names _ = ⊥
