-- Errors of calls on the graph as errors of `plug`; running out of memory stays `OutOfMemory`.
use Rattle.wac_graph_model.specs.declared.nodes.errors.AliasError.{AliasError}
use Rattle.wac_graph_model.specs.declared.nodes.errors.AliasError.TheVariants as alias_error
use Rattle.wac_graph_model.specs.declared.nodes.errors.ExportError.{ExportError}
use Rattle.wac_graph_model.specs.declared.nodes.errors.ExportError.TheVariants as export_error
use Rattle.wac_graph_model.specs.declared.nodes.errors.InstantiationArgumentError.{InstantiationArgumentError}
use Rattle.wac_graph_model.specs.declared.nodes.errors.InstantiationArgumentError.TheVariants as argument_error
use Rattle.wac_graph.specs.declared.plugs.errors.PlugError.{PlugError}
use Rattle.wac_graph.specs.declared.plugs.errors.PlugError.TheVariants.{GraphError, OutOfMemory}
use Rattle.wac_graph.specs.declared.plugs.errors.PlugFault.TheVariants.{Alias, Argument, Export}

-- An error of `alias_instance_export`.
abbrev pub of_alias : AliasError → PlugError
of_alias alias_error.OutOfMemory = OutOfMemory
of_alias refusal = GraphError (Alias refusal)

-- An error of `set_instantiation_argument`.
abbrev pub of_argument : InstantiationArgumentError → PlugError
of_argument argument_error.OutOfMemory = OutOfMemory
of_argument refusal = GraphError (Argument refusal)

-- An error of `export`.
abbrev pub of_export : ExportError → PlugError
of_export export_error.OutOfMemory = OutOfMemory
of_export refusal = GraphError (Export refusal)
