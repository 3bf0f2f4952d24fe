use Rattle.std.proofs.Common.{Ok}
use Rattle.wac_graph_fields.proofs.ArgumentLemmas.{unset, has_instantiation, handed_on}
use Rattle.wac_graph_model.proofs.lemmas.nodes.ValidLemmas.{valid_unset}
use Rattle.wac_graph.proofs.graph.CompositionGraph.unset_instantiation_argument.Goals as goal

pub take_argument-requires : goal.take_argument-requires
take_argument-requires c = has_instantiation c.args.self.now c.args.instantiation c.args.argument_name.now c.in_ok-position.position _ c.in_ok-position.ensures.found

pub returns-clause-step : goal.returns-clause-step
returns-clause-step c = unset c.args.self.now c.args.instantiation c.args.argument c.args.argument_name.now c.in_ok-position.position _ c.take_argument.new.self c.in_ok-position.ensures.found c.take_argument.ensures

pub returns-in_err-position-clause-step : goal.returns-in_err-position-clause-step
returns-in_err-position-clause-step c = handed_on c.args.self.now c.args.instantiation c.args.argument_name.now c.args.argument c.from_residual.result (c.in_err-position.field-0).0 c.from_residual.ensures.1 (c.in_err-position.ensures.lacks c.args.argument)

pub returns-clause-valid : goal.returns-clause-valid
returns-clause-valid c = valid_unset c.args.self.now _ c.args.instantiation c.args.argument c.args.argument_name.now (Ok tt) c.requires (returns-clause-step c)
