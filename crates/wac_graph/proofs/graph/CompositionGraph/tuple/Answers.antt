use Rattle.wac_types_shapes.specs.declared.shapes.component.DefinedType.TheVariants as def
use Rattle.wac_graph_model.proofs.lemmas.nodes.ValidLemmas.{valid_itself}
use Rattle.wac_graph.proofs.BuildingLemmas.{built-value, value-memory}
use Rattle.wac_graph.proofs.graph.CompositionGraph.tuple.Goals as goal

pub returns-in_err-definition-clause-step : goal.returns-in_err-definition-clause-step
returns-in_err-definition-clause-step c = value-memory c.args.self.now (def.Tuple c.args.types.now) c.from_residual.result c.from_residual.ensures.1

pub returns-in_err-definition-clause-valid : goal.returns-in_err-definition-clause-valid
returns-in_err-definition-clause-valid c = valid_itself c.args.self.now

pub returns-clause-step : goal.returns-clause-step
returns-clause-step c = built-value c.args.self.now c.add_value.new.self c.in_ok-definition.definition (def.Tuple c.args.types.now) c.add_value.result c.in_ok-definition.ensures tt c.add_value.ensures.step
