use Rattle.std.proofs.Common.{List, ap}
use Rattle.wac_types_shapes.specs.primitives.Name.{Name}
use Rattle.wac_types_shapes.specs.declared.shapes.component.DefinedType.TheVariants as def
use Rattle.wac_types_shapes.specs.shapes.Named.{given_names}
use Rattle.wac_graph_model.proofs.lemmas.nodes.ValidLemmas.{valid_itself}
use Rattle.wac_graph.proofs.BuildingLemmas.{built-value, value-refused}
use Rattle.wac_graph.proofs.graph.CompositionGraph.enumeration.Goals as goal

pub returns-in_default-clause-step : goal.returns-in_default-clause-step
returns-in_default-clause-step c = value-refused c.args.self.now (def.Enum (record { 0 = given_names c.args.cases.now })) c.names_error.result c.names_error.ensures

pub returns-in_default-clause-valid : goal.returns-in_default-clause-valid
returns-in_default-clause-valid c = valid_itself c.args.self.now

pub returns-clause-step : goal.returns-clause-step
returns-clause-step c = built-value c.args.self.now c.add_value.new.self (def.Enum c.in-Ok.shape) (def.Enum (record { 0 = given_names c.args.cases.now })) c.add_value.result (ap (λ (ns : List Name). def.Enum (record { 0 = ns })) c.in-Ok.ensures.built) c.in-Ok.ensures.names c.add_value.ensures.step
