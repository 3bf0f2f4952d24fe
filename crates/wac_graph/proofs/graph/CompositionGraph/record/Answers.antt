use Rattle.std.proofs.Common.{ap}
use Rattle.wac_types_shapes.specs.declared.shapes.component.DefinedType.TheVariants as def
use Rattle.wac_types_shapes.specs.shapes.Named.{named_pairs}
use Rattle.wac_graph_model.proofs.lemmas.nodes.ValidLemmas.{valid_itself}
use Rattle.wac_graph.proofs.BuildingLemmas.{built-value, distinct, value-refused}
use Rattle.wac_graph.proofs.graph.CompositionGraph.record.Goals as goal

pub returns-in_default-clause-step : goal.returns-in_default-clause-step
returns-in_default-clause-step c = value-refused c.args.self.now (def.Record (record { fields = named_pairs c.args.fields.now })) c.pairs_error.result c.pairs_error.ensures

pub returns-in_default-clause-valid : goal.returns-in_default-clause-valid
returns-in_default-clause-valid c = valid_itself c.args.self.now

pub returns-clause-step : goal.returns-clause-step
returns-clause-step c = built-value c.args.self.now c.add_value.new.self (def.Record c.in-Ok.shape) (def.Record (record { fields = named_pairs c.args.fields.now })) c.add_value.result (ap def.Record c.in-Ok.ensures.built) (distinct (named_pairs c.args.fields.now) c.in-Ok.ensures.names) c.add_value.ensures.step
