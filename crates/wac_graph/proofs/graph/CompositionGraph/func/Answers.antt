use Rattle.std.proofs.Common.{false}
use Rattle.wac_types_shapes.specs.shapes.Named.{named_pairs}
use Rattle.wac_graph_model.proofs.lemmas.nodes.ValidLemmas.{valid_itself}
use Rattle.wac_graph.proofs.BuildingLemmas.{distinct, func-added, func-fails, func-refused}
use Rattle.wac_graph.proofs.graph.CompositionGraph.func.Goals as goal

pub returns-in_default-clause-step : goal.returns-in_default-clause-step
returns-in_default-clause-step c = func-refused c.args.self.now (record { params = named_pairs c.args.params.now; result = c.args.returned; is_async = false }) c.pairs_error.result c.pairs_error.ensures

pub returns-in_default-clause-valid : goal.returns-in_default-clause-valid
returns-in_default-clause-valid c = valid_itself c.args.self.now

pub returns-in_err-id-clause-step : goal.returns-in_err-id-clause-step
returns-in_err-id-clause-step c =
    func-fails c.args.self.now c.add_func_type.new.self c.in-Ok.shape _ c.in-Ok.ensures.built (distinct (named_pairs c.args.params.now) c.in-Ok.ensures.names) (c.in_err-id.field-0).0 c.from_residual.result c.from_residual.ensures.1 c.in_err-id.ensures.added c.in_err-id.ensures.fault

pub returns-clause-step : goal.returns-clause-step
returns-clause-step c = func-added c.args.self.now c.add_func_type.new.self c.in-Ok.shape _ c.in-Ok.ensures.built (distinct (named_pairs c.args.params.now) c.in-Ok.ensures.names) c.in_ok-id.id c.in_ok-id.ensures.fault c.in_ok-id.ensures.added
