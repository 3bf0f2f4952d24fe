use Rattle.std.proofs.Common.{[], refl}
use Rattle.wac_graph.proofs.BuildingLemmas.{add-fails}
use Rattle.wac_graph.proofs.graph.CompositionGraph.add_value.Goals as goal

pub returns-in_err-id-clause-step : goal.returns-in_err-id-clause-step
returns-in_err-id-clause-step c = add-fails c.args.self.now c.add_defined_type.new.self [] _ _ _ (c.in_err-id.field-0).0 c.from_residual.result c.from_residual.ensures.1 tt c.in_err-id.ensures.added c.in_err-id.ensures.fault

pub returns-clause-step : goal.returns-clause-step
returns-clause-step c = (tt, c.in_ok-id.ensures.fault, (c.in_ok-id.id, refl, c.in_ok-id.ensures.added))
