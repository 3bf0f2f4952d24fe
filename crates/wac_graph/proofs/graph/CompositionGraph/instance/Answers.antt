use Rattle.std.proofs.Common.{[], Some}
use Rattle.wac_types_shapes.specs.shapes.Named.{named_pairs}
use Rattle.wac_graph_model.proofs.lemmas.nodes.ValidLemmas.{valid_itself}
use Rattle.wac_graph.proofs.BuildingLemmas.{distinct, instance-added, instance-fails, instance-refused, interface-is}
use Rattle.wac_graph.proofs.graph.CompositionGraph.instance.Goals as goal

pub returns-in_default-clause-step : goal.returns-in_default-clause-step
returns-in_default-clause-step c = instance-refused c.args.self.now (record { id = Some c.args.id.now; uses = []; exports = named_pairs c.args.items.now }) c.pairs_error.result c.pairs_error.ensures

pub returns-in_default-clause-valid : goal.returns-in_default-clause-valid
returns-in_default-clause-valid c = valid_itself c.args.self.now

pub returns-in_err-interface-clause-step : goal.returns-in_err-interface-clause-step
returns-in_err-interface-clause-step c =
    instance-fails c.args.self.now c.add_interface.new.self c.in-Ok.shape _ (interface-is c.in-Ok.shape _ _ _ c.in-Ok.ensures.built) (distinct (named_pairs c.args.items.now) c.in-Ok.ensures.names) (c.in_err-interface.field-0).0 c.from_residual.result c.from_residual.ensures.1
    c.in_err-interface.ensures.added c.in_err-interface.ensures.fault

pub returns-clause-step : goal.returns-clause-step
returns-clause-step c =
    instance-added c.args.self.now c.add_interface.new.self c.in-Ok.shape _ (interface-is c.in-Ok.shape _ _ _ c.in-Ok.ensures.built) (distinct (named_pairs c.args.items.now) c.in-Ok.ensures.names) c.in_ok-interface.interface c.in_ok-interface.ensures.fault c.in_ok-interface.ensures.added
