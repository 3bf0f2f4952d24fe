use Rattle.wac_graph_model.proofs.lemmas.nodes.ValidLemmas.{valid_itself}
use Rattle.wac_graph.proofs.BuildingLemmas.{package-made, package-refused, package-names, package-world, valid-trans, world-added, world-fault, world-is}
use Rattle.wac_graph.proofs.graph.CompositionGraph.add_package.Goals as goal

pub returns-in_default-clause-step : goal.returns-in_default-clause-step
returns-in_default-clause-step c = package-names c.args.self.now _ _ _ _ _ c.sides_error.result c.sides_error.ensures

pub returns-in_default-clause-valid : goal.returns-in_default-clause-valid
returns-in_default-clause-valid c = valid_itself c.args.self.now

pub returns-in_err-world-clause-step : goal.returns-in_err-world-clause-step
returns-in_err-world-clause-step c =
    package-world c.args.self.now _ _ _ _ _ c.add_world.new.self (c.in_err-world.field-0).0 c.from_residual.result c.in-Ok.ensures.names c.from_residual.ensures.1 c.in_err-world.ensures.added
    (world-fault c.args.self.now c.in-Ok.shape _ _ (c.in_err-world.field-0).0 (world-is c.in-Ok.shape _ _ c.in-Ok.ensures.built) c.in_err-world.ensures.fault)

pub returns-in_err-package-clause-step : goal.returns-in_err-package-clause-step
returns-in_err-package-clause-step c =
    package-made c.args.self.now _ _ _ _ _ c.add_world.new.self c.new_package.new.self c.in_ok-world.world (c.in_err-package.field-0).0 c.from_residual-in_err-package.result c.in-Ok.ensures.names c.from_residual-in_err-package.ensures.1
    (world-added c.args.self.now c.add_world.new.self c.in-Ok.shape _ _ c.in_ok-world.world (world-is c.in-Ok.shape _ _ c.in-Ok.ensures.built) c.in_ok-world.ensures.added) c.in_err-package.ensures.added c.in_err-package.ensures.fault

pub returns-in_err-package-clause-valid : goal.returns-in_err-package-clause-valid
returns-in_err-package-clause-valid c = valid-trans _ _ _ c.add_world.ensures.valid c.new_package.ensures.valid

pub returns-in_err-id-clause-step : goal.returns-in_err-id-clause-step
returns-in_err-id-clause-step c =
    package-refused c.args.self.now _ _ _ _ _ c.new_package.new.self c.register_package.new.self c.in_ok-package.package (c.in_err-id.field-0).0 c.from_residual-in_err-id.result c.from_residual-in_err-id.ensures.1 (record {
      world = c.in_ok-world.world;
      between = c.add_world.new.self;
      distinct = c.in-Ok.ensures.names;
      world_added = world-added c.args.self.now c.add_world.new.self c.in-Ok.shape _ _ c.in_ok-world.world (world-is c.in-Ok.shape _ _ c.in-Ok.ensures.built) c.in_ok-world.ensures.added;
      instance_added = c.in_ok-package.ensures.added;
      parts = c.in_ok-package.ensures.built;
    }) c.in_err-id.ensures.step

pub returns-in_err-id-clause-valid : goal.returns-in_err-id-clause-valid
returns-in_err-id-clause-valid c = valid-trans _ _ _ (valid-trans _ _ _ c.add_world.ensures.valid c.new_package.ensures.valid) c.register_package.ensures.valid

pub returns-clause-step : goal.returns-clause-step
returns-clause-step c = (
  c.in_ok-package.package,
  c.new_package.new.self,
  record {
    world = c.in_ok-world.world;
    between = c.add_world.new.self;
    distinct = c.in-Ok.ensures.names;
    world_added = world-added c.args.self.now c.add_world.new.self c.in-Ok.shape _ _ c.in_ok-world.world (world-is c.in-Ok.shape _ _ c.in-Ok.ensures.built) c.in_ok-world.ensures.added;
    instance_added = c.in_ok-package.ensures.added;
    parts = c.in_ok-package.ensures.built;
  },
  c.in_ok-id.ensures.step,
)

pub returns-clause-valid : goal.returns-clause-valid
returns-clause-valid c = valid-trans _ _ _ (valid-trans _ _ _ c.add_world.ensures.valid c.new_package.ensures.valid) c.register_package.ensures.valid
