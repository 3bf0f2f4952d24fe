use Rattle.wac_graph_model.proofs.lemmas.nodes.StaysLemmas.{stays-refl, stays-trans, resource-stays, func-stays, defined-stays, interface-stays, world-stays, module-stays, made-stays, registered-stays, registered-there, definition-stays, import-stays, instance-stays, alias-stays, argument-stays}
use Rattle.wac_graph_model.proofs.nodes.laws.stays_law.Goals as goal

pub returns : goal.returns
returns c = record {
  itself = stays-refl;
  through = stays-trans;
  resource = resource-stays;
  func = func-stays;
  defined = defined-stays;
  interface = interface-stays;
  world = world-stays;
  module_type = module-stays;
  made = made-stays;
  registered = registered-stays;
  registered_there = registered-there;
  definition = definition-stays;
  imported = import-stays;
  instantiated = instance-stays;
  aliased = alias-stays;
  given = argument-stays;
}
