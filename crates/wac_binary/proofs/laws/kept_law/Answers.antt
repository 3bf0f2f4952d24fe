use Rattle.wac_binary.proofs.KeptLaws.{type_found, instance_found, scope_found, type_there, instance_there, types_stay, instances_stay, core_types_stay, modules_stay, components_stay}
use Rattle.wac_binary.proofs.laws.kept_law.Goals as goal

pub returns : goal.returns
returns c = record {
  type_found = type_found;
  instance_found = instance_found;
  scope_found = scope_found;
  type_there = type_there;
  instance_there = instance_there;
  types = types_stay;
  instances = instances_stay;
  core_types = core_types_stay;
  modules = modules_stay;
  components = components_stay;
}
