use Rattle.wac_binary.proofs.MeaningLaws.{counted, types_counted, instances_counted, one_more, new_thing, new_type, earlier, types_earlier, instances_earlier, read_append}
use Rattle.wac_binary.specs.Meaning.{start}
use Rattle.wac_binary.proofs.ScopeLaws.{modules_counted, components_counted, core_types_counted, new_core_type, core_types_earlier}
use Rattle.wac_binary.proofs.laws.law.Goals as goal

pub returns : goal.returns
returns c = record {
  counted = counted;
  types_counted = types_counted;
  instances_counted = instances_counted;
  modules_counted = modules_counted;
  components_counted = components_counted;
  in_a_row = read_append start;
  one_more = one_more;
  new = new_thing;
  new_type = new_type;
  earlier = earlier;
  types_earlier = types_earlier;
  core_types_counted = core_types_counted;
  new_core_type = new_core_type;
  core_types_earlier = core_types_earlier;
  instances_earlier = instances_earlier;
}
