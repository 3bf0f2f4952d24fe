use Rattle.wac_binary.proofs.ScopeLaws.{declared_modules_counted, declared_components_counted, same_scope, grows_twice, same_scopes, all_grow_twice, declared_types_counted, declared_instances_counted, declared_core_types_counted, one_more, declared_new_type, declared_new_core_type, declared_types_earlier, declared_instances_earlier, declared_core_types_earlier, root_grows, grows, around, tree_kept, reach_one_more, reach_kept}
use Rattle.wac_binary.proofs.laws.scope_law.Goals as goal

pub returns : goal.returns
returns c = record {
  types_counted = declared_types_counted;
  instances_counted = declared_instances_counted;
  core_types_counted = declared_core_types_counted;
  modules_counted = declared_modules_counted;
  components_counted = declared_components_counted;
  one_more = one_more;
  new_type = declared_new_type;
  new_core_type = declared_new_core_type;
  types_earlier = declared_types_earlier;
  instances_earlier = declared_instances_earlier;
  core_types_earlier = declared_core_types_earlier;
  root_grows = root_grows;
  grows = grows;
  around = around;
  type_around = tree_kept;
  reach_one_more = reach_one_more;
  grows_not = same_scope;
  grows_twice = grows_twice;
  all_grow_not = same_scopes;
  all_grow_twice = all_grow_twice;
  reach_kept = reach_kept;
}
