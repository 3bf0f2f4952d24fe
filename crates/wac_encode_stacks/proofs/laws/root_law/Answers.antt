use Rattle.wac_encode_stacks.proofs.Roots.{imports-instance, imports-type, imports-fresh, imports-func, imports-module, imports-component, lists-import}
use Rattle.wac_encode_stacks.proofs.Inside.{starts-root, root-goes-on}
use Rattle.wac_encode_stacks.proofs.laws.root_law.Goals as goal

pub returns : goal.returns
returns c = record {
  imports_instance = imports-instance c.binary_laws.ensures.reads;
  imports_type = imports-type c.binary_laws.ensures.reads;
  imports_fresh = imports-fresh c.binary_laws.ensures.reads;
  imports_func = imports-func c.binary_laws.ensures.reads;
  imports_module = imports-module c.binary_laws.ensures.reads;
  imports_component = imports-component c.binary_laws.ensures.reads;
  lists_import = lists-import c.binary_laws.ensures.reads;
  starts_root = starts-root;
  root_goes_on = root-goes-on c.binary_laws.ensures.reads;
}
