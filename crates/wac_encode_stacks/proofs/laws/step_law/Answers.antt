use Rattle.wac_encode_stacks.proofs.StepLaws.{defines-value, defines-func, defines-primitive, defines-handles, reaches, brings-resource, brings-type, settles-resource, settles-value, records-type, goes-on-around, follows, stays-is, is-recorded, is-exported, stands-recorded, is-its-tree}
use Rattle.wac_encode_stacks.proofs.laws.step_law.Goals as goal

pub returns : goal.returns
returns c = record {
  defines_value = defines-value c.binary_laws.ensures.reads;
  defines_func = defines-func c.binary_laws.ensures.reads;
  defines_primitive = defines-primitive c.binary_laws.ensures.reads;
  defines_handles = defines-handles c.binary_laws.ensures.reads;
  reaches = reaches;
  brings_resource = brings-resource c.binary_laws.ensures.reads;
  brings_type = brings-type c.binary_laws.ensures.reads;
  settles_resource = settles-resource c.binary_laws.ensures.reads;
  settles_value = settles-value c.binary_laws.ensures.reads;
  records_type = records-type;
  goes_on_around = goes-on-around c.binary_laws.ensures.reads;
  follows = follows;
  stays_is = stays-is;
  is_recorded = is-recorded;
  is_exported = is-exported;
  stands_recorded = stands-recorded;
  is_its_tree = is-its-tree;
}
