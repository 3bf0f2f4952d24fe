use Rattle.wac_encode_stacks.proofs.Lists.{opens-interface, calls-one-more, calls-no-more, calls-all, closes-instance, opens-world, binds-more, closes-component}
use Rattle.wac_encode_stacks.proofs.Whole.{holds-interface, holds-world}
use Rattle.wac_encode_stacks.proofs.Instances.{fresh-in-interface, calls-own}
use Rattle.wac_encode_stacks.proofs.laws.closing_law.Goals as goal

pub returns : goal.returns
returns c = record {
  opens_interface = opens-interface;
  calls_one_more = calls-one-more;
  calls_no_more = calls-no-more;
  calls_all = calls-all;
  closes_instance = closes-instance c.binary_laws.ensures.reads;
  holds_interface = holds-interface;
  opens_world = opens-world;
  binds_more = binds-more;
  closes_component = closes-component c.binary_laws.ensures.reads;
  holds_world = holds-world;
  fresh_in_interface = fresh-in-interface;
  calls_own = calls-own;
}
