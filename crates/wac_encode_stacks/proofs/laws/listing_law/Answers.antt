use Rattle.wac_encode_stacks.proofs.Lists.{lists-equal, lists-fresh, lists-own, lists-func, lists-component, lists-module, lists-instance, lists-one-more, lists-in-any-order, listed-under-more}
use Rattle.wac_encode_stacks.proofs.laws.listing_law.Goals as goal

pub returns : goal.returns
returns c = record {
  lists_equal = lists-equal c.binary_laws.ensures.reads;
  lists_fresh = lists-fresh c.binary_laws.ensures.reads;
  lists_own = lists-own c.binary_laws.ensures.reads;
  lists_func = lists-func c.binary_laws.ensures.reads;
  lists_component = lists-component c.binary_laws.ensures.reads;
  lists_module = lists-module c.binary_laws.ensures.reads;
  lists_instance = lists-instance c.binary_laws.ensures.reads;
  lists_one_more = lists-one-more;
  lists_in_any_order = lists-in-any-order;
  listed_under_more = listed-under-more;
}
