use Rattle.wac_encode_order.proofs.Siding.{in-groups}
use Rattle.wac_encode_order.proofs.side.groups.Goals as goal

pub returns : goal.returns
returns c =
    in-groups c.args.types.now c.args.items.now c.args.additional c.len.result c.in_ok-order.order.items c.as_slice.result.now c.new-all.result.items c.add_instances.new.numbers.items c.add_counted.new.numbers.items c.extend_from_slice.new.self.items c.add_rest.new.numbers.items
    c.in_ok-order.ensures c.len.ensures c.as_slice.ensures.value c.new-all.ensures.items c.in_ok-add_instances.ensures c.in_ok-add_counted.ensures c.in_ok-extend_from_slice.ensures.items c.in_ok-add_rest.ensures
