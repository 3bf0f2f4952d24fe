use Rattle.wac_encode_order.specs.private.Interfaces.{others_from}
use Rattle.wac_encode_order.proofs.Listing.{in-order, types-alone, and-others}
use Rattle.wac_encode_order.proofs.interface.order_items.Goals as goal

pub returns-then-types_only : goal.returns-then-types_only
returns-then-types_only c =
    let it = c.args.interface.now in
    in-order c.args.types.now it c.args.types_only c.in_ok-chosen.chosen.items c.as_slice.result.now c.in_ok-order.order.items c.in_ok-order.order.items c.in_ok-chosen.ensures c.as_slice.ensures.value c.in_ok-order.ensures
    (types-alone c.args.types_only c.in_ok-order.order.items (others_from 0 it.exports) c.if-types_only.true)

pub returns : goal.returns
returns c =
    let it = c.args.interface.now in
    in-order c.args.types.now it c.args.types_only c.in_ok-chosen.chosen.items c.as_slice.result.now c.in_ok-order.order.items c.add_others.new.order.items c.in_ok-chosen.ensures c.as_slice.ensures.value c.in_ok-order.ensures
    (and-others c.args.types_only c.in_ok-order.order.items (others_from 0 it.exports) c.add_others.new.order.items c.if-types_only.false c.in_ok-add_others.ensures)
