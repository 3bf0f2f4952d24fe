use Rattle.wac_encode_order.proofs.Merges.{not-added, resource-added}
use Rattle.wac_encode_order.proofs.side.add_resource.Goals as goal

pub returns-then-not-is_resource : goal.returns-then-not-is_resource
returns-then-not-is_resource c = not-added c.args.is_resource c.args.order.now.items c.args.numbers.now c.args.next c.args.position c.if-not-is_resource.true

pub returns : goal.returns
returns c = resource-added c.args.is_resource c.args.order.now.items c.add_below.new.order.items c.push.new.self.items c.args.numbers.now c.args.next c.in_ok-at.at c.args.position c.if-not-is_resource.false c.in_ok-at.ensures.added c.in_ok-at.ensures.rest c.in_ok-push.ensures.items
