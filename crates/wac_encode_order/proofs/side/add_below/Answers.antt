use Rattle.std.specs.Prelude.{slice_index}
use Rattle.std.proofs.Common.{refl}
use Rattle.std.proofs.lemmas.Option.{slice_get-get_or}
use Rattle.wac_encode_order.proofs.Merges.{below-first, below-next, below-stops, below-ends}
use Rattle.wac_encode_order.proofs.side.add_below.Goals as goal

pub numbers-init : goal.numbers-init
numbers-init c = below-first c.args.order.now.items c.args.numbers.now c.args.end c.args.next c.args.next refl

pub numbers-preserved : goal.numbers-preserved
numbers-preserved c =
    let ns = c.args.numbers.now in
    let at = c.numbers.at in
    below-next c.args.order.now.items c.numbers.order.items c.push.new.self.items ns c.args.end c.args.next at (slice_index ns at) (slice_get-get_or ns at 0 c.numbers-test.true) c.if-number-end.false c.in_ok-push.ensures.items c.numbers.invariant

pub returns-then-number-end-clause-added : goal.returns-then-number-end-clause-added
returns-then-number-end-clause-added c =
    let ns = c.args.numbers.now in
    let at = c.numbers.at in
    (below-stops c.args.order.now.items c.numbers.order.items ns c.args.end c.args.next at (slice_index ns at) (slice_get-get_or ns at 0 c.numbers-test.true) c.if-number-end.true c.numbers.invariant).0

pub returns-then-number-end-clause-rest : goal.returns-then-number-end-clause-rest
returns-then-number-end-clause-rest c =
    let ns = c.args.numbers.now in
    let at = c.numbers.at in
    (below-stops c.args.order.now.items c.numbers.order.items ns c.args.end c.args.next at (slice_index ns at) (slice_get-get_or ns at 0 c.numbers-test.true) c.if-number-end.true c.numbers.invariant).1

pub returns-clause-added : goal.returns-clause-added
returns-clause-added c = (below-ends c.args.order.now.items c.numbers.order.items c.args.numbers.now c.args.end c.args.next c.numbers.at c.numbers-test.false c.numbers.invariant).0

pub returns-clause-rest : goal.returns-clause-rest
returns-clause-rest c = (below-ends c.args.order.now.items c.numbers.order.items c.args.numbers.now c.args.end c.args.next c.numbers.at c.numbers-test.false c.numbers.invariant).1
