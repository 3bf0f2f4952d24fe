use Rattle.std.specs.Prelude.{slice_index}
use Rattle.std.proofs.lemmas.Option.{slice_get-get_or}
use Rattle.wac_encode_order.proofs.Merges.{from-next, from-ends}
use Rattle.wac_encode_order.proofs.side.add_from.Goals as goal

pub numbers-preserved : goal.numbers-preserved
numbers-preserved c =
    let ns = c.args.numbers.now in
    let at = c.numbers.at in
    from-next c.args.order.now.items c.numbers.order.items c.push.new.self.items ns c.args.next at (slice_index ns at) (slice_get-get_or ns at 0 c.numbers-test.true) c.in_ok-push.ensures.items c.numbers.invariant

pub returns : goal.returns
returns c = from-ends c.args.order.now.items c.numbers.order.items c.args.numbers.now c.args.next c.numbers.at c.numbers-test.false c.numbers.invariant
