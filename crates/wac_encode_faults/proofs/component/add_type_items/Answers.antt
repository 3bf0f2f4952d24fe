use Rattle.std.proofs.Common.{arith}
use Rattle.wac_encode_faults.proofs.ComponentFaults.{types_first, types_next, types_all}
use Rattle.wac_encode_faults.proofs.component.add_type_items.Goals as goal

pub loop-i-init : goal.loop-i-init
loop-i-init c = types_first c.args.items.now c.args.found.now.keys

pub loop-i-preserved : goal.loop-i-preserved
loop-i-preserved c = types_next c.args.items.now c.loop-i.i c.value_at-item.result.now c.args.found.now.keys c.loop-i.found.keys c.add_type_item.new.found.keys c.value_at-item.ensures c.loop-i.invariant c.in_ok-add_type_item.ensures

pub returns : goal.returns
returns c =
    let past = c.loop-i-test.false in
    let counted = c.len-i-end.ensures in
    types_all c.args.items.now c.loop-i.i c.args.found.now.keys c.loop-i.found.keys (omega (arith, past, counted)) c.loop-i.invariant
