use Rattle.std.proofs.Common.{arith}
use Rattle.wac_types_collection.proofs.lemmas.wide.Members.{at_in}
use Rattle.wac_encode_faults.proofs.ComponentFaults.{types_under_first, types_under_next, types_under_all}
use Rattle.wac_encode_faults.proofs.component.add_additional_types.Goals as goal

pub loop-i-init : goal.loop-i-init
loop-i-init c = types_under_first c.args.types.now c.args.additional.now.keys c.args.found.now.keys

pub interface_at-id-requires : goal.interface_at-id-requires
interface_at-id-requires c = let l = c.len-i-end.ensures.len in let t = c.loop-i-test.true in omega (arith, l, t)

pub add_types_under_id-requires : goal.add_types_under_id-requires
add_types_under_id-requires c = c.requires c.interface_at-id.result (at_in c.args.additional.now.keys c.loop-i.i c.interface_at-id.result c.interface_at-id.ensures)

pub loop-i-preserved : goal.loop-i-preserved
loop-i-preserved c =
    types_under_next c.args.types.now c.args.additional.now.keys c.loop-i.i c.interface_at-id.result c.args.found.now.keys c.loop-i.found.keys c.add_types_under_id.new.found.keys c.interface_at-id.ensures c.loop-i.invariant
    c.in_ok-add_types_under_id.ensures

pub returns : goal.returns
returns c =
    let past = c.loop-i-test.false in
    let counted = c.len-i-end.ensures.len in
    types_under_all c.args.types.now c.args.additional.now.keys c.loop-i.i c.args.found.now.keys c.loop-i.found.keys (omega (arith, past, counted)) c.loop-i.invariant
