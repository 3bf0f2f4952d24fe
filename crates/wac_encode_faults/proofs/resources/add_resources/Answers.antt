use Rattle.std.proofs.Common.{arith}
use Rattle.std.proofs.lemmas.Option.{slice_get-get_or}
use Rattle.wac_encode_faults.proofs.FreeParts.{added_first, added_next, added_all}
use Rattle.wac_encode_faults.proofs.resources.add_resources.Goals as goal

pub loop-i-init : goal.loop-i-init
loop-i-init c = added_first c.args.types.now c.args.resources.now.keys c.args.found.now

pub loop-i-preserved : goal.loop-i-preserved
loop-i-preserved c =
    let less = c.loop-i-test.true in
    added_next c.args.types.now c.args.resources.now.keys c.loop-i.resources.keys c.add_resource.new.resources.keys c.args.found.now c.loop-i.i _ (slice_get-get_or c.args.found.now c.loop-i.i _ (omega (arith, less))) c.loop-i.invariant c.in_ok-add_resource.ensures

pub returns : goal.returns
returns c =
    let past = c.loop-i-test.false in
    added_all c.args.types.now c.args.resources.now.keys c.loop-i.resources.keys c.args.found.now c.loop-i.i (omega (arith, past)) c.loop-i.invariant
