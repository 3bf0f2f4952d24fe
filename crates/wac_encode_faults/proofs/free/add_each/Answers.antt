use Rattle.std.proofs.Common.{arith}
use Rattle.std.proofs.lemmas.Option.{slice_get-get_or}
use Rattle.wac_encode_faults.proofs.FreeParts.{joined_first, joined_next, joined_all}
use Rattle.wac_encode_faults.proofs.free.add_each.Goals as goal

pub loop-i-init : goal.loop-i-init
loop-i-init c = joined_first c.args.found.now.keys c.args.resources.now

pub loop-i-preserved : goal.loop-i-preserved
loop-i-preserved c =
    let less = c.loop-i-test.true in
    joined_next c.args.found.now.keys c.loop-i.found.keys c.insert.new.self.keys c.args.resources.now c.loop-i.i _ (slice_get-get_or c.args.resources.now c.loop-i.i _ (omega (arith, less))) c.loop-i.invariant c.in_ok-insert.ensures.keys

pub returns : goal.returns
returns c =
    let past = c.loop-i-test.false in
    joined_all c.args.found.now.keys c.loop-i.found.keys c.args.resources.now c.loop-i.i (omega (arith, past)) c.loop-i.invariant
