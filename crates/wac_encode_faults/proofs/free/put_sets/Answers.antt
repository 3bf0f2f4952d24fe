use Rattle.std.proofs.Common.{arith}
use Rattle.wac_encode_faults.proofs.FreeSets.{sets_last}
use Rattle.wac_encode_faults.proofs.free.put_sets.Goals as goal

pub loop-position-init : goal.loop-position-init
loop-position-init c = λ p j low at h. absurd (omega (arith, low))

pub put_set-requires-clause-position : goal.put_set-requires-clause-position
put_set-requires-clause-position c = let l = c.len-position-end.ensures.len in let t = c.loop-position-test.true in omega (arith, l, t)

pub returns : goal.returns
returns c =
    let past = c.loop-position-test.false in
    let counted = c.len-position-end.ensures.len in
    sets_last c.args.types.now c.args.roots.now.keys c.args.order.now.keys c.loop-position.position c.loop-position.sets.entries (omega (arith, past, counted)) c.requires.roots c.loop-position.invariant
