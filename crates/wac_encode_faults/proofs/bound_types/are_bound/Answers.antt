use Rattle.std.proofs.Common.{arith}
use Rattle.std.proofs.lemmas.Option.{slice_get-get_or, slice_get_within}
use Rattle.wac_encode_faults.proofs.Bounding.{bound_to_first, bound_to_next}
use Rattle.wac_encode_faults.proofs.bound_types.are_bound.Goals as goal

pub loop-i-init : goal.loop-i-init
loop-i-init c = bound_to_first c.args.types.now c.args.bound.now.keys c.args.found.now c.args.from

pub loop-i-preserved : goal.loop-i-preserved
loop-i-preserved c =
    let less = c.loop-i-test.true in
    bound_to_next c.args.types.now c.args.bound.now.keys c.args.found.now c.args.from c.loop-i.i _ (slice_get-get_or c.args.found.now c.loop-i.i _ (omega (arith, less))) (c.is_bound.ensures c.if-not-is_bound.false) c.loop-i.invariant

pub returns : goal.returns
returns c = λ is_true i r l at.
    let within = slice_get_within c.args.found.now i _ at in
    let past = c.loop-i-test.false in
    c.loop-i.invariant i r l (omega (arith, within, past)) at
