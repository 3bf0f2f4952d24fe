use Rattle.std.proofs.Common.{◌∙◌}
use Rattle.wac_merge_agreement.proofs.lemmas.agreement.RestSets.{gain_all, gain_first, gain_next, gain_skip}
use Rattle.wac_merge_agreement.proofs.agreement.rests.put_others.Goals as goal

pub loop-b-init : goal.loop-b-init
loop-b-init c = gain_first c.args.own c.args.more.now.keys c.args.others.now.keys c.into_iter-b-iterator.result (c.into_iter-b-iterator.ensures.into_iter_gives ∙ c.iter-b-items.ensures.rest)

pub loop-b-preserved-in-Continue-1 : goal.loop-b-preserved-in-Continue-1
loop-b-preserved-in-Continue-1 c =
    gain_next c.args.own c.args.more.now.keys c.args.others.now.keys c.loop-b.others.keys c.loop-b.b-iterator c.next.new.self c.in-Some.b.now c.in-Some.ensures.steps c.loop-b.invariant c.if-b-own.true c.put.new.numbers.keys c.in_ok-put.ensures

pub loop-b-preserved : goal.loop-b-preserved
loop-b-preserved c =
    gain_skip c.args.own c.args.more.now.keys c.args.others.now.keys c.loop-b.others.keys c.loop-b.b-iterator c.next.new.self c.in-Some.b.now c.in-Some.ensures.steps c.loop-b.invariant c.if-b-own.false

pub returns : goal.returns
returns c = gain_all c.args.own c.args.more.now.keys c.args.others.now.keys c.loop-b.others.keys c.loop-b.b-iterator c.in-None.ensures.steps.0 c.loop-b.invariant
