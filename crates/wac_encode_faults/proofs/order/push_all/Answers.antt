use Rattle.std.proofs.Common.{ap, sym, ◌∙◌, ◌++◌, arith}
use Rattle.std.proofs.lemmas.List.{append-nil, drop_all}
use Rattle.wac_encode_faults.specs.private.Order.{steps_into}
use Rattle.wac_encode_faults.proofs.FreeSets.{pushed_next}
use Rattle.wac_encode_faults.proofs.order.push_all.Goals as goal

pub interface_at-id-requires : goal.interface_at-id-requires
interface_at-id-requires c = let l = c.len-i-end.ensures.len in let t = c.loop-i-test.true in omega (arith, l, t)

pub loop-i-preserved : goal.loop-i-preserved
loop-i-preserved c = pushed_next c.args.interfaces.now.keys c.loop-i.i c.interface_at-id.result c.loop-i.pending.items c.push.new.self.items _ c.interface_at-id.ensures c.in_ok-push.ensures.items c.loop-i.invariant

pub returns : goal.returns
returns c =
    let past = c.loop-i-test.false in
    let counted = c.len-i-end.ensures.len in
    sym (append-nil c.loop-i.pending.items) ∙ ap (λ is. c.loop-i.pending.items ++ steps_into is) (sym (drop_all c.loop-i.i c.args.interfaces.now.keys (omega (arith, past, counted)))) ∙ c.loop-i.invariant
