use Rattle.std.proofs.Common.{ap, sym, ◌∙◌, ◌++◌, arith}
use Rattle.std.proofs.lemmas.List.{append-nil, drop_all}
use Rattle.wac_encode_faults.specs.private.Order.{interface_of, interfaces_of, steps_into}
use Rattle.wac_encode_faults.proofs.Ordering.{steps_next}
use Rattle.wac_encode_faults.proofs.order.push_items.Goals as goal

pub loop-i-preserved : goal.loop-i-preserved
loop-i-preserved c =
    steps_next c.args.items.now c.loop-i.i c.value_at.result.now c.loop-i.pending.items c.push_type.new.pending.items _ c.value_at.ensures
    (c.in_ok-push_type.ensures ∙ ap (λ t. c.loop-i.pending.items ++ steps_into (interface_of t)) c.ty.ensures) c.loop-i.invariant

pub returns : goal.returns
returns c =
    let past = c.loop-i-test.false in
    let counted = c.len-i-end.ensures in
    sym (append-nil c.loop-i.pending.items) ∙ ap (λ es. c.loop-i.pending.items ++ steps_into (interfaces_of es)) (sym (drop_all c.loop-i.i c.args.items.now (omega (arith, past, counted)))) ∙ c.loop-i.invariant
