use Rattle.std.proofs.Common.{ap, sym, ◌∙◌, ◌++◌, arith}
use Rattle.std.proofs.lemmas.List.{append-nil, drop_all}
use Rattle.wac_encode_interfaces.specs.private.InnerTypes.{interface_or_world, interfaces_and_worlds, enter_all}
use Rattle.wac_encode_interfaces.proofs.InnerTypes.{steps-next}
use Rattle.wac_encode_interfaces.proofs.inside.push_items.Goals as goal

pub loop-i-preserved : goal.loop-i-preserved
loop-i-preserved c =
    steps-next c.args.items.now c.loop-i.i c.value_at.result.now c.loop-i.pending.items c.push_type.new.pending.items _ c.value_at.ensures
    (c.in_ok-push_type.ensures ∙ ap (λ t. c.loop-i.pending.items ++ enter_all (interface_or_world t)) c.ty.ensures) c.loop-i.invariant

pub returns : goal.returns
returns c =
    let past = c.loop-i-test.false in
    let counted = c.len-i-end.ensures in
    sym (append-nil c.loop-i.pending.items) ∙ ap (λ is. c.loop-i.pending.items ++ enter_all (interfaces_and_worlds is)) (sym (drop_all c.loop-i.i c.args.items.now (omega (arith, past, counted)))) ∙ c.loop-i.invariant
