use Rattle.std.proofs.Common.{ap, sym, ◌∙◌, ◌++◌, arith, flat_map}
use Rattle.std.proofs.lemmas.List.{append-nil, drop_all}
use Rattle.wac_encode_interfaces.specs.private.InnerTypes.{interface_or_world, enter_all}
use Rattle.wac_encode_interfaces.proofs.InnerTypes.{types-next}
use Rattle.wac_encode_interfaces.proofs.inside.push_types.Goals as goal

pub loop-i-preserved : goal.loop-i-preserved
loop-i-preserved c = types-next c.args.types.now c.loop-i.i c.type_at.result c.loop-i.pending.items c.push_type.new.pending.items _ c.type_at.ensures c.in_ok-push_type.ensures c.loop-i.invariant

pub returns : goal.returns
returns c =
    let past = c.loop-i-test.false in
    sym (append-nil c.loop-i.pending.items) ∙ ap (λ is. c.loop-i.pending.items ++ enter_all (flat_map interface_or_world is)) (sym (drop_all c.loop-i.i c.args.types.now (omega (arith, past)))) ∙ c.loop-i.invariant
